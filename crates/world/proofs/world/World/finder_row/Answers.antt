use Rattle.std.proofs.Common.{sym, ap, ◌∙◌}
use Rattle.world.specs.Serials.{IsMember}
use Rattle.world.specs.States.{finder_at}
use Rattle.world.proofs.Meeting.{finder_is}
use Rattle.world.proofs.world.World.finder_row.Goals as goal

pub returns-clause-row : goal.returns-clause-row
returns-clause-row g c =
    let a : IsMember (λ k. k.serial) c.self.inside.finders.items c.args.f c.in_ok-at.at = rw c.as_slice.ensures.value at c.in_ok-at.ensures in
    let same = finder_is g.C.KeyClass.rules.is_cover _ c.self.invariant c.args.f c.in_ok-at.at a c.index.result.now c.index.ensures in
    (a.value, ap (λ s. finder_at s c.args.f) (sym c.self.view_is) ∙ a.found, ap (λ k. k.row) same ∙ sym (c.from.ensures ∙ c.row.ensures))
