use Rattle.std.proofs.Common.{ap, ◌∙◌, subst}
use Rattle.world.specs.States.{IsAtWork}
use Rattle.world.proofs.Sounding.{fresh_at_work}
use Rattle.world.proofs.world.World.open.Goals as goal

pub add_cursor-requires-clause-at_work : goal.add_cursor-requires-clause-at_work
add_cursor-requires-clause-at_work g c =
    let e = c.new-cursor.ensures.new in
    subst (λ s. IsAtWork s.search.tree s.commits c.new-cursor.result) c.self.view_is
    (fresh_at_work g.C.KeyClass.rules.is_cover _ c.self.invariant c.new-cursor.result c.len-opened.result c.counter-counter.result c.len-opened.ensures.len (c.counter-counter.ensures ∙ ap (λ t. t.counter) c.pages.ensures.table)
    (ap (λ k. k.stack) e) (ap (λ k. k.opened) e) (ap (λ k. k.position) e))
