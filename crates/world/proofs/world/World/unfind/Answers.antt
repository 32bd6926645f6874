use Rattle.std.proofs.Common.{ap, refl}
use Rattle.world.specs.Serials.{IsMember}
use Rattle.world.proofs.FinderSteps.{unfound_sound}
use Rattle.world.proofs.Meeting.{finder_gone}
use Rattle.world.proofs.world.World.unfind.Goals as goal

pub invariant_of-self : goal.invariant_of-self
invariant_of-self g c =
    let a : IsMember (λ k. k.serial) c.self.inside.finders.items c.args.f c.in-Some.place = rw c.as_slice.ensures.value at c.in-Some.ensures in
    let gone = finder_gone g.C.KeyClass.rules.is_cover _ c.self.invariant c.args.f c.in-Some.place a c.let_go.new.members.items c.let_go.ensures in
    unfound_sound g.C.KeyClass.rules.is_cover _ c.self.invariant c.args.f _ (ap (λ finders. record { search = c.self.inside.search; limit = c.self.inside.limit; commits = c.self.inside.changes; cursors = c.self.inside.cursors.items; last = c.self.inside.last; finders = finders; last_finder = c.self.inside.last_finder }) gone)

pub returns-in-Some : goal.returns-in-Some
returns-in-Some g c = λ seat.
    let a : IsMember (λ k. k.serial) c.self.inside.finders.items c.args.f c.in-Some.place = rw c.as_slice.ensures.value at c.in-Some.ensures in
    let gone = finder_gone g.C.KeyClass.rules.is_cover _ c.self.invariant c.args.f c.in-Some.place a c.let_go.new.members.items c.let_go.ensures in
    rw (← c.self.view_is) (record {
      passed = rw a.found refl;
      change = ap (λ finders. record { search = c.self.inside.search; limit = c.self.inside.limit; commits = c.self.inside.changes; cursors = c.self.inside.cursors.items; last = c.self.inside.last; finders = finders; last_finder = c.self.inside.last_finder }) gone;
    })
