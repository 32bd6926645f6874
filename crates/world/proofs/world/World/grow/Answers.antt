use Rattle.std.proofs.Common.{ap}
use Rattle.world.proofs.PageSteps.{grown_sound}
use Rattle.world.proofs.world.World.grow.Goals as goal
use Rattle.world.proofs.world.World.grow.Goals.{in-Ok, in-Err}

pub invariant_of-self : goal.invariant_of-self
invariant_of-self g c =
    let e = c.grow.ensures in
    grown_sound g.C.KeyClass.rules.is_cover g.C.KeyClass.rules.union_of g.met.C.KeyClass.lawful.bounds _ c.self.invariant c.grow.result c.grow.new.self e.unchanged c.args.sides.now e.passed e.grown

pub returns : goal.returns
returns g c = λ seat.
    elim c.match-grow.branch [
      | in-Ok w ↦
          rw (w.result-is, ← c.self.view_is) (record {
            passed = w.in-Ok.ensures.passed;
            change = (w.in-Ok.ensures.pages.0, w.in-Ok.ensures.pages.1, ap (λ search. record { search = search; limit = c.self.inside.limit; commits = c.self.inside.changes; cursors = c.self.inside.cursors.items; last = c.self.inside.last; finders = c.self.inside.finders.items; last_finder = c.self.inside.last_finder }) w.in-Ok.ensures.grown);
          })
      | in-Err w ↦
          rw (w.result-is, ← c.self.view_is) (record {
            cause = w.in-Err.ensures.refused;
            unchanged = ap (λ search. record { search = search; limit = c.self.inside.limit; commits = c.self.inside.changes; cursors = c.self.inside.cursors.items; last = c.self.inside.last; finders = c.self.inside.finders.items; last_finder = c.self.inside.last_finder }) w.in-Err.ensures.unchanged;
          })
    ]
