use Rattle.std.proofs.Common.{ap}
use Rattle.world.proofs.PageSteps.{posted_sound}
use Rattle.world.proofs.world.World.post.Goals as goal
use Rattle.world.proofs.world.World.post.Goals.{in-Ok, in-Err}

pub invariant_of-self : goal.invariant_of-self
invariant_of-self g c =
    let e = c.post.ensures in
    posted_sound g.C.KeyClass.rules.is_cover g.C.KeyClass.rules.union_of g.met.C.KeyClass.lawful.bounds _ c.self.invariant c.post.result c.post.new.self e.unchanged c.args.parent c.args.child e.passed e.posted

pub returns : goal.returns
returns g c = λ seat.
    elim c.match-post.branch [
      | in-Ok w ↦
          let posted = w.in-Ok.ensures.posted in
          rw (w.result-is, ← c.self.view_is) (record {
            passed = w.in-Ok.ensures.passed;
            change = record { sibling = posted.0; is_right = posted.1; after = ap (λ search. record { search = search; limit = c.self.inside.limit; commits = c.self.inside.changes; cursors = c.self.inside.cursors.items; last = c.self.inside.last; finders = c.self.inside.finders.items; last_finder = c.self.inside.last_finder }) posted.2 };
          })
      | in-Err w ↦
          rw (w.result-is, ← c.self.view_is) (record {
            cause = w.in-Err.ensures.refused;
            unchanged = ap (λ search. record { search = search; limit = c.self.inside.limit; commits = c.self.inside.changes; cursors = c.self.inside.cursors.items; last = c.self.inside.last; finders = c.self.inside.finders.items; last_finder = c.self.inside.last_finder }) w.in-Err.ensures.unchanged;
          })
    ]
