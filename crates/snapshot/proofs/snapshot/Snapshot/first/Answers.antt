use Rattle.std.proofs.Common.{subst}
use Rattle.key_class.specs.Rules.{satisfies}
use Rattle.snapshot.specs.Finds.{AreFirst, live_after}
use Rattle.snapshot.specs.Snapshots.{found_in}
use Rattle.snapshot.proofs.snapshot.Snapshot.first.Goals as goal

pub returns-clause-ok : goal.returns-clause-ok
returns-clause-ok g c =
    let rules = g.C.KeyClass.rules in
    let rows = c.in_ok-rows.rows.items in
    subst (λ l. AreFirst (found_in rules c.args.query.now l) c.args.limit rows) c.self.view_is
    (subst (λ q. AreFirst (live_after (satisfies rules q) c.self.inside.list) c.args.limit rows) c.in_ok-query.ensures.ok
    (c.in_ok-rows.ensures c.self.inside.list c.self.invariant.few c.self.invariant.agrees))
