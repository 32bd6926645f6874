use Rattle.std.proofs.Common.{◌≡◌, sym, ap, subst, ◌∙◌, arith}
use Rattle.key_class.specs.Rules.{satisfies}
use Rattle.scan.specs.Agreement.{Agrees}
use Rattle.snapshot.specs.Finds.{AreFirst, live_after}
use Rattle.store.specs.States.{matching_rows}
use Rattle.store.proofs.store.Store.first.Goals as goal

pub returns-clause-ok : goal.returns-clause-ok
returns-clause-ok g c =
    let rules = g.C.KeyClass.rules in
    let world = c.self.inside.world in
    let sound = c.recall_soundness.ensures in
    let rows = c.in_ok-rows.rows.items in
    let same : c.pages.result.now ≡ world.search.tree = c.pages.ensures.table ∙ ap (λ t. t.tree) c.search.ensures in
    subst (λ s. AreFirst (matching_rows rules s c.args.query.now) c.args.limit rows) c.self.view_is
    (subst (λ q. AreFirst (live_after (satisfies rules q) world.commits) c.args.limit rows) c.in_ok-query.ensures.ok
    (c.in_ok-rows.ensures world.commits (omega (arith, sound.few_commits, sound.commit_limit)) (subst (λ t. Agrees t world.commits) (sym same) sound.agrees)))
