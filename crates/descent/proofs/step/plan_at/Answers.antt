use Rattle.std.proofs.Common.{sym, ◌∙◌, ap, subst, arith, ◌≡◌}
use Rattle.node.specs.Pages.{entries_of}
use Rattle.page_table.specs.Trees.{page_at}
use Rattle.descent.specs.Choosing.{IsBest}
use Rattle.descent.specs.NextSteps.{HasRoom, IsChosen}
use Rattle.descent.proofs.Descending.{chosen_best}
use Rattle.descent.proofs.step.plan_at.Goals as goal
use Rattle.descent.proofs.step.plan_at.Goals.{else-page-eq0-via-then-page-eq0+else-fan-entry_count, else-page-eq0-via-else-page-eq0}

pub plan_below-requires-clause-chosen : goal.plan_below-requires-clause-chosen
plan_below-requires-clause-chosen g c =
    let here : c.page-here.result.now ≡ page_at c.args.search.now.tree c.args.page = c.page-here.ensures ∙ ap (λ t. page_at t c.args.page) c.pages.ensures.table in
    let entries : entries_of c.page-here.result.now ≡ entries_of (page_at c.args.search.now.tree c.args.page) = ap entries_of here in
    let room : HasRoom c.args.search.now c.args.page = elim c.else-page-eq0.branch [
      | else-page-eq0-via-then-page-eq0+else-fan-entry_count w ↦ omega (arith, w.if-fan-entry_count.false, w.fan.ensures, w.entry_count.ensures, entries)
      | else-page-eq0-via-else-page-eq0 w ↦ c.requires.room w.if-page-eq0.false
    ] in
    subst (λ b. IsChosen g.C.KeyClass.rules.union_of g.C.KeyClass.rules.size_of c.args.search.now c.args.page c.args.key b.child) (sym c.get-child.ensures)
    (chosen_best g.C.KeyClass.rules.union_of g.C.KeyClass.rules.size_of c.args.search.now c.args.page c.args.key room c.branches-2.result.now (c.branches-2.ensures ∙ ap (λ page. page.branches) here) c.in-Some.best
    (subst (λ bs. IsBest g.C.KeyClass.rules.union_of g.C.KeyClass.rules.size_of c.args.key bs c.in-Some.best) (c.branches.ensures ∙ sym c.branches-2.ensures) c.in-Some.ensures.best)
    c.get-child.result)
