use Rattle.std.proofs.Common.{rules, ◌≡◌, ◌++◌, [], ◌∷◌, Some, All, sym, ◌∙◌, subst}
use Rattle.std.proofs.lemmas.List.Elements.{All-push}
use Rattle.std.proofs.lemmas.List.Sorted.{All-permutation, IsPermutation-sym}
use Rattle.key_class.specs.declared.pred.Pred.TheVariants.{Atom}
use Rattle.change_list.specs.Changes.{row_at}
use Rattle.feed.specs.Planting.{AreTagged, IsTagged}
use Rattle.feed.proofs.Tending.{found_made}
use Rattle.feed.proofs.tree.tagged_rows.Goals as goal
use Rattle.feed.proofs.tree.tagged_rows.Goals.{then-row-tag+in_ok-push, else-row-tag}

pub loop-row-preserved : goal.loop-row-preserved
loop-row-preserved g c =
    let commits = c.args.tree.now.commits in
    let tag = c.args.tag in
    let row = c.row-item.result in
    let found = c.in_ok-found.found.items in
    let made_rows : All (λ r. row_at commits r.row ≡ Some r) found = All-permutation (λ r. row_at commits r.row ≡ Some r) _ found (IsPermutation-sym found _ c.in_ok-found.ensures.ok) (found_made g.C.KeyClass.rules (Atom c.same.result) commits) in
    let all : All (λ r. row_at commits r.row ≡ Some r) c.deref-row-items.result.now = subst (λ l. All (λ r. row_at commits r.row ≡ Some r) l) (sym c.deref-row-items.ensures.value) made_rows in
    let made : row_at commits row.row ≡ Some row = subst (λ r. row_at commits r.row ≡ Some r) (sym c.row-item.is) (all c.loop-row.row-index row c.loop-row-test.true) in
    elim c.if-row-tag.branch [
      | then-row-tag+in_ok-push w ↦
          let pushed : w.push.new.self.items ≡ c.loop-row.rows.items ++ row.row ∷ [] = search rules in
          rw (w.rows-is)
          (subst (λ l. AreTagged commits tag l) (sym pushed) (All-push (IsTagged commits tag) c.loop-row.rows.items row.row c.loop-row.invariant (record { row = row; is = made; has_tag = w.if-row-tag.true })))
      | else-row-tag w ↦ rw (w.rows-is) c.loop-row.invariant
    ]
