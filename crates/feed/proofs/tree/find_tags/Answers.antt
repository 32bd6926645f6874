use Rattle.std.proofs.Common.{◌≡◌, ◌++◌, map, sym, ap, subst, ◌∙◌, arith}
use Rattle.std.specs.Prelude.{IsPermutation}
use Rattle.std.proofs.lemmas.List.{take_all}
use Rattle.std.proofs.lemmas.List.Sorted.{IsPermutation-append, IsPermutation-map, IsPermutation-refl}
use Rattle.key_class.specs.declared.pred.Pred.TheVariants.{Atom}
use Rattle.snapshot.specs.Snapshots.{found_in}
use Rattle.feed.specs.Planting.{tags_at}
use Rattle.feed.proofs.tree.find_tags.Goals as goal

pub returns-clause-ok : goal.returns-clause-ok
returns-clause-ok g c =
    let rules = g.C.KeyClass.rules in
    let overlap_with = g.C.Reach.overlap_with in
    let commits = c.args.tree.now.commits in
    let old = c.args.tags.now.items in
    let found = c.in_ok-rows.rows.items in
    let all = found_in rules (Atom (overlap_with c.in-Some.touched.key)) commits in
    let same : IsPermutation found all = subst (λ a. IsPermutation found (found_in rules (Atom a) commits)) c.overlapping.ensures c.in_ok-rows.ensures.ok in
    let told : c.loop-row.tags.items ≡ old ++ map (λ row. row.tag) found =
    c.loop-row.invariant ∙ ap (λ rows. old ++ map (λ row. row.tag) rows) (take_all c.loop-row.row-index c.deref-row-items.result.now (omega (arith, c.loop-row-test.false)) ∙ c.deref-row-items.ensures.value) in
    subst (λ o. IsPermutation c.loop-row.tags.items (old ++ tags_at rules overlap_with commits o)) (sym c.in-Some.is)
    (subst (λ tags. IsPermutation tags (old ++ map (λ row. row.tag) all)) (sym told)
    (IsPermutation-append old old (map (λ row. row.tag) found) (map (λ row. row.tag) all) (IsPermutation-refl old) (IsPermutation-map (λ row. row.tag) found all same)))
