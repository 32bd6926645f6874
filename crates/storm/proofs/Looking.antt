-- Properties of rising rows and of items without marks.
use Rattle.std.proofs.Common.{◌≤◌, ◌+◌, ◌≡◌, ◌↔◌, ℕ, suc, zero, Bool, false, List, [], ◌∷◌, ◌++◌, length, map, append-nil, Option, Some, None, refl, sym, ap, ◌∙◌, subst, arith}
use Rattle.std.specs.Prelude.{IfSome, IsPermutation, filter_map, slice_index_or}
use Rattle.std.specs.List.{AllAdjacentBelow, cons_option, list_any}
use Rattle.std.specs.List.Sorted.{IsNonDecreasingBy}
use Rattle.std.proofs.lemmas.List.Sorted.{IsNonDecreasingBy-from_all_adjacent, IsPermutation-refl}
use Rattle.change_list.specs.declared.write.Write.{Write}
use Rattle.change_list.specs.declared.item.Row.{Row}
use Rattle.change_list.specs.declared.item.Item.{Item}
use Rattle.change_list.specs.declared.item.Item.TheVariants as item
use Rattle.change_list.specs.Changes.{item_at, snapshot}
use Rattle.change_list.specs.Listings.{AreChanges, IsListing, is_mark, without_marks}
use Rattle.change_list.proofs.Items.{IsChange, item_is_change}
use Rattle.change_list.proofs.Pushing.{changes_none}
use Rattle.delivery_check.proofs.Parts.{rows_no_marks}
use Rattle.page_table.specs.Weights.{Same}
use Rattle.search.proofs.Rising.{Rises, same_permutation, sorted_is}
use Rattle.snapshot.proofs.Finding.{snapshot_rises}

module _ {X : Type 0} (n : X → ℕ) where
  adjacent : (xs : List X) → Rises n xs → AllAdjacentBelow (λ x y. n x ≤ n y) xs (length xs)
  adjacent [] rises k d there = absurd (omega (arith, there))
  adjacent (x ∷ xs) rises zero d there = omega (arith, rises.0 0 d (omega (arith, there)))
  adjacent (x ∷ xs) rises (suc k) d there =
      let next : suc (k + 1) ≡ suc k + 1 = omega arith in
      subst (λ m. n (slice_index_or xs k d) ≤ n (slice_index_or (x ∷ xs) m d)) next (adjacent xs rises.1 k d (omega (arith, there)))

  -- rising numbers never fall
  rises_sorted : (xs : List X) → Rises n xs → IsNonDecreasingBy n xs
  rises_sorted xs rises = IsNonDecreasingBy-from_all_adjacent n xs (adjacent xs rises)

module _ {K : Type 0} where
  -- leaving out the marks changes nothing if there are none
  pub unmarked : (items : List (Item K)) → list_any is_mark items ≡ false → without_marks items ≡ items
  unmarked [] none = refl
  unmarked (item.Mark n ∷ items) none = absurd (cc none)
  unmarked (item.Row row ∷ items) none = ap (λ l. item.Row row ∷ l) (unmarked items none)
  unmarked (item.Inserted row ∷ items) none = ap (λ l. item.Inserted row ∷ l) (unmarked items none)
  unmarked (item.Deleted n row ∷ items) none = ap (λ l. item.Deleted n row ∷ l) (unmarked items none)
  unmarked (item.Moved row other ∷ items) none = ap (λ l. item.Moved row other ∷ l) (unmarked items none)

  no_change_marked : (f : ℕ → Option (Item K)) → ((k : ℕ) → IfSome (f k) IsChange) → (ks : List ℕ) → list_any is_mark (filter_map f ks) ≡ false
  no_change_marked f change [] = refl
  no_change_marked f change (k ∷ ks) = by_item (f k) (change k) (no_change_marked f change ks)
    where
      by_item : (o : Option (Item K)) → IfSome o IsChange → list_any is_mark (filter_map f ks) ≡ false → list_any is_mark (cons_option o (filter_map f ks)) ≡ false
      by_item None change rest = rest
      by_item (Some (item.Row row)) change rest = rest
      by_item (Some (item.Inserted row)) change rest = rest
      by_item (Some (item.Deleted n row)) change rest = rest
      by_item (Some (item.Moved row other)) change rest = rest
      by_item (Some (item.Mark n)) change rest = absurd change

  rows_same : (rows others : List (Row K)) → map item.Row rows ≡ map item.Row others → rows ≡ others
  rows_same [] [] e = refl
  rows_same [] (r ∷ others) e = absurd (cc e)
  rows_same (r ∷ rows) [] e = absurd (cc e)
  rows_same (r ∷ rows) (q ∷ others) e =
      let first : r ≡ q = cc in
      let rest : map item.Row rows ≡ map item.Row others = cc in
      let same = rows_same rows others rest in
      cc (first, same)

module _ {K : Type 0} (wanted : K → Bool) (commits : List (Write K)) where
  -- changes contain no mark
  pub changes_unmarked : (from upto : ℕ) (items : List (Item K)) → AreChanges wanted from upto commits items → list_any is_mark items ≡ false
  changes_unmarked from upto items are = ap (list_any is_mark) are.is ∙ no_change_marked (item_at wanted commits) (item_is_change wanted commits) _

  -- a snapshot's rows rise
  pub snapshot_sorted : (n : ℕ) (rows : List (Row K)) → rows ≡ snapshot wanted n commits → IsNonDecreasingBy (λ (r : Row K). r.row) rows
  snapshot_sorted n rows is = subst (IsNonDecreasingBy (λ (r : Row K). r.row)) (sym is) (rises_sorted (λ (r : Row K). r.row) (snapshot wanted n commits) (snapshot_rises wanted n commits))

  module _ (arranged : (xs ys : List (Row K)) → Same xs ys → IsPermutation xs ys) (n : ℕ) (rows : List (Row K)) where
    found : IsNonDecreasingBy (λ (r : Row K). r.row) rows → IsListing wanted n n commits (without_marks (map item.Row rows)) → rows ≡ snapshot wanted n commits
    found rising l =
        let items : map item.Row rows ≡ map item.Row l.rows =
        sym (rows_no_marks rows) ∙ l.is ∙ ap (λ t. map item.Row l.rows ++ t) (changes_none wanted n commits) ∙ append-nil (map item.Row l.rows) in
        let same : Same rows (snapshot wanted n commits) =
        same_permutation (snapshot wanted n commits) rows (subst (IsPermutation (snapshot wanted n commits)) (sym (rows_same rows l.rows items)) l.each_once) in
        sorted_is (λ (r : Row K). r.row) arranged rows (snapshot wanted n commits) same rising (snapshot_rises wanted n commits)

    listed : n ≤ length commits → rows ≡ snapshot wanted n commits → IsListing wanted n n commits (without_marks (map item.Row rows))
    listed within is = record {
      from_before = omega arith;
      within = within;
      rows = rows;
      each_once = subst (IsPermutation (snapshot wanted n commits)) (sym is) (IsPermutation-refl (snapshot wanted n commits));
      is = rows_no_marks rows ∙ sym (append-nil (map item.Row rows)) ∙ ap (λ t. map item.Row rows ++ t) (sym (changes_none wanted n commits));
    }

    -- rising rows are exactly a snapshot's rows if they are a listing from its commit up to it
    pub found_alike : n ≤ length commits → IsNonDecreasingBy (λ (r : Row K). r.row) rows
        → IsListing wanted n n commits (without_marks (map item.Row rows)) ↔ (rows ≡ snapshot wanted n commits)
    found_alike within rising = (found rising, listed within)
