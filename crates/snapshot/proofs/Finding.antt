-- The rows of a snapshot have rising numbers, so that the same rows, sorted by number, are the snapshot.
use Rattle.std.proofs.Common.{◌≡◌, ◌+◌, ◌<◌, ◌≤◌, ℕ, Bool, not, List, [], ◌∷◌, ◌++◌, length, take, Option, None, Some, refl, sym, subst, arith}
use Rattle.std.specs.Prelude.{IsPermutation, option_to_list}
use Rattle.std.specs.List.Sorted.{IsNonDecreasingBy}
use Rattle.std.proofs.lemmas.List.{append-nil}
use Rattle.std.proofs.lemmas.List.Elements.{All-weaker}
use Rattle.change_list.proofs.Lists.{by_pushes}
use Rattle.change_list.proofs.Made.{made_none, made_number, made_push, rows_within}
use Rattle.change_list.specs.Changes.{is_ended, made_row, made_rows, rows, snapshot}
use Rattle.change_list.specs.declared.item.Row.{Row}
use Rattle.change_list.specs.declared.write.Write.{Write}
use Rattle.page_table.specs.Weights.{Same}
use Rattle.search.proofs.Rising.{Rises, rises_filtered, rises_push, sorted_is}

module _ {K : Type 0} where
  -- the rows that were made have rising numbers
  rows_rise : (commits : List (Write K)) → Rises (λ (r : Row K). r.row) (made_rows commits)
  rows_rise commits = by_pushes (λ cs. Rises (λ (r : Row K). r.row) (made_rows cs)) (subst (λ l. Rises (λ (r : Row K). r.row) l) (sym made_none) tt) more commits
    where
      more : (cs : List (Write K)) (write : Write K) → Rises (λ (r : Row K). r.row) (made_rows cs) → Rises (λ (r : Row K). r.row) (made_rows (cs ++ write ∷ []))
      more cs write rises = subst (λ l. Rises (λ (r : Row K). r.row) l) (sym (made_push cs write)) (by_row (made_row (made_rows cs) (length cs + 1) write) refl)
        where
          by_row : (o : Option (Row K)) → made_row (made_rows cs) (length cs + 1) write ≡ o → Rises (λ (r : Row K). r.row) (made_rows cs ++ option_to_list o)
          by_row None e = subst (λ l. Rises (λ (r : Row K). r.row) l) (sym (append-nil (made_rows cs))) rises
          by_row (Some r) e =
              let number = made_number (made_rows cs) (length cs + 1) write r e in
              rises_push (λ (r : Row K). r.row) (made_rows cs) r
              (All-weaker (λ (x : Row K). (0 < x.row) × (x.row ≤ length cs)) (λ (x : Row K). x.row < r.row) (λ x w. omega (arith, w.1, number)) (made_rows cs) (rows_within cs)) rises

  -- the rows of a snapshot have rising numbers
  pub snapshot_rises : (wanted : K → Bool) (s : ℕ) (commits : List (Write K)) → Rises (λ (r : Row K). r.row) (snapshot wanted s commits)
  snapshot_rises wanted s commits =
      let first = take s commits in
      rises_filtered (λ (r : Row K). r.row) (λ r. wanted r.key) (rows first)
      (rises_filtered (λ (r : Row K). r.row) (λ r. not (is_ended first r.row)) (made_rows first) (rows_rise first))

  -- its rows, sorted by number, are the snapshot
  pub sorted_snapshot : ((xs ys : List (Row K)) → Same xs ys → IsPermutation xs ys) → (wanted : K → Bool) (s : ℕ) (commits : List (Write K)) (sorted : List (Row K))
      → Same sorted (snapshot wanted s commits) → IsNonDecreasingBy (λ (r : Row K). r.row) sorted → sorted ≡ snapshot wanted s commits
  sorted_snapshot arranged wanted s commits sorted same rising = sorted_is (λ (r : Row K). r.row) arranged sorted (snapshot wanted s commits) same rising (snapshot_rises wanted s commits)
