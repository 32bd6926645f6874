-- How many rows there are once a commit is made.
use Rattle.std.proofs.Common.{◌≡◌, ◌+◌, ◌≤◌, ℕ, not, List, [], ◌∷◌, ◌++◌, length, map, Option, Some, None, refl, sym, ap, ◌∙◌, arith}
use Rattle.std.specs.Prelude.{option_to_list}
use Rattle.std.proofs.lemmas.List.{length-append, length-map}
use Rattle.std.proofs.lemmas.List.Filters.{length-filter_both}
use Rattle.change_list.specs.declared.item.Row.{Row}
use Rattle.change_list.specs.declared.write.Write.{Write}
use Rattle.change_list.specs.declared.write.Write.TheVariants.{Insert, Delete, Move}
use Rattle.change_list.specs.Changes.{IsLegal, is_ended, made_row, made_rows, rows}
use Rattle.change_list.proofs.Lists.{by_pushes}
use Rattle.change_list.proofs.Made.{made_none, made_push}
use Rattle.revisions.specs.Maps.{AreApart}
use Rattle.revisions.proofs.Counting.{one_without}
use Rattle.map.specs.Generations.{entries_from, entry_of, is_row_of, row_of_id}
use Rattle.map.proofs.Ids.{has_id_from, others, rows_deleted, rows_inserted, rows_moved, without_from}
use Rattle.map.proofs.Reading.{found_any}

module _ {K : Type 0} (commits : List (Write K)) where
  -- no more rows than commits
  pub rows_few : length (rows commits) ≤ length commits
  rows_few = omega (arith, length-filter_both (λ (r : Row K). is_ended commits r.row) (λ r. not (is_ended commits r.row)) (λ r. refl) (made_rows commits), made_few commits)
    where
      made_few : (commits : List (Write K)) → length (made_rows commits) ≤ length commits
      made_few commits = by_pushes (λ cs. length (made_rows cs) ≤ length cs) (omega (arith, ap length (made_none {K = K}))) more commits
        where
          at_most_one : (o : Option (Row K)) → length (option_to_list o) ≤ 1
          at_most_one (Some r) = omega arith
          at_most_one None = omega arith

          more : (cs : List (Write K)) (write : Write K) → length (made_rows cs) ≤ length cs → length (made_rows (cs ++ write ∷ [])) ≤ length (cs ++ write ∷ [])
          more cs write h =
              let o = made_row (made_rows cs) (length cs + 1) write in
              omega (arith, h, ap length (made_push cs write), length-append (made_rows cs) (option_to_list o), at_most_one o, length-append cs (write ∷ []))

  pub one_more_inserted : (key : K) (id : ℕ) → IsLegal commits → length (rows (commits ++ Insert key id ∷ [])) ≡ length (rows commits) + 1
  one_more_inserted key id legal = ap length (rows_inserted commits key id legal) ∙ length-append (rows commits) _

  module _ (id : ℕ) (r : Row K) (at : row_of_id id (rows commits) ≡ Some r) (apart : AreApart (entries_from (rows commits))) where
    one_other : length (others id (rows commits)) + 1 ≡ length (rows commits)
    one_other =
        let has = has_id_from id (rows commits) ∙ found_any (is_row_of id) (rows commits) r at in
        let entries = ap length (without_from id (rows commits)) in
        omega (arith, one_without id (entries_from (rows commits)) apart has, entries, length-map (others id (rows commits)) entry_of, length-map (rows commits) entry_of)

    pub one_fewer_deleted : length (rows (commits ++ Delete r.row ∷ [])) + 1 ≡ length (rows commits)
    one_fewer_deleted = omega (arith, ap length (rows_deleted commits id r at apart), one_other)

    pub as_many_moved : (key : K) → IsLegal commits → length (rows (commits ++ Move r.row key ∷ [])) ≡ length (rows commits)
    as_many_moved key legal =
        let made : List (Row K) = (record { row = length commits + 1; key = key; tag = id }) ∷ [] in
        omega (arith, ap length (rows_moved commits id r at apart key legal), length-append (others id (rows commits)) made, one_other)
