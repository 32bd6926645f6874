-- The entries of a list of commits, and what a commit changes.
use Rattle.std.proofs.Common.{◌≡◌, ◌+◌, ◌-◌, ◌<◌, ◌≤◌, ℕ, zero, suc, Bool, true, false, not, cond, List, [], ◌∷◌, ◌++◌, length, map, take, drop, filter, Option, Some, None, refl, sym, ap, ◌∙◌, arith, subst, append_assoc}
use Rattle.std.specs.Prelude.{nat_eq, option_map, slice_get}
use Rattle.std.specs.Option.{option_map_or}
use Rattle.std.proofs.lemmas.List.{append-nil, drop-append-le, length-append, map-append, take-append-drop, take-append-le, take_all, take_at}
use Rattle.change_list.specs.declared.item.Row.{Row}
use Rattle.change_list.specs.declared.write.Write.{Write}
use Rattle.change_list.specs.declared.write.Write.TheVariants.{Insert, Delete, Move}
use Rattle.change_list.specs.Changes.{IsLegal, row_at, rows}
use Rattle.change_list.proofs.Lists.{slice_get_end, slice_get_before, slice_get_push}
use Rattle.change_list.proofs.Made.{row_found}
use Rattle.change_list.proofs.Tracking.{legal_taken, take_before}
use Rattle.revisions.specs.declared.change.MapChange.{MapChange}
use Rattle.revisions.specs.declared.entry.MapEntry.{MapEntry}
use Rattle.revisions.specs.Maps.{AreApart, changed, entries_after, has_id, with_change, with_key, without_id}
use Rattle.revisions.proofs.Applying.{all_kept, apart_changed}
use Rattle.map.specs.Generations.{AreById, IsMapList, IsRowOfId, KeepsIds, change_of, changes_behind, entries_from, entry_of, id_of, is_row_of, map_of, row_of_id}
use Rattle.map.proofs.Ids.{IsOf, has_id_from, none_found, others, rows_deleted, rows_inserted, rows_moved, without_from}

module _ {K : Type 0} where
  -- a commit changes the entries as it says
  pub entries_step : (commits : List (Write K)) (write : Write K) → IsLegal commits → KeepsIds commits write → AreApart (entries_from (rows commits))
      → entries_from (rows (commits ++ write ∷ [])) ≡ changed (entries_from (rows commits)) (change_of commits write)
  entries_step commits (Insert key tag) legal keeps apart =
      let new : Row K = record { row = length commits + 1; key = key; tag = tag } in
      let none : has_id tag (entries_from (rows commits)) ≡ false = has_id_from tag (rows commits) ∙ none_found (is_row_of tag) (rows commits) keeps in
      ap entries_from (rows_inserted commits key tag legal) ∙ map-append entry_of (rows commits) (new ∷ [])
      ∙ ap (λ l. l ++ entry_of new ∷ []) (sym (all_kept (λ e. nat_eq e.id tag) (entries_from (rows commits)) none))
  entries_step commits (Delete row) legal keeps apart =
      let r = keeps.found in
      let number : r.row ≡ row = (row_found commits row r keeps.is).0 in
      let id : id_of commits row ≡ r.tag = ap (λ o. option_map_or (λ (x : Row K). x.tag) o 0) keeps.is in
      ap (λ n. entries_from (rows (commits ++ Delete n ∷ []))) (sym number)
      ∙ ap entries_from (rows_deleted commits r.tag r keeps.of_id apart)
      ∙ without_from r.tag (rows commits)
      ∙ ap (λ n. without_id n (entries_from (rows commits))) (sym id)
  entries_step commits (Move row key) legal keeps apart =
      let r = keeps.found in
      let number : r.row ≡ row = (row_found commits row r keeps.is).0 in
      let id : id_of commits row ≡ r.tag = ap (λ o. option_map_or (λ (x : Row K). x.tag) o 0) keeps.is in
      let new : Row K = record { row = length commits + 1; key = key; tag = r.tag } in
      ap (λ n. entries_from (rows (commits ++ Move n key ∷ []))) (sym number)
      ∙ ap entries_from (rows_moved commits r.tag r keeps.of_id apart key legal)
      ∙ map-append entry_of (others r.tag (rows commits)) (new ∷ [])
      ∙ ap (λ l. l ++ entry_of new ∷ []) (without_from r.tag (rows commits))
      ∙ ap (λ n. with_key n key (entries_from (rows commits))) (sym id)

  -- commits one after the other
  pub changes_push : (before commits : List (Write K)) (write : Write K) → changes_behind before (commits ++ write ∷ []) ≡ changes_behind before commits ++ change_of (before ++ commits) write ∷ []
  changes_push before [] write = ap (λ l. change_of l write ∷ []) (sym (append-nil before))
  changes_push before (w ∷ commits) write = ap (λ l. change_of before w ∷ l) (changes_push (before ++ w ∷ []) commits write ∙ ap (λ l. changes_behind (before ++ w ∷ []) commits ++ change_of l write ∷ []) (append_assoc before (w ∷ []) commits))

  -- a commit more is a change more
  pub map_push : (oldest begun : ℕ) (commits : List (Write K)) (write : Write K) → begun ≤ length commits → map_of oldest begun (commits ++ write ∷ []) ≡ with_change (change_of commits write) (map_of oldest begun commits)
  map_push oldest begun commits write within =
      let first : take begun (commits ++ write ∷ []) ≡ take begun commits = take-append-le begun commits (write ∷ []) within in
      let rest : drop begun (commits ++ write ∷ []) ≡ drop begun commits ++ write ∷ [] = drop-append-le begun commits (write ∷ []) within in
      let changes : changes_behind (take begun commits) (drop begun commits ++ write ∷ []) ≡ changes_behind (take begun commits) (drop begun commits) ++ change_of commits write ∷ [] =
      changes_push (take begun commits) (drop begun commits) write ∙ ap (λ l. changes_behind (take begun commits) (drop begun commits) ++ change_of l write ∷ []) (take-append-drop begun commits) in
      ap (λ l. record { oldest = oldest; first = entries_from (rows l); changes = changes_behind l (drop begun (commits ++ write ∷ [])) }) first
      ∙ ap (λ l. record { oldest = oldest; first = entries_from (rows (take begun commits)); changes = changes_behind (take begun commits) l }) rest
      ∙ ap (λ l. record { oldest = oldest; first = entries_from (rows (take begun commits)); changes = l }) changes
