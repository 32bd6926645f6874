-- What the items of commits tell of the entries.
use Rattle.std.proofs.Common.{◌≡◌, ◌+◌, ◌-◌, ◌<◌, ◌≤◌, ℕ, zero, suc, Bool, true, false, not, cond, List, [], ◌∷◌, ◌++◌, length, map, take, drop, filter, get_or, Option, Some, None, refl, sym, ap, ◌∙◌, arith, subst}
use Rattle.std.specs.Prelude.{nat_eq, option_map, option_and_then, option_to_list, slice_get}
use Rattle.std.specs.List.{filter_map, range_with_len}
use Rattle.std.specs.Option.{option_map_or}
use Rattle.std.proofs.lemmas.List.{drop-drop, drop_more, map-append, length-take-le, take_more}
use Rattle.std.proofs.lemmas.Option.{get_or_from_slice_get}
use Rattle.change_list.specs.declared.item.Item.{Item}
use Rattle.change_list.specs.declared.item.Item.TheVariants as item
use Rattle.change_list.specs.declared.item.Row.{Row}
use Rattle.change_list.specs.declared.write.Write.{Write}
use Rattle.change_list.specs.declared.write.Write.TheVariants.{Insert, Delete, Move}
use Rattle.change_list.specs.Changes.{changes, deleted_item, if_wanted, item_at, item_of as commit_item, moved, moved_from, moved_item, row_at, rows}
use Rattle.change_list.proofs.Lists.{filter_map_cons, slice_get_found}
use Rattle.change_list.proofs.Made.{row_found, row_taken}
use Rattle.change_list.proofs.Pushing.{changes_next, changes_none}
use Rattle.change_list.proofs.Tracking.{legal_taken}
use Rattle.revisions.specs.declared.change.MapChange.{MapChange}
use Rattle.revisions.specs.declared.change.MapChange.TheVariants.{Put, Remove}
use Rattle.revisions.specs.declared.item.MapItem.{MapItem}
use Rattle.revisions.specs.declared.item.MapItem.TheVariants.{Entered, Moved, Left}
use Rattle.revisions.specs.Items.{is_shown, item_of, items_after, items_between, left_item, put_item}
use Rattle.revisions.specs.Maps.{changed, entries_at, key_at}
use Rattle.revisions.proofs.Forgetting.{taken_twice}
use Rattle.map.specs.Generations.{IsMapList, KeepsIds, change_of, changes_behind, entries_from, entry_of, id_of, map_of, row_of_id}
use Rattle.map.specs.Items.{map_item}
use Rattle.map.proofs.Entering.{entries_step}
use Rattle.map.proofs.Faithful.{changes_dropped, entries_then, ids_taken, rows_apart}
use Rattle.map.proofs.Ids.{find_from}

module _ {K : Type 0} (wanted : K → Bool) where
  shown_row : (id : ℕ) (rs : List (Row K)) (r : Row K) → row_of_id id rs ≡ Some r → is_shown wanted id (entries_from rs) ≡ wanted r.key
  shown_row id rs r at = ap (λ o. option_map_or wanted (option_map (λ e. e.key) o) false) (find_from id rs ∙ ap (option_map entry_of) at)

  shown_none : (id : ℕ) (rs : List (Row K)) → row_of_id id rs ≡ None → is_shown wanted id (entries_from rs) ≡ false
  shown_none id rs at = ap (λ o. option_map_or wanted (option_map (λ e. e.key) o) false) (find_from id rs ∙ ap (option_map entry_of) at)

  -- The item of a commit is that of its change. `all` is a list that begins with the commits before and has all
  -- their rows; `since` is the difference of revisions and commits.
  pub item_tells : (oldest begun : ℕ) (all before : List (Write K)) (n : ℕ) (write : Write K) → n ≡ length before + 1 → ((k : ℕ) (r : Row K) → row_at before k ≡ Some r → row_at all k ≡ Some r) → KeepsIds before write
      → option_map (map_item oldest begun all) (commit_item wanted before n write) ≡ item_of wanted (oldest + (n - begun)) (entries_from (rows before)) (change_of before write)
  item_tells oldest begun all before n (Insert key tag) e stays keeps =
      by_test (wanted key) ∙ ap (λ b. put_item wanted (oldest + (n - begun)) tag key b (wanted key)) (sym (shown_none tag (rows before) keeps))
    where
      by_test : (b : Bool) → option_map (map_item oldest begun all) (if_wanted b (item.Inserted (record { row = n; key = key; tag = tag }))) ≡ put_item wanted (oldest + (n - begun)) tag key false b
      by_test true = refl
      by_test false = refl
  item_tells oldest begun all before n (Delete row) e stays keeps =
      let r = keeps.found in
      let number : r.row ≡ row = (row_found before row r keeps.is).0 in
      let id : id_of before row ≡ r.tag = ap (λ o. option_map_or (λ (x : Row K). x.tag) o 0) keeps.is in
      let there : id_of all r.row ≡ r.tag = ap (λ k. id_of all k) number ∙ ap (λ o. option_map_or (λ (x : Row K). x.tag) o 0) (stays row r keeps.is) in
      ap (λ o. option_map (map_item oldest begun all) (option_and_then (deleted_item wanted n) o)) keeps.is
      ∙ by_test (wanted r.key) there
      ∙ ap (left_item wanted (oldest + (n - begun)) r.tag) (sym (shown_row r.tag (rows before) r keeps.of_id))
      ∙ ap (λ k. left_item wanted (oldest + (n - begun)) k (is_shown wanted k (entries_from (rows before)))) (sym id)
    where
      by_test : (b : Bool) → id_of all keeps.found.row ≡ keeps.found.tag → option_map (map_item oldest begun all) (if_wanted b (item.Deleted n keeps.found.row)) ≡ left_item wanted (oldest + (n - begun)) keeps.found.tag b
      by_test true there = ap (λ k. Some (Left (oldest + (n - begun)) k)) there
      by_test false there = refl
  item_tells oldest begun all before n (Move row key) e stays keeps =
      let r = keeps.found in
      let number : r.row ≡ row = (row_found before row r keeps.is).0 in
      let id : id_of before row ≡ r.tag = ap (λ o. option_map_or (λ (x : Row K). x.tag) o 0) keeps.is in
      let there : id_of all r.row ≡ r.tag = ap (λ k. id_of all k) number ∙ ap (λ o. option_map_or (λ (x : Row K). x.tag) o 0) (stays row r keeps.is) in
      ap (λ o. option_map (map_item oldest begun all) (option_and_then (moved_item wanted n key) o)) keeps.is
      ∙ by_tests (wanted r.key) (wanted key) there
      ∙ ap (λ b. put_item wanted (oldest + (n - begun)) r.tag key b (wanted key)) (sym (shown_row r.tag (rows before) r keeps.of_id))
      ∙ ap (λ k. put_item wanted (oldest + (n - begun)) k key (is_shown wanted k (entries_from (rows before))) (wanted key)) (sym id)
    where
      by_tests : (a b : Bool) → id_of all keeps.found.row ≡ keeps.found.tag → option_map (map_item oldest begun all) (moved_from a b (moved n key keeps.found) keeps.found.row) ≡ put_item wanted (oldest + (n - begun)) keeps.found.tag key a b
      by_tests true true there = refl
      by_tests true false there = ap (λ k. Some (Left (oldest + (n - begun)) k)) there
      by_tests false true there = refl
      by_tests false false there = refl

map_option : {X Y : Type 0} (f : X → Y) (o : Option X) → map f (option_to_list o) ≡ option_to_list (option_map f o)
map_option f None = refl
map_option f (Some x) = refl

module _ {K : Type 0} (wanted : K → Bool) (oldest begun : ℕ) (commits : List (Write K)) (list : IsMapList begun commits) where
  -- the items of some commits, as those of their changes
  pub items_tell : (k s : ℕ) → begun ≤ s → s + k ≤ length commits
      → map (map_item oldest begun commits) (changes wanted s (s + k) commits) ≡ items_after wanted (oldest + (s - begun)) (entries_from (rows (take s commits))) (take k (changes_behind (take s commits) (drop s commits)))
  items_tell zero s known within =
      let e : s + zero ≡ s = omega arith in
      ap (λ n. map (map_item oldest begun commits) (changes wanted s n commits)) e ∙ ap (map (map_item oldest begun commits)) (changes_none wanted s commits)
  items_tell (suc k) s known within =
      let l : s < length commits = omega (arith, within) in
      let f = slice_get_found commits s l in
      let w = f.0 in
      let at : get_or commits s w ≡ w = get_or_from_slice_get commits s w w f.1 in
      let rest : drop s commits ≡ w ∷ drop (s + 1) commits = drop_more commits s w l ∙ ap (λ x. x ∷ drop (s + 1) commits) at in
      let head : take (s + 1) commits ≡ take s commits ++ w ∷ [] = take_more commits s w l ∙ ap (λ x. take s commits ++ x ∷ []) at in
      let keeps : KeepsIds (take s commits) w = list.by_id s w f.1 in
      let legal = legal_taken commits s list.legal in
      let apart = rows_apart (take s commits) legal (ids_taken commits s list.by_id) in
      let n : s + 1 ≡ length (take s commits) + 1 = omega (arith, length-take-le s commits (omega (arith, l))) in
      let one = item_tells wanted oldest begun commits (take s commits) (s + 1) w n (λ m r at. row_taken commits s m r at) keeps in
      let number : oldest + (s + 1 - begun) ≡ oldest + (s - begun) + 1 = omega (arith, known) in
      let end : s + suc k ≡ s + 1 + k = omega arith in
      let later : s + 1 + k ≤ length commits = omega (arith, within) in
      let step : entries_from (rows (take (s + 1) commits)) ≡ changed (entries_from (rows (take s commits))) (change_of (take s commits) w) =
      ap (λ l. entries_from (rows l)) head ∙ entries_step (take s commits) w legal keeps apart in
      let own = option_to_list (item_of wanted (oldest + (s - begun) + 1) (entries_from (rows (take s commits))) (change_of (take s commits) w)) in
      ap (map (map_item oldest begun commits)) (changes_next wanted s (s + suc k) commits (omega arith))
      ∙ map-append (map_item oldest begun commits) (option_to_list (item_at wanted commits s)) (changes wanted (s + 1) (s + suc k) commits)
      ∙ ap (λ l. l ++ map (map_item oldest begun commits) (changes wanted (s + 1) (s + suc k) commits))
      (map_option (map_item oldest begun commits) (item_at wanted commits s)
      ∙ ap (λ o. option_to_list (option_map (map_item oldest begun commits) (option_and_then (commit_item wanted (take s commits) (s + 1)) o))) f.1
      ∙ ap option_to_list one
      ∙ ap (λ r. option_to_list (item_of wanted r (entries_from (rows (take s commits))) (change_of (take s commits) w))) number)
      ∙ ap (λ m. own ++ map (map_item oldest begun commits) (changes wanted (s + 1) m commits)) end
      ∙ ap (λ l. own ++ l) (items_tell k (s + 1) (omega (arith, known)) later)
      ∙ ap (λ r. own ++ items_after wanted r (entries_from (rows (take (s + 1) commits))) (take k (changes_behind (take (s + 1) commits) (drop (s + 1) commits)))) number
      ∙ ap (λ es. own ++ items_after wanted (oldest + (s - begun) + 1) es (take k (changes_behind (take (s + 1) commits) (drop (s + 1) commits)))) step
      ∙ ap (λ b. own ++ items_after wanted (oldest + (s - begun) + 1) (changed (entries_from (rows (take s commits))) (change_of (take s commits) w)) (take k (changes_behind b (drop (s + 1) commits)))) head
      ∙ ap (λ d. items_after wanted (oldest + (s - begun)) (entries_from (rows (take s commits))) (take (suc k) (changes_behind (take s commits) d))) (sym rest)

  -- the changes of the store between two commits are the items of the map between their revisions
  pub items_between_are : (from upto : ℕ) → oldest ≤ from → from ≤ upto → begun + (upto - oldest) ≤ length commits
      → map (map_item oldest begun commits) (changes wanted (begun + (from - oldest)) (begun + (upto - oldest)) commits) ≡ items_between wanted from upto (map_of oldest begun commits)
  items_between_are from upto known ordered within =
      let s = begun + (from - oldest) in
      let end : begun + (upto - oldest) ≡ begun + (from - oldest) + (upto - from) = omega (arith, known, ordered) in
      let first : oldest + (begun + (from - oldest) - begun) ≡ from = omega (arith, known) in
      let whole : take begun commits ++ take (from - oldest) (drop begun commits) ≡ take (begun + (from - oldest)) commits = taken_twice begun (from - oldest) commits in
      let since : changes_behind (take (begun + (from - oldest)) commits) (drop (begun + (from - oldest)) commits) ≡ drop (from - oldest) (changes_behind (take begun commits) (drop begun commits)) =
      sym (changes_dropped (from - oldest) (take begun commits) (drop begun commits) ∙ ap (λ l. changes_behind l (drop (from - oldest) (drop begun commits))) whole
      ∙ ap (changes_behind (take (begun + (from - oldest)) commits)) (drop-drop (from - oldest) begun commits)) in
      ap (λ m. map (map_item oldest begun commits) (changes wanted (begun + (from - oldest)) m commits)) end
      ∙ items_tell (upto - from) (begun + (from - oldest)) (omega arith) (omega (arith, within, end))
      ∙ ap (λ r. items_after wanted r (entries_from (rows (take (begun + (from - oldest)) commits))) (take (upto - from) (changes_behind (take (begun + (from - oldest)) commits) (drop (begun + (from - oldest)) commits)))) first
      ∙ ap (λ es. items_after wanted from es (take (upto - from) (changes_behind (take (begun + (from - oldest)) commits) (drop (begun + (from - oldest)) commits)))) (sym (entries_then oldest begun commits list from known))
      ∙ ap (λ cs. items_after wanted from (entries_at from (map_of oldest begun commits)) (take (upto - from) cs)) since
