-- What is read of a map of commits.
use Rattle.std.proofs.Common.{◌≡◌, ◌+◌, ◌-◌, ◌<◌, ◌≤◌, ℕ, zero, suc, Bool, true, false, cond, List, [], ◌∷◌, ◌++◌, length, map, take, drop, Option, Some, None, refl, sym, ap, ◌∙◌, arith, subst, append_assoc}
use Rattle.std.specs.Prelude.{find, nat_eq, option_map, option_and_then, option_to_list, slice_get}
use Rattle.std.specs.List.{AllByRecursion, list_any}
use Rattle.std.specs.Option.{option_map_or}
use Rattle.std.proofs.lemmas.List.{append-nil, length-append, take-append-drop}
use Rattle.change_list.specs.declared.item.Item.{Item}
use Rattle.change_list.specs.declared.item.Item.TheVariants as item
use Rattle.change_list.specs.declared.item.Row.{Row}
use Rattle.change_list.specs.declared.write.Write.{Write}
use Rattle.change_list.specs.declared.write.Write.TheVariants.{Insert, Delete, Move}
use Rattle.change_list.specs.Changes.{changes, commit_at, deleted_item, if_wanted, item_at, item_of, moved, moved_from, moved_item, row_at, rows}
use Rattle.change_list.proofs.Lists.{slice_get_found, slice_get_within}
use Rattle.change_list.proofs.Made.{row_found, row_taken}
use Rattle.change_list.proofs.Pushing.{changes_next, changes_none}
use Rattle.revisions.specs.declared.change.MapChange.{MapChange}
use Rattle.revisions.specs.declared.change.MapChange.TheVariants.{Put, Remove}
use Rattle.revisions.specs.declared.entry.MapEntry.{MapEntry}
use Rattle.revisions.specs.Maps.{AreReal, MayChange, entries_after, entries_at, entries_of, has_id, is_of, key_at}
use Rattle.revisions.proofs.Forgetting.{taken_twice}
use Rattle.map.specs.Generations.{IsMapList, IsRowOfId, KeepsIds, change_of, changes_behind, entries_from, entry_of, id_of, is_row_of, map_of, row_of_id}
use Rattle.map.specs.Items.{AreWithin, number_of}
use Rattle.map.proofs.Faithful.{changes_taken, entries_now, entries_then}
use Rattle.map.proofs.Ids.{find_from, has_id_from}

dropped_at : {X : Type 0} (a n : ℕ) (xs : List X) → slice_get (drop a xs) n ≡ slice_get xs (a + n)
dropped_at zero n xs = let e : zero + n ≡ n = omega arith in ap (slice_get xs) (sym e)
dropped_at (suc a) n [] = let e : suc a + n ≡ suc (a + n) = omega arith in none n ∙ ap (slice_get []) (sym e)
  where
    none : {X : Type 0} (n : ℕ) → ◌≡◌ {A = Option X} (slice_get [] n) (slice_get [] (suc (a + n)))
    none zero = refl
    none (suc n) = refl
dropped_at (suc a) n (x ∷ xs) = let e : suc a + n ≡ suc (a + n) = omega arith in dropped_at a n xs ∙ ap (slice_get (x ∷ xs)) (sym e)

pub found_any : {X : Type 0} (p : X → Bool) (xs : List X) (x : X) → find p xs ≡ Some x → list_any p xs ≡ true
found_any p [] x h = absurd (cc)
found_any p (y ∷ ys) x h = by_test (found_any p ys x) (p y) refl
  where
    by_test : (find p ys ≡ Some x → list_any p ys ≡ true) → (b : Bool) → p y ≡ b → list_any p (y ∷ ys) ≡ true
    by_test later true e = rw e refl
    by_test later false e = let f : find p ys ≡ Some x = rw e at h in rw e (later f)

pub map_found : {X Y : Type 0} (f : X → Y) (o : Option X) (y : Y) → option_map f o ≡ Some y → (x : X) × (o ≡ Some x) × (f x ≡ y)
map_found f None y h = absurd (cc)
map_found f (Some x) y h = (x, refl, cc)

-- nothing is past the end
pub past_end : {X : Type 0} (xs : List X) (n : ℕ) → length xs ≤ n → slice_get xs n ≡ None
past_end xs n l = by_found (slice_get xs n) refl
  where
    by_found : (o : Option _) → slice_get xs n ≡ o → slice_get xs n ≡ None
    by_found None e = e
    by_found (Some x) e = absurd (omega (arith, l, slice_get_within xs n x e))

pub none_of_any : {X : Type 0} (p : X → Bool) (xs : List X) → list_any p xs ≡ false → find p xs ≡ None
none_of_any p [] h = refl
none_of_any p (x ∷ xs) h = by_test (none_of_any p xs) (p x) refl
  where
    by_test : (list_any p xs ≡ false → find p xs ≡ None) → (b : Bool) → p x ≡ b → find p (x ∷ xs) ≡ None
    by_test later true e = let f : true ≡ false = rw e at h in absurd (cc)
    by_test later false e = let f : list_any p xs ≡ false = rw e at h in rw e (later f)

module _ {K : Type 0} where
  -- the change at a place
  change_behind : (before commits : List (Write K)) (place : ℕ) → slice_get (changes_behind before commits) place ≡ option_map (λ w. change_of (before ++ take place commits) w) (slice_get commits place)
  change_behind before [] zero = refl
  change_behind before [] (suc place) = refl
  change_behind before (w ∷ commits) zero = ap (λ l. Some (change_of l w)) (sym (append-nil before))
  change_behind before (w ∷ commits) (suc place) = change_behind (before ++ w ∷ []) commits place ∙ ap (λ l. option_map (λ x. change_of l x) (slice_get commits place)) (append_assoc before (w ∷ []) (take place commits))

  -- a commit changes the same whatever comes later
  change_later : (commits : List (Write K)) (n : ℕ) (write : Write K) → KeepsIds (take n commits) write → change_of (take n commits) write ≡ change_of commits write
  change_later commits n (Insert key tag) keeps = refl
  change_later commits n (Delete row) keeps = ap Remove (id_later commits n row keeps)
    where
      id_later : (commits : List (Write K)) (n row : ℕ) → IsRowOfId (take n commits) row → id_of (take n commits) row ≡ id_of commits row
      id_later commits n row keeps = ap (λ o. option_map_or (λ (r : Row K). r.tag) o 0) (keeps.is ∙ sym (row_taken commits n row keeps.found keeps.is))
  change_later commits n (Move row key) keeps = ap (λ id. Put id key) (ap (λ o. option_map_or (λ (r : Row K). r.tag) o 0) (keeps.is ∙ sym (row_taken commits n row keeps.found keeps.is)))

  module _ (oldest begun : ℕ) (commits : List (Write K)) (list : IsMapList begun commits) where
    -- the key of an id
    pub key_is : (id : ℕ) → key_at id (entries_of (map_of oldest begun commits)) ≡ option_map (λ r. r.key) (row_of_id id (rows commits))
    key_is id = ap (key_at id) (entries_now oldest begun commits list) ∙ ap (option_map (λ (e : MapEntry K). e.key)) (find_from id (rows commits)) ∙ by_row (row_of_id id (rows commits))
      where
        by_row : (o : Option (Row K)) → option_map (λ (e : MapEntry K). e.key) (option_map entry_of o) ≡ option_map (λ r. r.key) o
        by_row None = refl
        by_row (Some r) = refl

    pub has_is : (id : ℕ) → has_id id (entries_of (map_of oldest begun commits)) ≡ list_any (is_row_of id) (rows commits)
    has_is id = ap (has_id id) (entries_now oldest begun commits list) ∙ has_id_from id (rows commits)

    change_before : (place : ℕ) → slice_get (changes_behind (take begun commits) (drop begun commits)) place ≡ option_map (λ w. change_of (take (begun + place) commits) w) (slice_get commits (begun + place))
    change_before place =
        change_behind (take begun commits) (drop begun commits) place
        ∙ ap (λ l. option_map (λ w. change_of l w) (slice_get (drop begun commits) place)) (taken_twice begun place commits)
        ∙ ap (option_map (λ w. change_of (take (begun + place) commits) w)) (dropped_at begun place commits)

    -- the change of a commit
    pub change_is : (place : ℕ) → slice_get (changes_behind (take begun commits) (drop begun commits)) place ≡ option_map (change_of commits) (commit_at commits (begun + place + 1))
    change_is place = change_before place ∙ by_commit (slice_get commits (begun + place)) refl
      where
        by_commit : (o : Option (Write K)) → slice_get commits (begun + place) ≡ o → option_map (λ w. change_of (take (begun + place) commits) w) (slice_get commits (begun + place)) ≡ option_map (change_of commits) (commit_at commits (begun + place + 1))
        by_commit o e =
            let some : nat_eq (begun + place + 1) 0 ≡ false = search arith in
            let n : begun + place + 1 - 1 ≡ begun + place = omega arith in
            let at : commit_at commits (begun + place + 1) ≡ o = rw some (ap (slice_get commits) n ∙ e) in
            ap (option_map (λ w. change_of (take (begun + place) commits) w)) e ∙ same o e ∙ ap (option_map (change_of commits)) (sym at)
          where
            same : (o : Option (Write K)) → slice_get commits (begun + place) ≡ o → option_map (λ w. change_of (take (begun + place) commits) w) o ≡ option_map (change_of commits) o
            same None e = refl
            same (Some w) e = ap Some (change_later commits (begun + place) w (list.by_id (begun + place) w e))

    -- each removal takes away a key
    pub all_real : AreReal (map_of oldest begun commits)
    all_real place c at =
        let f = map_found (λ w. change_of (take (begun + place) commits) w) (slice_get commits (begun + place)) c (sym (change_before place) ∙ at) in
        let known : oldest ≤ oldest + place = omega arith in
        let k : oldest + place - oldest ≡ place = omega arith in
        let then : entries_after (entries_from (rows (take begun commits))) (take place (changes_behind (take begun commits) (drop begun commits))) ≡ entries_from (rows (take (begun + place) commits)) =
        ap (λ n. entries_after (entries_from (rows (take begun commits))) (take n (changes_behind (take begun commits) (drop begun commits)))) (sym k)
        ∙ entries_then oldest begun commits list (oldest + place) known ∙ ap (λ n. entries_from (rows (take (begun + n) commits))) k in
        subst (λ x. MayChange (entries_after (entries_from (rows (take begun commits))) (take place (changes_behind (take begun commits) (drop begun commits)))) x) f.2
        (subst (λ es. MayChange es (change_of (take (begun + place) commits) f.0)) (sym then) (by_write (take (begun + place) commits) f.0 (list.by_id (begun + place) f.0 f.1)))
      where
        by_write : (before : List (Write K)) (w : Write K) → KeepsIds before w → MayChange (entries_from (rows before)) (change_of before w)
        by_write before (Insert key tag) keeps = tt
        by_write before (Delete row) keeps =
            let id : id_of before row ≡ keeps.found.tag = ap (λ o. option_map_or (λ (r : Row K). r.tag) o 0) keeps.is in
            ap (λ n. has_id n (entries_from (rows before))) id ∙ has_id_from keeps.found.tag (rows before) ∙ found_any (is_row_of keeps.found.tag) (rows before) keeps.found keeps.of_id
        by_write before (Move row key) keeps = tt

  -- the items are of commits up to one
  abbrev Within : ℕ → List (Item K) → Type 0
  Within n items = AreWithin {K = K} n items

  within_append : (n : ℕ) (xs ys : List (Item K)) → Within n xs → Within n ys → Within n (xs ++ ys)
  within_append n [] ys a b = b
  within_append n (x ∷ xs) ys a b = (a.0, within_append n xs ys a.1 b)

  item_within : (wanted : K → Bool) (before : List (Write K)) (n limit : ℕ) (w : Write K) → n ≤ limit → Within limit (option_to_list (item_of wanted before n w))
  item_within wanted before n limit (Insert key tag) l = by_test (wanted key)
    where
      by_test : (b : Bool) → Within limit (option_to_list (if_wanted b (item.Inserted (record { row = n; key = key; tag = tag }))))
      by_test true = (l, tt)
      by_test false = tt
  item_within wanted before n limit (Delete row) l = by_row (row_at before row)
    where
      by_test : (b : Bool) (r : Row K) → Within limit (option_to_list (if_wanted b (item.Deleted n r.row)))
      by_test true r = (l, tt)
      by_test false r = tt

      by_row : (o : Option (Row K)) → Within limit (option_to_list (option_and_then (deleted_item wanted n) o))
      by_row None = tt
      by_row (Some r) = by_test (wanted r.key) r
  item_within wanted before n limit (Move row key) l = by_row (row_at before row)
    where
      by_tests : (a b : Bool) (r : Row K) → Within limit (option_to_list (moved_from a b (moved n key r) r.row))
      by_tests true true r = (l, tt)
      by_tests true false r = (l, tt)
      by_tests false true r = (l, tt)
      by_tests false false r = tt

      by_row : (o : Option (Row K)) → Within limit (option_to_list (option_and_then (moved_item wanted n key) o))
      by_row None = tt
      by_row (Some r) = by_tests (wanted r.key) (wanted key) r

  pub changes_within : (wanted : K → Bool) (commits : List (Write K)) (k s : ℕ) → s + k ≤ length commits → Within (length commits) (changes wanted s (s + k) commits)
  changes_within wanted commits zero s l =
      let e : s + zero ≡ s = omega arith in
      subst (λ is. Within (length commits) is) (sym (ap (λ n. changes wanted s n commits) e ∙ changes_none wanted s commits)) tt
  changes_within wanted commits (suc k) s l =
      let in' : s < length commits = omega (arith, l) in
      let f = slice_get_found commits s in' in
      let e : s + suc k ≡ s + 1 + k = omega arith in
      let own : Within (length commits) (option_to_list (item_at wanted commits s)) =
      subst (λ o. Within (length commits) (option_to_list (option_and_then (item_of wanted (take s commits) (s + 1)) o))) (sym f.1) (item_within wanted (take s commits) (s + 1) (length commits) f.0 (omega (arith, in'))) in
      subst (λ is. Within (length commits) is) (sym (changes_next wanted s (s + suc k) commits (omega arith) ∙ ap (λ n. option_to_list (item_at wanted commits s) ++ changes wanted (s + 1) n commits) e))
      (within_append (length commits) (option_to_list (item_at wanted commits s)) (changes wanted (s + 1) (s + 1 + k) commits) own (changes_within wanted commits k (s + 1) (omega (arith, l))))
