-- The rows of ids, and what a commit does to them.
use Rattle.std.proofs.Common.{◌≡◌, ◌+◌, ◌-◌, ◌<◌, ◌≤◌, ℕ, zero, suc, Bool, true, false, not, cond, ◌||◌, List, [], ◌∷◌, ◌++◌, length, map, take, drop, filter, Option, Some, None, All, refl, sym, ap, ◌∙◌, arith, subst}
use Rattle.std.specs.Prelude.{nat_eq, find, option_map, option_to_list, slice_get}
use Rattle.std.specs.List.{AllByRecursion, list_any}
use Rattle.std.specs.Option.{option_map_or, option_or}
use Rattle.std.proofs.lemmas.List.{map-append}
use Rattle.std.proofs.lemmas.List.Elements.{All-filter, recursion_from_All}
use Rattle.std.proofs.lemmas.List.Folds.{find-append}
use Rattle.change_list.specs.declared.item.Row.{Row}
use Rattle.change_list.specs.declared.write.Write.{Write}
use Rattle.change_list.specs.declared.write.Write.TheVariants.{Insert, Delete, Move}
use Rattle.change_list.specs.declared.write.Status.TheVariants.{Live}
use Rattle.change_list.specs.Changes.{IsLegal, ends, is_ended, made_rows, moved, row_at, rows, status_of}
use Rattle.change_list.proofs.Made.{row_found, rows_found}
use Rattle.change_list.proofs.Pushing.{filter_same, list_any-push, rows_delete, rows_insert, rows_move}
use Rattle.change_list.proofs.Tracking.{live_from, none_ends}
use Rattle.revisions.specs.declared.entry.MapEntry.{MapEntry}
use Rattle.revisions.specs.Maps.{AreApart, has_id, is_of, with_key, without_id}
use Rattle.map.specs.Generations.{IsRowOfId, entries_from, entry_of, is_row_of, row_of_id}

module _ {X : Type 0} where
  pub each_map : (P Q : X → Type 0) (xs : List X) → ((x : X) → P x → Q x) → AllByRecursion P xs → AllByRecursion Q xs
  each_map P Q [] f a = tt
  each_map P Q (x ∷ xs) f a = (f x a.0, each_map P Q xs f a.1)

  pub each_both : (P Q : X → Type 0) (xs : List X) → AllByRecursion P xs → AllByRecursion Q xs → AllByRecursion (λ x. P x × Q x) xs
  each_both P Q [] a b = tt
  each_both P Q (x ∷ xs) a b = ((a.0, b.0), each_both P Q xs a.1 b.1)

  -- what is found has what all have, and passes the test
  pub found_has : (P : X → Type 0) (p : X → Bool) (xs : List X) (x : X) → AllByRecursion P xs → find p xs ≡ Some x → P x × (p x ≡ true)
  found_has P p [] x a h = absurd (cc)
  found_has P p (y ∷ ys) x a h = by_test (found_has P p ys x a.1) (p y) refl
    where
      by_test : (find p ys ≡ Some x → P x × (p x ≡ true)) → (b : Bool) → p y ≡ b → P x × (p x ≡ true)
      by_test later true e =
          let f : Some y ≡ Some x = rw e at h in
          let same : y ≡ x = cc in
          (subst P same a.0, ap p (sym same) ∙ e)
      by_test later false e = let f : find p ys ≡ Some x = rw e at h in later f

  -- two tests that agree on all keep the same
  pub filter_agree : (p q : X → Bool) (xs : List X) → AllByRecursion (λ x. p x ≡ q x) xs → filter p xs ≡ filter q xs
  filter_agree p q [] a = refl
  filter_agree p q (x ∷ xs) a = rw (a.0, filter_agree p q xs a.1) refl

  -- none is found where none passes
  pub none_found : (p : X → Bool) (xs : List X) → find p xs ≡ None → list_any p xs ≡ false
  none_found p [] h = refl
  none_found p (x ∷ xs) h = by_test (none_found p xs) (p x) refl
    where
      by_test : (find p xs ≡ None → list_any p xs ≡ false) → (b : Bool) → p x ≡ b → list_any p (x ∷ xs) ≡ false
      by_test later true e = let f : Some x ≡ None = rw e at h in absurd (cc)
      by_test later false e = let f : find p xs ≡ None = rw e at h in rw e (later f)

  pub each_fails : (p : X → Bool) (xs : List X) → list_any p xs ≡ false → AllByRecursion (λ x. p x ≡ false) xs
  each_fails p [] h = tt
  each_fails p (x ∷ xs) h = by_test (each_fails p xs) (p x) refl
    where
      by_test : (list_any p xs ≡ false → AllByRecursion (λ x. p x ≡ false) xs) → (b : Bool) → p x ≡ b → AllByRecursion (λ x. p x ≡ false) (x ∷ xs)
      by_test later true e = let f : true ≡ false = rw e at h in absurd (cc)
      by_test later false e = let f : list_any p xs ≡ false = rw e at h in (e, later f)

module _ {K : Type 0} where
  -- entries and rows of an id
  pub has_id_from : (id : ℕ) (rs : List (Row K)) → has_id id (entries_from rs) ≡ list_any (is_row_of id) rs
  has_id_from id [] = refl
  has_id_from id (r ∷ rs) = rw (has_id_from id rs) refl

  pub find_from : (id : ℕ) (rs : List (Row K)) → find (is_of id) (entries_from rs) ≡ option_map entry_of (row_of_id id rs)
  find_from id [] = refl
  find_from id (r ∷ rs) = by_test (find_from id rs) (nat_eq r.tag id) refl
    where
      by_test : find (is_of id) (entries_from rs) ≡ option_map entry_of (row_of_id id rs) → (b : Bool) → nat_eq r.tag id ≡ b → find (is_of id) (entries_from (r ∷ rs)) ≡ option_map entry_of (row_of_id id (r ∷ rs))
      by_test later true e = rw e refl
      by_test later false e = rw e later

  -- the rows of other ids
  abbrev pub others : ℕ → List (Row K) → List (Row K)
  others id rs = filter (λ r. not (nat_eq r.tag id)) rs

  pub without_from : (id : ℕ) (rs : List (Row K)) → entries_from (others id rs) ≡ without_id id (entries_from rs)
  without_from id [] = refl
  without_from id (r ∷ rs) = by_test (without_from id rs) (nat_eq r.tag id)
    where
      by_test : entries_from (others id rs) ≡ without_id id (entries_from rs) → (b : Bool)
          → entries_from (cond (not b) (r ∷ others id rs) (others id rs)) ≡ cond (not b) (entry_of r ∷ without_id id (entries_from rs)) (without_id id (entries_from rs))
      by_test later true = later
      by_test later false = ap (λ l. entry_of r ∷ l) later

  pub row_of_other : (id q : ℕ) (rs : List (Row K)) → nat_eq id q ≡ false → row_of_id q (others id rs) ≡ row_of_id q rs
  row_of_other id q [] h = refl
  row_of_other id q (r ∷ rs) h = by_test (row_of_other id q rs h) (nat_eq r.tag id) refl
    where
      by_test : row_of_id q (others id rs) ≡ row_of_id q rs → (b : Bool) → nat_eq r.tag id ≡ b → row_of_id q (others id (r ∷ rs)) ≡ row_of_id q (r ∷ rs)
      by_test later true e =
          let same : r.tag ≡ id = search (arith, e) in
          let away : nat_eq r.tag q ≡ false = ap (λ n. nat_eq n q) same ∙ h in
          rw e (rw away later)
      by_test later false e = rw e (ap (λ o. cond (nat_eq r.tag q) (Some r) o) later)

  pub row_of_gone : (id : ℕ) (rs : List (Row K)) → row_of_id id (others id rs) ≡ None
  row_of_gone id [] = refl
  row_of_gone id (r ∷ rs) = by_test (row_of_gone id rs) (nat_eq r.tag id) refl
    where
      by_test : row_of_id id (others id rs) ≡ None → (b : Bool) → nat_eq r.tag id ≡ b → row_of_id id (others id (r ∷ rs)) ≡ None
      by_test later true e = rw e later
      by_test later false e = rw e (rw e later)

  -- where no two rows have one id, each is found under its own
  pub own_found : (rs : List (Row K)) → AreApart (entries_from rs) → AllByRecursion (λ r. row_of_id r.tag rs ≡ Some r) rs
  own_found [] a = tt
  own_found (r ∷ rs) a =
      let here : nat_eq r.tag r.tag ≡ true = search arith in
      let away : AllByRecursion (λ x. nat_eq x.tag r.tag ≡ false) rs = each_fails (is_row_of r.tag) rs (sym (has_id_from r.tag rs) ∙ a.0) in
      (rw here refl, each_map (λ x. (row_of_id x.tag rs ≡ Some x) × (nat_eq x.tag r.tag ≡ false)) (λ x. row_of_id x.tag (r ∷ rs) ≡ Some x) rs later (each_both (λ x. row_of_id x.tag rs ≡ Some x) (λ x. nat_eq x.tag r.tag ≡ false) rs (own_found rs a.1) away))
    where
      later : (x : Row K) → (row_of_id x.tag rs ≡ Some x) × (nat_eq x.tag r.tag ≡ false) → row_of_id x.tag (r ∷ rs) ≡ Some x
      later x p = let e : nat_eq r.tag x.tag ≡ false = search (arith, p.1) in rw e p.0

  -- a live row, as its commit made it
  pub record IsOf (commits : List (Write K)) (r : Row K) : Type 0 where
    pub is : row_at commits r.row ≡ Some r
    pub kept : is_ended commits r.row ≡ false

  pub each_is : (commits : List (Write K)) → AllByRecursion (IsOf commits) (rows commits)
  each_is commits = filtered (made_rows commits) (recursion_from_All (λ r. row_at commits r.row ≡ Some r) (made_rows commits) (rows_found commits))
    where
      filtered : (rs : List (Row K)) → AllByRecursion (λ r. row_at commits r.row ≡ Some r) rs → AllByRecursion (IsOf commits) (filter (λ r. not (is_ended commits r.row)) rs)
      filtered [] a = tt
      filtered (r ∷ rs) a = by_test (filtered rs a.1) (is_ended commits r.row) refl
        where
          by_test : AllByRecursion (IsOf commits) (filter (λ r. not (is_ended commits r.row)) rs) → (b : Bool) → is_ended commits r.row ≡ b
              → AllByRecursion (IsOf commits) (cond (not b) (r ∷ filter (λ r. not (is_ended commits r.row)) rs) (filter (λ r. not (is_ended commits r.row)) rs))
          by_test later true e = later
          by_test later false e = (record { is = a.0; kept = e }, later)

  module _ (commits : List (Write K)) (id : ℕ) (r : Row K) (at : row_of_id id (rows commits) ≡ Some r) where
    pub found_is : IsOf commits r
    found_is = (found_has (IsOf commits) (is_row_of id) (rows commits) r (each_is commits) at).0

    pub found_id : r.tag ≡ id
    found_id = let e : nat_eq r.tag id ≡ true = (found_has (IsOf commits) (is_row_of id) (rows commits) r (each_is commits) at).1 in search (arith, e)

    pub found_live : status_of commits r.row ≡ Live
    found_live = live_from commits r.row r found_is.is found_is.kept

    module _ (apart : AreApart (entries_from (rows commits))) where
      -- a row is that of the id exactly if it has the number
      same_row : (x : Row K) → IsOf commits x × (row_of_id x.tag (rows commits) ≡ Some x) → not (nat_eq r.row x.row) ≡ not (nat_eq x.tag id)
      same_row x p = by_tests (nat_eq r.row x.row) (nat_eq x.tag id) refl refl
        where
          by_tests : (a b : Bool) → nat_eq r.row x.row ≡ a → nat_eq x.tag id ≡ b → not (nat_eq r.row x.row) ≡ not (nat_eq x.tag id)
          by_tests true true e f = rw (e, f) refl
          by_tests false false e f = rw (e, f) refl
          by_tests true false e f =
              let number : r.row ≡ x.row = search (arith, e) in
              let one : Some r ≡ Some x = sym found_is.is ∙ ap (row_at commits) number ∙ p.0.is in
              let same : r ≡ x = cc in
              let tag : x.tag ≡ id = ap (λ (y : Row K). y.tag) (sym same) ∙ found_id in
              let t : nat_eq x.tag id ≡ true = search (arith, tag) in
              absurd (let c : true ≡ false = sym t ∙ f in cc)
          by_tests false true e f =
              let tag : x.tag ≡ id = search (arith, f) in
              let one : Some x ≡ Some r = sym p.1 ∙ ap (λ n. row_of_id n (rows commits)) tag ∙ at in
              let same : x ≡ r = cc in
              let number : r.row ≡ x.row = ap (λ (y : Row K). y.row) (sym same) in
              let t : nat_eq r.row x.row ≡ true = search (arith, number) in
              absurd (let c : true ≡ false = sym t ∙ e in cc)

      pub rows_without : filter (λ (x : Row K). not (nat_eq r.row x.row)) (rows commits) ≡ others id (rows commits)
      rows_without = filter_agree (λ (x : Row K). not (nat_eq r.row x.row)) (λ (x : Row K). not (nat_eq x.tag id)) (rows commits)
          (each_map (λ x. IsOf commits x × (row_of_id x.tag (rows commits) ≡ Some x)) (λ x. not (nat_eq r.row x.row) ≡ not (nat_eq x.tag id)) (rows commits) same_row
          (each_both (IsOf commits) (λ x. row_of_id x.tag (rows commits) ≡ Some x) (rows commits) (each_is commits) (own_found (rows commits) apart)))

      pub rows_deleted : rows (commits ++ Delete r.row ∷ []) ≡ others id (rows commits)
      rows_deleted = rows_delete commits r.row ∙ rows_without

      pub rows_moved : (key : K) → IsLegal commits → rows (commits ++ Move r.row key ∷ []) ≡ others id (rows commits) ++ (record { row = length commits + 1; key = key; tag = id }) ∷ []
      rows_moved key legal =
          let within = row_found commits r.row r found_is.is in
          let other : nat_eq r.row (length commits + 1) ≡ false = let l : r.row ≤ length commits = within.2 in search (arith, l) in
          let unended : is_ended (commits ++ Move r.row key ∷ []) (length commits + 1) ≡ false =
          list_any-push (ends (length commits + 1)) commits (Move r.row key) ∙ ap (λ b. b || nat_eq r.row (length commits + 1)) (none_ends commits (length commits + 1) legal (omega arith)) ∙ other in
          rows_move commits r.row key r found_is.is unended ∙ ap (λ l. l ++ moved (length commits + 1) key r ∷ []) rows_without
          ∙ ap (λ t. others id (rows commits) ++ (record { row = length commits + 1; key = key; tag = t }) ∷ []) found_id

  pub rows_inserted : (commits : List (Write K)) (key : K) (tag : ℕ) → IsLegal commits → rows (commits ++ Insert key tag ∷ []) ≡ rows commits ++ (record { row = length commits + 1; key = key; tag = tag }) ∷ []
  rows_inserted commits key tag legal = rows_insert commits key tag (none_ends commits (length commits + 1) legal (omega arith))

  -- the row of each id, once a row is made as the last
  pub row_of_pushed : (q : ℕ) (rs : List (Row K)) (r : Row K) → row_of_id q (rs ++ r ∷ []) ≡ option_or (row_of_id q rs) (cond (nat_eq r.tag q) (Some r) None)
  row_of_pushed q rs r = find-append (is_row_of q) rs (r ∷ [])
