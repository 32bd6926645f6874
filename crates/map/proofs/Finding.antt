-- A generation: what is found in it, and what a commit makes of it.
use Rattle.std.proofs.Common.{◌≡◌, ◌≢◌, ◌⊎◌, inl, inr, ◌+◌, ◌-◌, ◌<◌, ◌≤◌, ◌^◌, ℕ, zero, suc, Bool, true, false, cond, List, [], ◌∷◌, ◌++◌, length, map, take, drop, Option, Some, None, refl, sym, ap, ◌∙◌, arith, subst}
use Rattle.std.specs.Prelude.{find, nat_eq, option_map, slice_get, Result, Ok, Err, OnOk, OnErr, IfOk, IfErr}
use Rattle.key_class.specs.declared.refusal.Refusal.{Refusal}
use Rattle.key_class.specs.declared.refusal.Refusal.TheVariants as refusal
use Rattle.store.specs.States.{MayRefuseDelete, MayRefuseMove, StoreState}
use Rattle.map.specs.Refusals.{RefusesPut, RefusesRemoval}
use Rattle.std.specs.FinMap.{FinMap, empty, get, get-empty}
use Rattle.std.specs.List.{list_any}
use Rattle.std.specs.Option.{option_map_or}
use Rattle.std.specs.Ordering.{nat_cmp}
use Rattle.std.proofs.lemmas.List.{append-nil, length-append, length-drop, map-append, take_all, take_at}
use Rattle.change_list.specs.declared.item.Row.{Row}
use Rattle.change_list.specs.declared.write.Write.{Write}
use Rattle.change_list.specs.declared.write.Write.TheVariants.{Insert, Delete, Move}
use Rattle.change_list.specs.declared.write.Status.TheVariants.{Live, NeverIssued, Dead}
use Rattle.change_list.specs.Changes.{IsLegal, MayFollow, row_at, rows, status_of}
use Rattle.revisions.specs.declared.change.MapChange.{MapChange}
use Rattle.revisions.specs.declared.change.MapChange.TheVariants.{Put, Remove}
use Rattle.revisions.specs.declared.entry.MapEntry.{MapEntry}
use Rattle.revisions.specs.Maps.{MapState, empty_map, entries_of, has_id, key_at, restored, revision_of, with_change}
use Rattle.map.specs.Generations.{IsGeneration, IsMapList, IsRowOfId, KeepsIds, TellsRows, change_of, changes_behind, entries_from, entry_of, id_of, is_row_of, map_of, row_of_id}
use Rattle.map.proofs.Entering.{map_push}
use Rattle.map.proofs.Faithful.{changes_length, entries_now, list_push, no_rows, revision_is, rows_apart}
use Rattle.map.proofs.Ids.{found_id, found_is, found_live, has_id_from, none_found, rows_inserted}
use Rattle.map.proofs.Keeping.{Updates, tells_deleted, tells_moved}
use Rattle.map.proofs.Numbering.{as_many_moved, one_fewer_deleted, one_more_inserted}
use Rattle.map.proofs.Reading.{found_any, has_is, key_is, map_found, none_of_any}

none_mapped : {X Y : Type 0} (f : X → Y) (o : Option X) → option_map f o ≡ None → o ≡ None
none_mapped f None h = refl
none_mapped f (Some x) h = absurd (cc)

-- a map without entries
pub generation_empty : {K : Type 0} (oldest : ℕ) → oldest < 2 ^ 64 → IsGeneration {K = K} oldest 0 0 [] empty
generation_empty {K} oldest small = record {
  list = record { legal = λ place write e. absurd (cc); begins = omega arith; by_id = λ place write e. absurd (cc) };
  few = omega (arith, small);
  counted = sym (ap length (no_rows {K = K}));
  tells = λ id. get-empty nat_cmp id ∙ ap (λ rs. option_map (λ (r : Row K). r.row) (row_of_id id rs)) (sym no_rows);
}

module _ {K : Type 0} (oldest begun len : ℕ) (commits : List (Write K)) (numbers : FinMap nat_cmp ℕ) (gen : IsGeneration oldest begun len commits numbers) where
  -- an id without a number has no row
  pub no_row : (id : ℕ) → get numbers id ≡ None → row_of_id id (rows commits) ≡ None
  no_row id none = none_mapped (λ (r : Row K). r.row) (row_of_id id (rows commits)) (sym (gen.tells id) ∙ none)

  pub no_key : (id : ℕ) → get numbers id ≡ None → key_at id (entries_of (map_of oldest begun commits)) ≡ None
  no_key id none = key_is oldest begun commits gen.list id ∙ ap (option_map (λ (r : Row K). r.key)) (no_row id none)

  pub has_none : (id : ℕ) → get numbers id ≡ None → has_id id (entries_of (map_of oldest begun commits)) ≡ false
  has_none id none = has_is oldest begun commits gen.list id ∙ none_found (is_row_of id) (rows commits) (no_row id none)

  module _ (id number : ℕ) (at : get numbers id ≡ Some number) where
    pub the_row : (r : Row K) × (row_of_id id (rows commits) ≡ Some r) × (r.row ≡ number)
    the_row = map_found (λ (r : Row K). r.row) (row_of_id id (rows commits)) number (sym (gen.tells id) ∙ at)

    row_is : row_at commits number ≡ Some the_row.0
    row_is = ap (row_at commits) (sym the_row.2) ∙ (found_is commits id the_row.0 the_row.1).is

    pub the_key : (o : Option (Row K)) (r : Row K) → o ≡ row_at commits number → o ≡ Some r → Some r.key ≡ key_at id (entries_of (map_of oldest begun commits))
    the_key o r e f =
        let one : Some r ≡ Some the_row.0 = sym f ∙ e ∙ row_is in
        let same : r ≡ the_row.0 = cc in
        ap (λ (x : Row K). Some x.key) same ∙ sym (key_is oldest begun commits gen.list id ∙ ap (option_map (λ (r : Row K). r.key)) the_row.1)

    pub never_none : (o : Option (Row K)) → o ≡ row_at commits number → o ≡ None → ⊥
    never_none o e f = let c : None ≡ Some the_row.0 = sym f ∙ e ∙ row_is in cc

    pub has_one : has_id id (entries_of (map_of oldest begun commits)) ≡ true
    has_one = has_is oldest begun commits gen.list id ∙ found_any (is_row_of id) (rows commits) the_row.0 the_row.1

    pub lives : status_of commits number ≡ Live
    lives = subst (λ n. status_of commits n ≡ Live) the_row.2 (found_live commits id the_row.0 the_row.1)

    -- so it has an entry at least
    pub some_entry : 1 ≤ len
    some_entry = omega (arith, gen.counted, one_fewer_deleted commits id the_row.0 the_row.1 (rows_apart commits gen.list.legal gen.list.by_id))

    tag : the_row.0.tag ≡ id
    tag = found_id commits id the_row.0 the_row.1

    keeps : IsRowOfId commits number
    keeps = record { found = the_row.0; is = row_is; of_id = ap (λ n. row_of_id n (rows commits)) tag ∙ the_row.1 }

    id_is : id_of commits number ≡ id
    id_is = ap (λ o. option_map_or (λ (r : Row K). r.tag) o 0) row_is ∙ tag

    pub put_moved : (key : K) → map_of oldest begun (commits ++ Move number key ∷ []) ≡ with_change (Put id key) (map_of oldest begun commits)
    put_moved key = map_push oldest begun commits (Move number key) gen.list.begins ∙ ap (λ n. with_change (Put n key) (map_of oldest begun commits)) id_is

    pub removed : map_of oldest begun (commits ++ Delete number ∷ []) ≡ with_change (Remove id) (map_of oldest begun commits)
    removed = map_push oldest begun commits (Delete number) gen.list.begins ∙ ap (λ n. with_change (Remove n) (map_of oldest begun commits)) id_is

    module _ (new : FinMap nat_cmp ℕ) (few : oldest + (length commits - begun) + 1 < 2 ^ 64) where
      pub generation_moved : (key : K) → Updates numbers new id (Some (length commits + 1)) → IsGeneration oldest begun len (commits ++ Move number key ∷ []) new
      generation_moved key up = record {
        list = list_push oldest begun commits gen.list (Move number key) lives keeps;
        few = omega (arith, few, gen.list.begins, length-append commits (Move number key ∷ []));
        counted = gen.counted ∙ sym (subst (λ n. length (rows (commits ++ Move n key ∷ [])) ≡ length (rows commits)) the_row.2 (as_many_moved commits id the_row.0 the_row.1 (rows_apart commits gen.list.legal gen.list.by_id) key gen.list.legal));
        tells = subst (λ n. TellsRows new (commits ++ Move n key ∷ [])) the_row.2 (tells_moved numbers new commits gen.tells id the_row.0 the_row.1 (rows_apart commits gen.list.legal gen.list.by_id) key gen.list.legal up);
      }

      pub generation_deleted : Updates numbers new id None → IsGeneration oldest begun (len - 1) (commits ++ Delete number ∷ []) new
      generation_deleted up = record {
        list = list_push oldest begun commits gen.list (Delete number) lives keeps;
        few = omega (arith, few, gen.list.begins, length-append commits (Delete number ∷ []));
        counted =
            let fewer = subst (λ n. length (rows (commits ++ Delete n ∷ [])) + 1 ≡ length (rows commits)) the_row.2 (one_fewer_deleted commits id the_row.0 the_row.1 (rows_apart commits gen.list.legal gen.list.by_id)) in
            omega (arith, gen.counted, fewer);
        tells = subst (λ n. TellsRows new (commits ++ Delete n ∷ [])) the_row.2 (tells_deleted numbers new commits gen.tells id the_row.0 the_row.1 (rows_apart commits gen.list.legal gen.list.by_id) up);
      }

  module _ (id : ℕ) (key : K) (absent : row_of_id id (rows commits) ≡ None) where
    inserted_list : IsMapList begun (commits ++ Insert key id ∷ [])
    inserted_list = list_push oldest begun commits gen.list (Insert key id) tt absent

    -- a row of a new id
    pub generation_put : (new : FinMap nat_cmp ℕ) → oldest + (length commits - begun) + 1 < 2 ^ 64 → TellsRows new (commits ++ Insert key id ∷ []) → IsGeneration oldest begun (len + 1) (commits ++ Insert key id ∷ []) new
    generation_put new few tells = record {
      list = inserted_list;
      few = omega (arith, few, gen.list.begins, length-append commits (Insert key id ∷ []));
      counted = omega (arith, gen.counted, one_more_inserted commits key id gen.list.legal);
      tells = tells;
    }

    pub put_inserted : map_of oldest begun (commits ++ Insert key id ∷ []) ≡ with_change (Put id key) (map_of oldest begun commits)
    put_inserted = map_push oldest begun commits (Insert key id) gen.list.begins

    module _ (none : changes_behind (take begun commits) (drop begun commits) ≡ []) where
      pub all_begun : begun ≡ length commits
      all_begun = omega (arith, ap length none, changes_length (take begun commits) (drop begun commits), length-drop begun commits, gen.list.begins)

      -- a row of a new id among those that it begins with
      pub generation_added : (new : FinMap nat_cmp ℕ) → TellsRows new (commits ++ Insert key id ∷ []) → IsGeneration oldest (begun + 1) (len + 1) (commits ++ Insert key id ∷ []) new
      generation_added new tells = record {
        list = record {
          legal = inserted_list.legal;
          begins = omega (arith, all_begun, length-append commits (Insert key id ∷ []));
          by_id = inserted_list.by_id;
        };
        few = omega (arith, gen.few, all_begun, length-append commits (Insert key id ∷ []));
        counted = omega (arith, gen.counted, one_more_inserted commits key id gen.list.legal);
        tells = tells;
      }

      pub added : map_of oldest (begun + 1) (commits ++ Insert key id ∷ []) ≡ restored oldest (entries_from (rows (take begun commits)) ++ (record { id = id; key = key }) ∷ [])
      added =
          let longer : begun + 1 ≡ length (commits ++ Insert key id ∷ []) = omega (arith, all_begun, length-append commits (Insert key id ∷ [])) in
          let first : take (begun + 1) (commits ++ Insert key id ∷ []) ≡ commits ++ Insert key id ∷ [] = take_all (begun + 1) (commits ++ Insert key id ∷ []) (omega (arith, longer)) in
          let rest : drop (begun + 1) (commits ++ Insert key id ∷ []) ≡ [] = none_left (drop (begun + 1) (commits ++ Insert key id ∷ [])) (omega (arith, longer, length-drop (begun + 1) (commits ++ Insert key id ∷ []))) in
          let before : take begun commits ≡ commits = take_all begun commits (omega (arith, all_begun)) in
          let entries : entries_from (rows (commits ++ Insert key id ∷ [])) ≡ entries_from (rows (take begun commits)) ++ (record { id = id; key = key }) ∷ [] =
          ap entries_from (rows_inserted commits key id gen.list.legal) ∙ map-append entry_of (rows commits) ((record { row = length commits + 1; key = key; tag = id }) ∷ [])
          ∙ ap (λ l. entries_from (rows l) ++ (record { id = id; key = key }) ∷ []) (sym before) in
          ap (λ l. record { oldest = oldest; first = entries_from (rows l); changes = changes_behind l (drop (begun + 1) (commits ++ Insert key id ∷ [])) }) first
          ∙ ap (λ l. record { oldest = oldest; first = entries_from (rows (commits ++ Insert key id ∷ [])); changes = changes_behind (commits ++ Insert key id ∷ []) l }) rest
          ∙ ap (λ es. record { oldest = oldest; first = es; changes = [] }) entries
        where
          none_left : {X : Type 0} (xs : List X) → length xs ≡ 0 → xs ≡ []
          none_left [] e = refl
          none_left (x ∷ xs) e = absurd (omega (arith, e))

  -- an id without an entry at the beginning has no row
  module _ (none : changes_behind (take begun commits) (drop begun commits) ≡ []) where
    pub begun_whole : begun ≡ length commits
    begun_whole = omega (arith, ap length none, changes_length (take begun commits) (drop begun commits), length-drop begun commits, gen.list.begins)

    pub absent_row : (id : ℕ) → has_id id (entries_from (rows (take begun commits))) ≡ false → row_of_id id (rows commits) ≡ None
    absent_row id absent =
        let whole : take begun commits ≡ commits = take_all begun commits (omega (arith, begun_whole)) in
        none_of_any (is_row_of id) (rows commits) (sym (has_id_from id (rows commits)) ∙ ap (λ l. has_id id (entries_from (rows l))) (sym whole) ∙ absent)

  -- what is kept when no row is inserted
  pub generation_kept : (more : List (Write K)) (new : FinMap nat_cmp ℕ) → more ≡ commits → TellsRows new more → IsGeneration oldest begun len more new
  generation_kept more new kept tells = subst (λ l. IsGeneration oldest begun len l new) (sym kept) (record {
    list = gen.list;
    few = gen.few;
    counted = gen.counted;
    tells = subst (λ l. TellsRows new l) kept tells;
  })

pub on_ok : {X Y : Type 0} {P Q : Type 0} (r : Result X Y) → (P → Q) → OnOk r P → OnOk r Q
on_ok (Ok x) f p = f p
on_ok (Err y) f p = tt

-- a row that is live isn't refused as none or as dead
module _ {K : Type 0} (commits : List (Write K)) (number : ℕ) (live : status_of commits number ≡ Live) (why : Refusal) where
  not_none : (why ≡ refusal.NoSuchRow → status_of commits number ≡ NeverIssued) → why ≡ refusal.NoSuchRow → ⊥
  not_none none e = let c : Live ≡ NeverIssued = sym live ∙ none e in cc

  not_dead : (why ≡ refusal.AlreadyDeleted → status_of commits number ≡ Dead) → why ≡ refusal.AlreadyDeleted → ⊥
  not_dead dead e = let c : Live ≡ Dead = sym live ∙ dead e in cc

  module _ (none : why ≡ refusal.NoSuchRow → status_of commits number ≡ NeverIssued) (dead : why ≡ refusal.AlreadyDeleted → status_of commits number ≡ Dead) where
    pub refuses_removal : {A : Type 0} (old : StoreState K A) → MayRefuseDelete old why → RefusesRemoval why
    refuses_removal old may = elim may [
      | inl a ↦ absurd (not_none none a)
      | inr b ↦ elim b [
        | inl c ↦ absurd (not_dead dead c)
        | inr d ↦ elim d [
          | inl full ↦ inr (inl full)
          | inr e ↦ elim e [ inl memory ↦ inl memory | inr finders ↦ inr (inr (finders.0)) ]
        ]
      ]
    ]

    pub refuses_move : {A : Type 0} (old new : StoreState K A) → MayRefuseMove old new why → RefusesPut why
    refuses_move old new may = elim may [
      | inl deleted ↦ elim (refuses_removal old deleted) [
        | inl memory ↦ inl memory
        | inr more ↦ elim more [ inl full ↦ inr (inl full) | inr finders ↦ inr (inr (inr finders)) ]
      ]
      | inr pages ↦ inr (inr (inl (pages.0)))
    ]

pub if_ok : {X Y : Type 0} {P Q : X → Type 0} (r : Result X Y) → ((x : X) → P x → Q x) → IfOk r P → IfOk r Q
if_ok (Ok x) f p = f x p
if_ok (Err y) f p = tt
