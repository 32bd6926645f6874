-- The state of a store and that of its world.
use Rattle.std.proofs.Common.{◌≡◌, ℕ, Bool, true, false, not, cond, ◌||◌, List, [], ◌∷◌, map, filter, Option, Some, None, Ok, Err, inl, refl, ap}
use Rattle.std.specs.Prelude.{nat_eq, nat_lt, is_none, if◌then◌else◌}
use Rattle.key_class.specs.Rules.{Rules}
use Rattle.mailbox.specs.Outlets.{Rule}
use Rattle.key_class.specs.declared.refusal.Refusal.{Refusal}
use Rattle.key_class.specs.declared.refusal.Refusal.TheVariants as refusal
use Rattle.change_list.specs.Cursors.{CursorState}
use Rattle.page_table.specs.Trees.{Tree}
use Rattle.split.specs.Tests.{first_failing}
use Rattle.cursor.specs.OpenCursors.{OpenCursor, shown}
use Rattle.world.specs.Serials.{member, put, without}
use Rattle.world.specs.States as world
use Rattle.world.specs.Steps.{cursor_tests}
use Rattle.store.specs.States.{StoreState, RefusesNext, cursor_of, open_or_closed, find_cursor, put_cursor, with_open_cursor}
use Rattle.store.specs.Worlds.{store_state}

module _ {K A : Type 0} (rules : Rules K A) (rule : Rule) (t : Tree K) where
  -- the cursor of a store, by that of its world
  abbrev pub shown_if : Option (OpenCursor K A) → Option (CursorState K A)
  shown_if (Some k) = Some (shown rules rule t k)
  shown_if None = None

  pub found_shown : (c : ℕ) (ks : List (OpenCursor K A)) → find_cursor c (map (shown rules rule t) ks) ≡ shown_if (member (λ k. k.serial) c ks)
  found_shown c [] = refl
  found_shown c (k ∷ ks) = go (nat_eq k.serial c) refl (found_shown c ks)
    where
      go : (b : Bool) → nat_eq k.serial c ≡ b → find_cursor c (map (shown rules rule t) ks) ≡ shown_if (member (λ k. k.serial) c ks) → find_cursor c (map (shown rules rule t) (k ∷ ks)) ≡ shown_if (member (λ k. k.serial) c (k ∷ ks))
      go true e r = rw e refl
      go false e r = rw e r

  pub put_shown : (x : OpenCursor K A) (ks : List (OpenCursor K A)) → map (shown rules rule t) (put (λ k. k.serial) x ks) ≡ put_cursor (shown rules rule t x) (map (shown rules rule t) ks)
  put_shown x [] = refl
  put_shown x (k ∷ ks) = go (nat_eq k.serial x.serial) (put_shown x ks)
    where
      go : (b : Bool) → map (shown rules rule t) (put (λ k. k.serial) x ks) ≡ put_cursor (shown rules rule t x) (map (shown rules rule t) ks)
          → map (shown rules rule t) (if b then x ∷ ks else k ∷ put (λ k. k.serial) x ks) ≡ (if b then shown rules rule t x ∷ map (shown rules rule t) ks else shown rules rule t k ∷ put_cursor (shown rules rule t x) (map (shown rules rule t) ks))
      go true r = refl
      go false r = ap (λ l. shown rules rule t k ∷ l) r

  pub without_shown : (c : ℕ) (ks : List (OpenCursor K A)) → map (shown rules rule t) (without (λ k. k.serial) c ks) ≡ filter (λ k. not (nat_eq k.serial c)) (map (shown rules rule t) ks)
  without_shown c [] = refl
  without_shown c (k ∷ ks) = go (not (nat_eq k.serial c)) (without_shown c ks)
    where
      go : (b : Bool) → map (shown rules rule t) (without (λ k. k.serial) c ks) ≡ filter (λ k. not (nat_eq k.serial c)) (map (shown rules rule t) ks)
          → map (shown rules rule t) (cond b (k ∷ without (λ k. k.serial) c ks) (without (λ k. k.serial) c ks))
          ≡ cond b (shown rules rule t k ∷ filter (λ k. not (nat_eq k.serial c)) (map (shown rules rule t) ks)) (filter (λ k. not (nat_eq k.serial c)) (map (shown rules rule t) ks))
      go true r = ap (λ l. shown rules rule t k ∷ l) r
      go false r = r

module _ {K A : Type 0} (rules : Rules K A) (rule : Rule) (s : world.State K A) (c : ℕ) where
  by_tests : (b : Bool) (o : Option (OpenCursor K A)) (why : Refusal) → first_failing ((b, refusal.NoSuchCursor) ∷ (is_none o, refusal.CursorClosed) ∷ []) ≡ Some why
      → (if b then Err refusal.NoSuchCursor else open_or_closed (shown_if rules rule s.search.tree o)) ≡ Err why
  by_tests true o why e = let f : refusal.NoSuchCursor ≡ why = cc in ap Err f
  by_tests false None why e = let f : refusal.CursorClosed ≡ why = cc in ap Err f
  by_tests false (Some k) why e = absurd (cc)

  -- what the world refuses by the serial, the store does
  pub refused_as : (why : Refusal) → first_failing (cursor_tests s c) ≡ Some why → cursor_of (store_state rules rule s) c ≡ Err why
  refused_as why e = rw (found_shown rules rule s.search.tree c s.cursors) (by_tests (nat_eq c 0 || nat_lt s.last c) (world.cursor_at s c) why e)

  pub refuses_next : (why : Refusal) → first_failing (cursor_tests s c) ≡ Some why → RefusesNext rules.is_match (store_state rules rule s) c why (store_state rules rule s)
  refuses_next why e = inl (refused_as why e, refl)

  passing : (b : Bool) (o : Option (OpenCursor K A)) (k : OpenCursor K A) → first_failing ((b, refusal.NoSuchCursor) ∷ (is_none o, refusal.CursorClosed) ∷ []) ≡ None → o ≡ Some k
      → (if b then Err refusal.NoSuchCursor else open_or_closed (shown_if rules rule s.search.tree o)) ≡ Ok (shown rules rule s.search.tree k)
  passing true o k e h = absurd (cc)
  passing false None k e h = absurd (cc)
  passing false (Some x) k e h = let f : x ≡ k = cc in ap (λ y. Ok (shown rules rule s.search.tree y)) f

  -- what is open in the world is in the store
  pub open_as : (k : OpenCursor K A) → first_failing (cursor_tests s c) ≡ None → world.cursor_at s c ≡ Some k → cursor_of (store_state rules rule s) c ≡ Ok (shown rules rule s.search.tree k)
  open_as k e h = rw (found_shown rules rule s.search.tree c s.cursors) (passing (nat_eq c 0 || nat_lt s.last c) (world.cursor_at s c) k e h)

module _ {K A : Type 0} (rules : Rules K A) (rule : Rule) (s : world.State K A) where
  pub with_as : (k : OpenCursor K A) → store_state rules rule (world.with_cursor s k) ≡ with_open_cursor (store_state rules rule s) (shown rules rule s.search.tree k)
  with_as k = ap (λ (ks : List (CursorState K A)). let t : StoreState K A = record (store_state rules rule s) { cursors = ks } in t) (put_shown rules rule s.search.tree k s.cursors)
