-- The rows that live and are wanted, in slots, as commits follow.
use Rattle.std.proofs.Common.{◌≡◌, ◌+◌, ◌-◌, ◌<◌, ◌≤◌, ℕ, suc, zero, Bool, true, false, not, cond, ◌&&◌, ◌||◌, List, [], ◌∷◌, ◌++◌, length, take, filter, Option, Some, None, refl, sym, ap, ◌∙◌, arith, subst, ⊎_elim, length-append}
use Rattle.std.specs.Prelude.{slice_get, nat_eq, option_map, option_to_list}
use Rattle.std.proofs.lemmas.Bool.{ne_eqb}
use Rattle.std.proofs.lemmas.List.{append-nil, length-take}
use Rattle.std.proofs.lemmas.List.Elements.{filter-append}
use Rattle.change_list.specs.declared.write.Write.{Write}
use Rattle.change_list.specs.declared.write.Write.TheVariants.{Insert, Delete, Move}
use Rattle.change_list.specs.declared.item.Row.{Row}
use Rattle.change_list.specs.Changes.{commit_at, ends, is_ended, made_row, made_rows, moved, row_at, rows, IsLegal, MayFollow}
use Rattle.change_list.specs.Roomy.{NamesEarlier}
use Rattle.change_list.proofs.Lists.{filter_all, filter_map_push, slice_get_push, slice_get_within}
use Rattle.change_list.proofs.Made.{made_none, made_number, row_at_place}
use Rattle.change_list.proofs.Pushing.{filter_same, filter_twice, list_any-push, rows_insert, rows_delete, rows_move}
use Rattle.change_list.proofs.Tracking.{live_row, live_within, legal_push, none_ends}
use Rattle.delivery_check.specs.Remaining.{wanted_row, without_ended, slots_with, IsPlaced, IsRoll}
use Rattle.delivery_check.proofs.Cuts.{take_next}
use Rattle.delivery_check.proofs.Slots.{length_without, placed_without, rows_without}

module _ {K : Type 0} (wanted : K → Bool) where
  abbrev kept : List (Row K) → List (Row K)
  kept l = filter (λ (r : Row K). wanted r.key) l

  placed_push : (slots : List (Option (Row K))) (slot : Option (Row K)) → IsPlaced slots → ((row : Row K) → slot ≡ Some row → row.row ≡ length slots + 1) → IsPlaced (slots ++ slot ∷ [])
  placed_push slots slot h new = record {
    each = λ place row e. ⊎_elim
        (λ (p : (slice_get slots place ≡ Some (Some row)) × (place < length slots)). h.each place row p.0)
        (λ (p : (place ≡ length slots) × (slot ≡ Some row)). let r = new row p.1 in omega (arith, r, p.0))
        (slice_get_push slots slot (Some row) place e);
  }

  swapped : (p q : Row K → Bool) (l : List (Row K)) → filter p (filter q l) ≡ filter q (filter p l)
  swapped p q l = filter_twice q p l ∙ filter_same (λ x. q x && p x) (λ x. p x && q x) l (λ x. both (q x) (p x)) ∙ sym (filter_twice p q l)
    where
      both : (a b : Bool) → (a && b) ≡ (b && a)
      both true true = refl
      both true false = refl
      both false true = refl
      both false false = refl

  -- the row that a commit makes behind those before it
  abbrev made_by : List (Write K) → Write K → Option (Row K)
  made_by commits write = made_row (made_rows commits) (length commits + 1) write

  abbrev stays : Write K → Row K → Bool
  stays write r = not (ends r.row write)

  -- the rows that lived and that a commit doesn't end, and the row that it makes
  rows_after : (commits : List (Write K)) (write : Write K) → IsLegal commits → MayFollow commits write
      → rows (commits ++ write ∷ []) ≡ filter (stays write) (rows commits) ++ option_to_list (made_by commits write)
  unfolding row_at
  rows_after commits (Insert key tag) legal m =
      rows_insert commits key tag (none_ends commits (length commits + 1) legal (omega arith))
      ∙ ap (λ l. l ++ option_to_list (made_by commits (Insert key tag))) (sym (filter_all (λ (r : Row K). true) (rows commits) (λ r. refl)))
  rows_after commits (Delete row) legal m = rows_delete commits row ∙ sym (append-nil _)
  rows_after commits (Move row key) legal m =
      let live = live_row commits row legal m in
      rows_move commits row key live.found live.is unended
      ∙ ap (λ o. filter (stays (Move row key)) (rows commits) ++ option_to_list (option_map (moved (length commits + 1) key) o)) (sym live.is)
    where
      within : (0 < row) × (row ≤ length commits)
      within = live_within commits row m

      neither : (a b : Bool) → a ≡ false → b ≡ false → (a || b) ≡ false
      neither a b g h = rw (g, h) refl

      unended : is_ended (commits ++ Move row key ∷ []) (length commits + 1) ≡ false
      unended =
          let other : nat_eq row (length commits + 1) ≡ false = ne_eqb row (length commits + 1) (λ e. omega (arith, e, within.1)) in
          list_any-push (ends (length commits + 1)) commits (Move row key)
          ∙ neither _ _ (none_ends commits (length commits + 1) legal (omega arith)) other

  kept_row : (made : Option (Row K)) → kept (option_to_list made) ≡ option_to_list (wanted_row wanted made)
  kept_row None = refl
  kept_row (Some row) = by_test (wanted row.key)
    where
      by_test : (b : Bool) → cond b (row ∷ []) [] ≡ option_to_list (cond b (Some row) None)
      by_test true = refl
      by_test false = refl

  wanted_number : (n : ℕ) (made : Option (Row K)) (row : Row K) → ((r : Row K) → made ≡ Some r → r.row ≡ n) → wanted_row wanted made ≡ Some row → row.row ≡ n
  wanted_number n None row h e = absurd (cc)
  wanted_number n (Some r) row h e = by_test (wanted r.key) e
    where
      by_test : (b : Bool) → cond b (Some r) None ≡ Some row → row.row ≡ n
      by_test true e = let same : r ≡ row = cc in ap (λ (x : Row K). x.row) (sym same) ∙ h r refl
      by_test false e = absurd (cc)

  names : (commits : List (Write K)) (slots : List (Option (Row K))) (write : Write K) → IsRoll wanted commits slots → MayFollow commits write → NamesEarlier (length slots) write
  names commits slots (Insert key tag) h m = tt
  names commits slots (Delete row) h m = let b = live_within commits row m in (b.0, omega (arith, b.1, h.one_each))
  names commits slots (Move row key) h m = let b = live_within commits row m in (b.0, omega (arith, b.1, h.one_each))

  -- no slots, for no commits
  pub roll_none : IsRoll wanted [] []
  roll_none = record {
    legal = λ place write e. absurd (cc);
    one_each = refl;
    placed = record { each = λ place row e. absurd (cc) };
    is = sym (ap (λ l. kept (filter (λ (r : Row K). not (is_ended {K = K} [] r.row)) l)) made_none);
  }

  roll_push : (commits : List (Write K)) (slots : List (Option (Row K))) (write : Write K) → IsRoll wanted commits slots → MayFollow commits write → IsRoll wanted (commits ++ write ∷ []) (slots_with wanted slots write (made_by commits write))
  roll_push commits slots write h m = record {
    legal = legal_push commits write h.legal m;
    one_each = omega (arith, h.one_each, lengths, length-append commits (write ∷ []), length-append left (slot ∷ []));
    placed = placed_push left slot (placed_without slots write h.placed)
        (λ row e.
        let n = wanted_number (length commits + 1) (made_by commits write) row (made_number (made_rows commits) (length commits + 1) write) e in
        omega (arith, n, lengths, h.one_each));
    is = filter_map_push (λ s. s) left slot
        ∙ ap (λ l. l ++ option_to_list slot)
        (rows_without slots write h.placed (names commits slots write h m) ∙ ap (filter (stays write)) h.is ∙ swapped (stays write) (λ (r : Row K). wanted r.key) (rows commits))
        ∙ ap (λ l. kept (filter (stays write) (rows commits)) ++ l) (sym (kept_row (made_by commits write)))
        ∙ sym (ap kept (rows_after commits write h.legal m) ∙ filter-append (λ (r : Row K). wanted r.key) (filter (stays write) (rows commits)) (option_to_list (made_by commits write)));
  }
    where
      left : List (Option (Row K))
      left = without_ended slots write

      slot : Option (Row K)
      slot = wanted_row wanted (made_by commits write)

      lengths : length (without_ended slots write) ≡ length slots
      lengths = length_without slots write

  module _ (commits : List (Write K)) (place : ℕ) (slots : List (Option (Row K))) (write : Write K) (legal : IsLegal commits) (h : IsRoll wanted (take place commits) slots) (found : commit_at commits (place + 1) ≡ Some write) where
    at : slice_get commits place ≡ Some write
    at =
        let e : nat_eq (place + 1) 0 ≡ false = search arith in
        let f : place + 1 - 1 ≡ place = omega arith in
        rw (e, f) at found

    pub names_next : NamesEarlier (length slots) write
    names_next = names (take place commits) slots write h (legal place write at)

    made_next : made_by (take place commits) write ≡ row_at commits (place + 1)
    made_next =
        let within = slice_get_within commits place write at in
        let n : length (take place commits) ≡ place = omega (arith, within, length-take place commits) in
        ap (λ k. made_row (made_rows (take place commits)) (k + 1) write) n ∙ sym (row_at_place commits write place at)

    pub roll_next : IsRoll wanted (take (place + 1) commits) (slots_with wanted slots write (row_at commits (place + 1)))
    roll_next =
        let e : suc place ≡ place + 1 = omega arith in
        let longer : take place commits ++ write ∷ [] ≡ take (place + 1) commits = sym (take_next commits place write at) ∙ ap (λ n. take n commits) e in
        subst (λ made. IsRoll wanted (take (place + 1) commits) (slots_with wanted slots write made)) made_next
        (subst (λ l. IsRoll wanted l (slots_with wanted slots write (made_by (take place commits) write))) longer
        (roll_push (take place commits) slots write h (legal place write at)))

module _ {K : Type 0} where
  -- each place of a list has a commit
  pub none_within : (commits : List (Write K)) (place : ℕ) → place < length commits → commit_at commits (place + 1) ≡ None → ⊥
  none_within commits place l h =
      let e : nat_eq (place + 1) 0 ≡ false = search arith in
      let f : place + 1 - 1 ≡ place = omega arith in
      let g : slice_get commits place ≡ None = rw (e, f) at h in
      go commits place l g
    where
      go : (xs : List (Write K)) (i : ℕ) → i < length xs → slice_get xs i ≡ None → ⊥
      go [] i l h = omega (arith, l)
      go (x ∷ xs) zero l h = cc
      go (x ∷ xs) (suc i) l h = go xs i (omega (arith, l)) h
