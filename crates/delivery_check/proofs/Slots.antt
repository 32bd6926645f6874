-- Rows in the slots of their numbers.
use Rattle.std.proofs.Common.{◌≡◌, ◌≢◌, ◌+◌, ◌-◌, ◌<◌, ℕ, suc, zero, Bool, true, false, not, List, [], ◌∷◌, length, filter, Option, Some, None, ◌⊎◌, refl, sym, ap, ◌∙◌, arith, subst, ⊎_elim, length-set}
use Rattle.std.specs.Prelude.{slice_get, slice_set, nat_eq, Contains, IsPermutation}
use Rattle.std.proofs.lemmas.List.Sorted.{IsPermutation-refl, IsPermutation-sym, IsPermutation-cons, IsPermutation-trans, IsPermutation-middle, Contains-permutation}
use Rattle.change_list.specs.declared.write.Write.{Write}
use Rattle.change_list.specs.declared.write.Write.TheVariants.{Insert, Delete, Move}
use Rattle.change_list.specs.declared.item.Row.{Row}
use Rattle.change_list.specs.Changes.{ends}
use Rattle.change_list.specs.Roomy.{NamesEarlier}
use Rattle.change_list.proofs.Lists.{filter_all, slice_get_set_same, slice_get_set_other, slice_get_within}
use Rattle.delivery_check.specs.Remaining.{rows_in, without_ended, IsPlaced}

differ : (a b : ℕ) → (a ≡ b → ⊥) → nat_eq a b ≡ false
differ a b h = search (arith, h)

same : (a b : ℕ) → a ≡ b → nat_eq a b ≡ true
same a b h = search (arith, h)

module _ {K : Type 0} where
  -- from a number on
  record IsPlacedFrom (n : ℕ) (slots : List (Option (Row K))) : Type 0 where
    each : (place : ℕ) (row : Row K) → slice_get slots place ≡ Some (Some row) → row.row ≡ n + place

  placed_rest : (n : ℕ) (slot : Option (Row K)) (slots : List (Option (Row K))) → IsPlacedFrom n (slot ∷ slots) → IsPlacedFrom (n + 1) slots
  placed_rest n slot slots h = record { each = λ place row e. let r = h.each (suc place) row e in omega (arith, r) }

  from_one : (slots : List (Option (Row K))) → IsPlaced slots → IsPlacedFrom 1 slots
  from_one slots h = record { each = λ place row e. let r = h.each place row e in omega (arith, r) }

  abbrev is_other : ℕ → Row K → Bool
  is_other m row = not (nat_eq m row.row)

  -- no row before the first number is there
  all_other : (m n : ℕ) (slots : List (Option (Row K))) → m < n → IsPlacedFrom n slots → filter (is_other m) (rows_in slots) ≡ rows_in slots
  all_other m n [] l h = refl
  all_other m n (None ∷ slots) l h = all_other m (n + 1) slots (omega (arith, l)) (placed_rest n None slots h)
  all_other m n (Some row ∷ slots) l h =
      let r = h.each 0 row refl in
      let o : is_other m row ≡ true = ap not (differ m row.row (λ (e : m ≡ row.row). omega (arith, e, r, l))) in
      rw (o, all_other m (n + 1) slots (omega (arith, l)) (placed_rest n (Some row) slots h)) refl

  emptied_from : (n k : ℕ) (slots : List (Option (Row K))) → IsPlacedFrom n slots → rows_in (slice_set slots k None) ≡ filter (is_other (n + k)) (rows_in slots)
  emptied_from n k [] h = refl
  emptied_from n zero (None ∷ slots) h =
      let e : n + zero ≡ n = omega arith in
      sym (ap (λ m. filter (is_other m) (rows_in slots)) e ∙ all_other n (n + 1) slots (omega arith) (placed_rest n None slots h))
  emptied_from n zero (Some row ∷ slots) h =
      let r = h.each 0 row refl in
      let o : is_other (n + zero) row ≡ false = ap not (same (n + zero) row.row (omega (arith, r))) in
      let e : n + zero ≡ n = omega arith in
      sym (rw o (ap (λ m. filter (is_other m) (rows_in slots)) e ∙ all_other n (n + 1) slots (omega arith) (placed_rest n (Some row) slots h)))
  emptied_from n (suc k) (None ∷ slots) h =
      let e : n + 1 + k ≡ n + suc k = omega arith in
      emptied_from (n + 1) k slots (placed_rest n None slots h) ∙ ap (λ m. filter (is_other m) (rows_in slots)) e
  emptied_from n (suc k) (Some row ∷ slots) h =
      let r = h.each 0 row refl in
      let e : n + 1 + k ≡ n + suc k = omega arith in
      let o : is_other (n + suc k) row ≡ true = ap not (differ (n + suc k) row.row (λ (e : n + suc k ≡ row.row). omega (arith, e, r))) in
      rw o (ap (λ l. row ∷ l) (emptied_from (n + 1) k slots (placed_rest n (Some row) slots h) ∙ ap (λ m. filter (is_other m) (rows_in slots)) e))

  -- a slot that is emptied takes the row of its number away
  pub emptied : (row : ℕ) (slots : List (Option (Row K))) → 0 < row → IsPlaced slots → rows_in (slice_set slots (row - 1) None) ≡ filter (λ (r : Row K). not (nat_eq row r.row)) (rows_in slots)
  emptied row slots l h =
      let e : 1 + (row - 1) ≡ row = omega (arith, l) in
      emptied_from 1 (row - 1) slots (from_one slots h) ∙ ap (λ m. filter (is_other m) (rows_in slots)) e

  -- the row of a slot stands beside those that stay when the slot is emptied
  pub taken : (slots : List (Option (Row K))) (place : ℕ) (row : Row K) → slice_get slots place ≡ Some (Some row) → IsPermutation (rows_in slots) (row ∷ rows_in (slice_set slots place None))
  taken [] place row h = absurd (cc)
  taken (slot ∷ slots) zero row h =
      let e : slot ≡ Some row = cc in
      subst (λ (s : Option (Row K)). IsPermutation (rows_in (s ∷ slots)) (row ∷ rows_in slots)) (sym e) (IsPermutation-refl (row ∷ rows_in slots))
  taken (None ∷ slots) (suc place) row h = taken slots place row h
  taken (Some other ∷ slots) (suc place) row h =
      let less = rows_in (slice_set slots place None) in
      IsPermutation-trans (other ∷ rows_in slots) (other ∷ row ∷ less) (row ∷ other ∷ less)
      (IsPermutation-cons other _ _ (taken slots place row h))
      (IsPermutation-middle (other ∷ []) row less)

  pub stands : (slots : List (Option (Row K))) (place : ℕ) (row : Row K) → slice_get slots place ≡ Some (Some row) → Contains (rows_in slots) row
  stands slots place row h =
      Contains-permutation (row ∷ rows_in (slice_set slots place None)) (rows_in slots) row (IsPermutation-sym _ _ (taken slots place row h)) (0, omega arith, refl)

  record IsFound (slots : List (Option (Row K))) (row : Row K) : Type 0 where
    place : ℕ
    is : slice_get slots place ≡ Some (Some row)

  found : (slots : List (Option (Row K))) (row : Row K) → Contains (rows_in slots) row → IsFound slots row
  found [] row h = absurd (omega (arith, h.1))
  found (None ∷ slots) row h = let f = found slots row h in record { place = suc f.place; is = f.is }
  found (Some other ∷ slots) row (zero, within, is) = record { place = 0; is = ap (λ (r : Row K). Some (Some r)) is }
  found (Some other ∷ slots) row (suc k, within, is) =
      let f = found slots row (k, omega (arith, within), is) in
      record { place = suc f.place; is = f.is }

  -- a row stands in the slot of its number alone
  pub stands_placed : (slots : List (Option (Row K))) (row : Row K) → IsPlaced slots → Contains (rows_in slots) row → (0 < row.row) × (slice_get slots (row.row - 1) ≡ Some (Some row))
  stands_placed slots row h c =
      let f = found slots row c in
      let r = h.each f.place row f.is in
      let e : row.row - 1 ≡ f.place = omega (arith, r) in
      (omega (arith, r), ap (slice_get slots) e ∙ f.is)

  pub placed_set : (slots : List (Option (Row K))) (k : ℕ) → IsPlaced slots → IsPlaced (slice_set slots k None)
  placed_set slots k h = record { each = λ place row e. ⊎_elim (here place row e) (there place row e) (same_or_not k place) }
    where
      same_or_not : (a b : ℕ) → (a ≡ b) ⊎ (a ≢ b)
      same_or_not a b = search arith

      there : (place : ℕ) (row : Row K) → slice_get (slice_set slots k None) place ≡ Some (Some row) → k ≢ place → row.row ≡ place + 1
      there place row e n = h.each place row (sym (slice_get_set_other slots k place None n) ∙ e)

      here : (place : ℕ) (row : Row K) → slice_get (slice_set slots k None) place ≡ Some (Some row) → k ≡ place → row.row ≡ place + 1
      here place row e p =
          let w = slice_get_within (slice_set slots k None) place (Some row) e in
          let l : k < length slots = omega (arith, w, p, length-set slots k None) in
          let z = slice_get_set_same slots k None l in
          let y : slice_get (slice_set slots k None) k ≡ Some (Some row) = ap (slice_get (slice_set slots k None)) p ∙ e in
          absurd (cc)

  -- the slots that are left have the rows that a commit doesn't end
  pub rows_without : (slots : List (Option (Row K))) (write : Write K) → IsPlaced slots → NamesEarlier (length slots) write → rows_in (without_ended slots write) ≡ filter (λ (r : Row K). not (ends r.row write)) (rows_in slots)
  rows_without slots (Insert key tag) h n = sym (filter_all (λ (r : Row K). true) (rows_in slots) (λ r. refl))
  rows_without slots (Delete row) h n = emptied row slots n.0 h
  rows_without slots (Move row key) h n = emptied row slots n.0 h

  pub placed_without : (slots : List (Option (Row K))) (write : Write K) → IsPlaced slots → IsPlaced (without_ended slots write)
  placed_without slots (Insert key tag) h = h
  placed_without slots (Delete row) h = placed_set slots (row - 1) h
  placed_without slots (Move row key) h = placed_set slots (row - 1) h

  pub length_without : (slots : List (Option (Row K))) (write : Write K) → length (without_ended slots write) ≡ length slots
  length_without slots (Insert key tag) = refl
  length_without slots (Delete row) = length-set slots (row - 1) None
  length_without slots (Move row key) = length-set slots (row - 1) None
