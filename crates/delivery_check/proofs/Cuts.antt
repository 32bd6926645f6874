-- Parts of lists.
use Rattle.std.proofs.Common.{◌≡◌, ◌-◌, ◌<◌, ◌≤◌, ℕ, suc, zero, List, [], ◌∷◌, ◌++◌, length, take, drop, Some, refl, ap, arith}
use Rattle.std.specs.Prelude.{slice_get}
use Rattle.std.proofs.lemmas.List.{length-drop}

-- a number that is not above another and not the same is below it
pub below_end : (n k : ℕ) → n ≤ k → (n ≡ k → ⊥) → n < k
below_end n k h other = search (arith, h, other)

module _ {X : Type 0} where
  pub take_next : (xs : List X) (i : ℕ) (x : X) → slice_get xs i ≡ Some x → take (suc i) xs ≡ take i xs ++ x ∷ []
  take_next [] i x h = absurd (cc)
  take_next (y ∷ xs) zero x h = let e : y ≡ x = cc in ap (λ z. z ∷ []) e
  take_next (y ∷ xs) (suc i) x h = ap (λ l. y ∷ l) (take_next xs i x h)

  pub drop_next : (xs : List X) (i : ℕ) (x : X) → slice_get xs i ≡ Some x → drop i xs ≡ x ∷ drop (suc i) xs
  drop_next [] i x h = absurd (cc)
  drop_next (y ∷ xs) zero x h = let e : y ≡ x = cc in ap (λ z. z ∷ xs) e
  drop_next (y ∷ xs) (suc i) x h = drop_next xs i x h

  pub drop_past : (xs : List X) (i : ℕ) → length xs ≤ i → drop i xs ≡ []
  drop_past [] zero h = refl
  drop_past [] (suc i) h = refl
  drop_past (x ∷ xs) zero h = absurd (omega (arith, h))
  drop_past (x ∷ xs) (suc i) h = drop_past xs i (omega (arith, h))

  -- the part of a list from a place on
  pub part_from : (n : ℕ) (xs : List X) → take (length xs - n) (drop n xs) ≡ drop n xs
  part_from n xs = all (length xs - n) (drop n xs) (omega (arith, length-drop n xs))
    where
      all : (k : ℕ) (xs : List X) → length xs ≤ k → take k xs ≡ xs
      all zero [] h = refl
      all (suc k) [] h = refl
      all zero (x ∷ xs) h = absurd (omega (arith, h))
      all (suc k) (x ∷ xs) h = ap (λ l. x ∷ l) (all k xs (omega (arith, h)))
