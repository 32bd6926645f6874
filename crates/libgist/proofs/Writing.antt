-- Items that are written over a buffer's first places, one after the other.
use Rattle.std.proofs.Common.{◌≡◌, ℕ, zero, suc, ◌+◌, ◌<◌, List, [], ◌∷◌, ◌++◌, length, take, drop, set, ap, refl, subst, arith}
use Rattle.std.specs.Prelude.{Some, slice_get}

module _ {X : Type 0} where
  written_next : (items buffer : List X) (i : ℕ) (x : X) → slice_get items i ≡ Some x → i < length buffer → set (take i items ++ drop i buffer) i x ≡ take (suc i) items ++ drop (suc i) buffer
  written_next [] buffer zero x found inside = absurd (cc)
  written_next [] buffer (suc i) x found inside = absurd (cc)
  written_next (a ∷ items) [] i x found inside = absurd (omega (arith, inside))
  written_next (a ∷ items) (b ∷ buffer) zero x found inside = cc
  written_next (a ∷ items) (b ∷ buffer) (suc i) x found inside = ap (λ (rest : List X). a ∷ rest) (written_next items buffer i x found (omega (arith, inside)))

  pub written_more : (items buffer : List X) (i : ℕ) (x : X) → slice_get items i ≡ Some x → i < length buffer → set (take i items ++ drop i buffer) i x ≡ take (i + 1) items ++ drop (i + 1) buffer
  written_more items buffer i x found inside = let e : i + 1 ≡ suc i = omega arith in rw e (written_next items buffer i x found inside)

  push_next : (items buffer : List X) (x : X) → length items < length buffer → set (items ++ drop (length items) buffer) (length items) x ≡ (items ++ x ∷ []) ++ drop (suc (length items)) buffer
  push_next [] [] x inside = absurd (omega (arith, inside))
  push_next [] (b ∷ buffer) x inside = refl
  push_next (a ∷ items) [] x inside = absurd (omega (arith, inside))
  push_next (a ∷ items) (b ∷ buffer) x inside = ap (λ (rest : List X). a ∷ rest) (push_next items buffer x (omega (arith, inside)))

  pub push_more : (items buffer : List X) (x : X) (i : ℕ) → length items ≡ i → i < length buffer → set (items ++ drop i buffer) i x ≡ (items ++ x ∷ []) ++ drop (i + 1) buffer
  push_more items buffer x i n inside =
      subst (λ (k : ℕ). k < length buffer → set (items ++ drop k buffer) k x ≡ (items ++ x ∷ []) ++ drop (k + 1) buffer) n
      (λ within. let e : length items + 1 ≡ suc (length items) = omega arith in rw e (push_next items buffer x within)) inside
