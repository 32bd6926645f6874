-- Two lists read together.
use Rattle.std.proofs.Common.{◌≡◌, ℕ, zero, suc, List, [], ◌∷◌, set, refl, ap, ap₂, arith}
use Rattle.std.specs.Prelude.{slice_get, Some}
use Rattle.std.proofs.lemmas.Option.{get_or_from_slice_get, slice_get_within}
use lib.Lanes.{zip2}

module _ {A B C : Type 0} (f : A → B → C) where
  pub zip_get : (xs : List A) (ys : List B) (i : ℕ) (x : A) (y : B) → slice_get xs i ≡ Some x → slice_get ys i ≡ Some y → slice_get (zip2 f xs ys) i ≡ Some (f x y)
  zip_get [] ys i x y p q = absurd (omega (arith, slice_get_within [] i x p))
  zip_get (a ∷ xs) [] i x y p q = absurd (omega (arith, slice_get_within [] i y q))
  zip_get (a ∷ xs) (b ∷ ys) zero x y p q = ap₂ (λ u v. Some (f u v)) (get_or_from_slice_get (a ∷ xs) 0 x a p) (get_or_from_slice_get (b ∷ ys) 0 y b q)
  zip_get (a ∷ xs) (b ∷ ys) (suc i) x y p q = zip_get xs ys i x y p q

  pub zip_set : (i : ℕ) (a : A) (b : B) (xs : List A) (ys : List B) → zip2 f (set xs i a) (set ys i b) ≡ set (zip2 f xs ys) i (f a b)
  zip_set zero a b [] ys = refl
  zip_set zero a b (x ∷ xs) [] = refl
  zip_set zero a b (x ∷ xs) (y ∷ ys) = refl
  zip_set (suc i) a b [] ys = refl
  zip_set (suc i) a b (x ∷ xs) [] = refl
  zip_set (suc i) a b (x ∷ xs) (y ∷ ys) = ap (λ r. f x y ∷ r) (zip_set i a b xs ys)
