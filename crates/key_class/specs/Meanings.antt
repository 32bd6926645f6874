-- What the tests of keys and of bounds mean.
use Rattle.std.specs.Prelude.{◌≡◌, ◌↔◌, Bool, true}

module _ {K A : Type 0} where
  -- the test of a key is true exactly if the key is related as the atom says
  abbrev pub TellsWhether : (A → K → Bool) → (A → K → Type 0) → Type 0
  TellsWhether test IsAs = (a : A) (k : K) → (test a k ≡ true) ↔ IsAs a k

  -- the test of a bound is true exactly if some key that it includes is related as the atom says
  abbrev pub TellsBelow : (K → K → Type 0) → (A → K → Bool) → (A → K → Type 0) → Type 0
  TellsBelow Includes test IsAs = (a : A) (b : K) → (test a b ≡ true) ↔ ((k : K) × Includes b k × IsAs a k)
