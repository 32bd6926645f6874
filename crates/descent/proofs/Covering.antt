-- Members of a list that pass a test, by the bits that are left of those that tell them.
use Rattle.std.proofs.Common.{◌≡◌, ◌∙◌, ◌≤◌, ◌<◌, ◌+◌, ◌/◌, ◌^◌, ℕ, Bool, List, length, ap, arith, subst, sym, w64}
use Rattle.std.specs.Int.{trailing_zeros}
use Rattle.std.proofs.lemmas.Nat.{shr-shr}
use Rattle.key_class.specs.Bits.{bits_of}
use Rattle.blocks.specs.Firsts.{IsFirstFrom, NonePassFrom}
use Rattle.blocks.proofs.Passing.{first_by_bits, none_by_bits}

module _ {X : Type 0} (p : X → Bool) (xs : List X) where
  pub all_left : (bits : ℕ) → bits ≡ bits_of p xs → bits ≡ bits_of p xs / 2 ^ 0
  all_left bits e = let whole : bits_of p xs ≡ bits_of p xs / 2 ^ 0 = omega arith in e ∙ whole

  module _ (few : length xs ≤ 64) (from rest : ℕ) (left : rest ≡ bits_of p xs / 2 ^ from) where
    -- the lowest bit tells of the first that passes
    pub found : 0 < rest → IsFirstFrom p xs from (from + trailing_zeros w64 rest)
    found some = subst (λ n. IsFirstFrom p xs from (from + trailing_zeros w64 n)) (sym left) (first_by_bits p xs few from (omega (arith, some, left)))

    -- what is left behind it
    pub behind : (t : ℕ) → rest / 2 ^ t / 2 ≡ bits_of p xs / 2 ^ (from + t + 1)
    behind t = ap (λ n. n / 2 ^ t / 2) left ∙ ap (λ n. n / 2) (shr-shr (bits_of p xs) from t) ∙ shr-shr (bits_of p xs) (from + t) 1

    pub none_left : rest ≡ 0 → NonePassFrom p xs from
    none_left e = none_by_bits p xs few from (sym left ∙ e)
