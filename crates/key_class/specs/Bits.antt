-- Answers as the bits of a number.
use Rattle.std.specs.Prelude.{ℕ, Bool, List, map}
use Rattle.std.specs.Simd.Lanes.{mask_l}

-- the bits that tell which of a list pass a test: the lowest tells of the first
abbrev pub bits_of : {X : Type 0} → (X → Bool) → List X → ℕ
bits_of test xs = mask_l (map test xs)
