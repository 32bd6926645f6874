-- By how much a key enlarges a bound.
use Rattle.std.specs.Prelude.{ℕ, ◌-◌, ◌^◌, min}

module _ {K : Type 0} (union : K → K → K) (size : K → ℕ) (key : K) where
  abbrev pub gain : K → ℕ
  gain bound = size (union bound key) - size bound

  -- the same in 64 bits, whose greatest number stands for all that are larger
  abbrev pub gain_in_64_bits : K → ℕ
  gain_in_64_bits bound = min (gain bound) (2 ^ 64 - 1)
