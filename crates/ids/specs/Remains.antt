-- What is left of an index.
use Rattle.std.specs.Prelude.{ℕ, Option, None, Some}

-- how many values an option has
abbrev pub number_of : {A : Type 0} → Option A → ℕ
number_of None = 0
number_of (Some _) = 1
