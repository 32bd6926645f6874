-- Beginnings of a history.
use Rattle.std.specs.Prelude.{◌<◌, List, length}
use mathlib.Core.List.{IsPrefix}

-- ys begins with xs
pub record IsPastOf {K : Type 0} (xs ys : List K) : Type 0 where
  pub begins : IsPrefix xs ys

-- ys begins with xs, and goes on
abbrev pub IsLonger : {K : Type 0} → List K → List K → Type 0
IsLonger xs ys = IsPrefix xs ys × (length xs < length ys)
