-- What is left of a table that is dropped piece by piece.
use Rattle.std.specs.Prelude.{ℕ, length, Option, Some, None}
use Rattle.std.specs.Array.Iter.{array_into_iter_items}
use Rattle.std.specs.declared.array.IntoIter.{IntoIter}

-- how many elements of an array are left
abbrev pub number_left : {X : Type 0} {n : ℕ} → Option (IntoIter X n) → ℕ
number_left (Some parts) = length (array_into_iter_items parts)
number_left None = 0
