-- Lists in blocks of eight.
use Rattle.std.specs.Prelude.{◌≡◌, ℕ, ◌+◌, ◌*◌, ◌/◌, ◌%◌, ◌<◌, ◌≤◌, List, Some, flat_map, slice_get}

-- the values of all blocks, one after the other
abbrev pub values_of : {B X : Type 0} → (B → List X) → List B → List X
values_of items blocks = flat_map items blocks

-- so many blocks as so many values need
pub record AreBlocksFor (count blocks : ℕ) : Type 0 where
  pub enough : count ≤ 8 * blocks
  pub needed : 8 * blocks < count + 8

-- the values of a list that lie in the block with a number stand in it in order
abbrev pub IsBlockOf : {X : Type 0} → List X → ℕ → List X → Type 0
IsBlockOf {X} xs number block = (place : ℕ) (x : X) → place / 8 ≡ number → slice_get xs place ≡ Some x → slice_get block (place % 8) ≡ Some x
