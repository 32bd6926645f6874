-- Members of a list, selected by the bits of a number.
use Rattle.std.specs.Prelude.{ℕ, ◌%◌, ◌/◌, ◌^◌, ◌<◌, ◌==◌, cond, List, [], ◌∷◌, length}

-- the members of a list whose bits are set; the lowest bit is the first member's
unfoldable pub picked : {X : Type 0} → ℕ → List X → List X
picked bits [] = []
picked bits (x ∷ xs) = cond (bits % 2 == 1) (x ∷ picked (bits / 2) xs) (picked (bits / 2) xs)

-- no bit is set beyond the members of the list
abbrev pub HasBitsFor : {X : Type 0} → List X → ℕ → Type 0
HasBitsFor xs bits = bits < 2 ^ length xs
