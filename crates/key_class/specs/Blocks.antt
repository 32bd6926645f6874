-- Eight values by their places.
use Rattle.std.specs.Prelude.{ℕ, List, [], ◌∷◌}

-- the values at the places from 0 to 7
abbrev pub eight_of : {X : Type 0} → (ℕ → X) → List X
eight_of at = at 0 ∷ at 1 ∷ at 2 ∷ at 3 ∷ at 4 ∷ at 5 ∷ at 6 ∷ at 7 ∷ []
