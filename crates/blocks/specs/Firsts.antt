-- The first value that passes a test, from a place on.
use Rattle.std.specs.Prelude.{◌≡◌, ℕ, ◌<◌, ◌≤◌, Bool, true, false, List, length, map, slice_index_or}

module _ {X : Type 0} (test : X → Bool) (xs : List X) where
  -- whether the value at a place passes; behind the last value nothing does
  abbrev pub passes_at : ℕ → Bool
  passes_at place = slice_index_or (map test xs) place false

  -- none passes from a place on
  abbrev pub NonePassFrom : ℕ → Type 0
  NonePassFrom from = (place : ℕ) → from ≤ place → passes_at place ≡ false

  -- the value at this place passes, and none before it from another place on
  pub record IsFirstFrom (from place : ℕ) : Type 0 where
    pub behind : from ≤ place
    pub within : place < length xs
    pub passes : passes_at place ≡ true
    pub none_before : (other : ℕ) → from ≤ other → other < place → passes_at other ≡ false
