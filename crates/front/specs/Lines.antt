-- Lines of bytes.
use Rattle.std.specs.Prelude.{◌≡◌, ◌≢◌, ℕ, List, [], ◌∷◌, ◌++◌, ◌+◌, length, take, drop}
use Rattle.std.specs.List.{flat_map, AllByRecursion}

abbrev pub HasNoFeed : List ℕ → Type 0
HasNoFeed = AllByRecursion (λ b. b ≢ 10)

-- a line with its line feed
abbrev pub ended : List ℕ → List ℕ
ended line = line ++ 10 ∷ []

-- The bytes are these lines, each with its line feed, and then the rest, which has none.
pub record AreLines (bytes : List ℕ) (lines : List (List ℕ)) (rest : List ℕ) : Type 0 where
  pub joined : bytes ≡ flat_map ended lines ++ rest
  pub lines_have_none : AllByRecursion HasNoFeed lines
  pub rest_has_none : HasNoFeed rest

-- the line is the first of these bytes, and its line feed is there
abbrev pub IsFirstLine : List ℕ → List ℕ → Type 0
IsFirstLine bytes line = HasNoFeed line × (bytes ≡ line ++ 10 ∷ drop (length line + 1) bytes)

-- the first line feed stands behind so many bytes
abbrev pub IsFirstFeed : List ℕ → ℕ → Type 0
IsFirstFeed bytes at = HasNoFeed (take at bytes) × (bytes ≡ take at bytes ++ 10 ∷ drop (at + 1) bytes)
