-- Lists whose members have rising serials.
use Rattle.std.specs.Prelude.{◌≡◌, ℕ, ◌<◌, ◌≤◌, not, nat_eq, List, [], ◌∷◌, filter, find, Option, Some, None, MatchOption, slice_get, if◌then◌else◌}

module _ {X : Type 0} (serial : X → ℕ) where
  -- the member with a serial
  abbrev pub member : ℕ → List X → Option X
  member c xs = find (λ x. nat_eq (serial x) c) xs

  -- x replaces the member with its serial
  abbrev pub put : X → List X → List X
  put x [] = []
  put x (y ∷ ys) = if nat_eq (serial y) (serial x) then x ∷ ys else y ∷ put x ys

  abbrev pub without : ℕ → List X → List X
  without c xs = filter (λ x. not (nat_eq (serial x) c)) xs

  -- the serials rise, above the first number and up to the second
  abbrev pub Rise : ℕ → ℕ → List X → Type 0
  Rise above last [] = above ≤ last
  Rise above last (x ∷ xs) = (above < serial x) × Rise (serial x) last xs

  -- the member with a serial, by its place
  pub record IsMember (xs : List X) (c at : ℕ) : Type 0 where
    pub value : X
    pub is : slice_get xs at ≡ Some value
    pub number : serial value ≡ c
    pub found : member c xs ≡ Some value

  -- the place of the member with a serial, if there is one
  abbrev pub IsPlaceOf : List X → ℕ → Option ℕ → Type 0
  IsPlaceOf xs c place = MatchOption place (member c xs ≡ None) (λ at. IsMember xs c at)
