-- Where the keys are that match an atom, and those that satisfy a query.
use Rattle.std.specs.Prelude.{◌≡◌, ℕ, ◌-◌, ◌^◌, Bool, true, List, [], ◌∷◌, ◌++◌, min, sum_by, nat_le, Option, Some, None, option_map, if◌then◌else◌}
use Rattle.std.specs.List.{list_any}
use Rattle.key_class.specs.Queries.{Query, atom, both, either, never, matches_query}

module _ {K A : Type 0} (is_match : A → K → Bool) (reach_of : A → Option K) (overlap_with : K → A) where
  -- a key that matches an atom overlaps the atom's reach
  abbrev pub MatchesOverlap : Type 0
  MatchesOverlap = (a : A) (key reach : K) → reach_of a ≡ Some reach → is_match a key ≡ true → is_match (overlap_with key) reach ≡ true

module _ {K A : Type 0} (is_match : A → K → Bool) (same_with : K → A) where
  -- a key matches the atom that asks for it
  abbrev pub MatchesItself : Type 0
  MatchesItself = (key : K) → is_match (same_with key) key ≡ true

-- the greatest sum of sizes that is told apart from larger ones
abbrev pub greatest_size : ℕ
greatest_size = 2 ^ 128 - 1

module _ {K : Type 0} (size_of : K → ℕ) where
  -- the total size of some keys
  abbrev pub total_size : List K → ℕ
  total_size keys = min (sum_by size_of keys) greatest_size

  -- the keys whose total size is smaller; the first list if both are as large; if one is missing, the other
  abbrev pub narrower : Option (List K) → Option (List K) → Option (List K)
  narrower (Some left) (Some right) = if nat_le (total_size left) (total_size right) then Some left else Some right
  narrower (Some left) None = Some left
  narrower None right = right

module _ {K : Type 0} where
  -- the keys of both lists; none if one is missing
  abbrev pub together : Option (List K) → Option (List K) → Option (List K)
  together (Some left) (Some right) = Some (left ++ right)
  together (Some left) None = None
  together None right = None

module _ {K A : Type 0} (reach_of : A → Option K) (size_of : K → ℕ) where
  -- The keys under which a query is looked for, or none if any key may satisfy it: an atom's reach, the keys of the
  -- narrower part of an And, those of both parts of an Or.
  abbrev pub reaches_of : Query A → Option (List K)
  reaches_of (atom a) = option_map (λ key. key ∷ []) (reach_of a)
  reaches_of (both left right) = narrower size_of (reaches_of left) (reaches_of right)
  reaches_of (either left right) = together (reaches_of left) (reaches_of right)
  reaches_of (never part) = None

module _ {K A : Type 0} (is_match : A → K → Bool) (reach_of : A → Option K) (overlap_with : K → A) (size_of : K → ℕ) where
  -- a key that satisfies a query overlaps one of the keys under which the query is looked for
  abbrev pub SatisfiedOverlap : Type 0
  SatisfiedOverlap = (query : Query A) (keys : List K) (key : K) → reaches_of reach_of size_of query ≡ Some keys → matches_query is_match query key ≡ true
      → list_any (is_match (overlap_with key)) keys ≡ true
