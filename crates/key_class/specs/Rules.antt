use Rattle.std.specs.Prelude.{◌≡◌, ◌↔◌, ◌≤◌, ℕ, Bool, true, List}
use Rattle.key_class.specs.Queries.{Query, matches_query, consistent_with_query}
use Rattle.key_class.specs.declared.sides.Side.{Side}

-- the meaning of a class's calls
pub record Rules (K A : Type 0) : Type 1 where
  -- whether a row's key matches an atom
  pub is_match : A → K → Bool
  -- whether a key below a bound may match an atom
  pub is_consistent : A → K → Bool
  -- the least key that covers two
  pub union_of : K → K → K
  -- whether a bound covers a key
  pub is_cover : K → K → Bool
  -- how large a key is
  pub size_of : K → ℕ
  -- which sides a split of these keys may give, with at least this many on each side
  pub picks : List K → ℕ → List Side → Type 0

-- whether a key satisfies a query
abbrev pub satisfies : {K A : Type 0} → Rules K A → Query A → K → Bool
satisfies rules query = matches_query rules.is_match query

-- whether a key below a bound may satisfy a query
abbrev pub may_satisfy : {K A : Type 0} → Rules K A → Query A → K → Bool
may_satisfy rules query = consistent_with_query rules.is_consistent query

-- the laws of bounds on which a tree rests
pub record KeyLaws {K : Type 0} (is_cover : K → K → Bool) (union : K → K → K) : Type 0 where
  pub itself : (a : K) → is_cover a a ≡ true
  pub through : (a b c : K) → is_cover a b ≡ true → is_cover b c ≡ true → is_cover a c ≡ true
  pub left : (a b : K) → is_cover (union a b) a ≡ true
  pub right : (a b : K) → is_cover (union a b) b ≡ true
  pub least : (a b c : K) → is_cover c a ≡ true → is_cover c b ≡ true → is_cover c (union a b) ≡ true

-- the laws of the rules, and that the equality tests are exact
pub record IsLawful {K A : Type 0} (rules : Rules K A) (same_key : K → K → Bool) (same_atom : A → A → Bool) : Type 0 where
  pub bounds : KeyLaws rules.is_cover rules.union_of
  -- a bound that covers a matching key is consistent with the atom
  pub consistent_above_match : (atom : A) (bound key : K) → rules.is_cover bound key ≡ true → rules.is_match atom key ≡ true → rules.is_consistent atom bound ≡ true
  -- a bound grows by a key exactly if it doesn't cover the key
  pub covered_adds_nothing : (bound key : K) → (rules.is_cover bound key ≡ true) ↔ (rules.size_of (rules.union_of bound key) ≤ rules.size_of bound)
  pub equal_keys_are_same : (a b : K) → (same_key a b ≡ true) ↔ (a ≡ b)
  pub equal_atoms_are_same : (a b : A) → (same_atom a b ≡ true) ↔ (a ≡ b)
