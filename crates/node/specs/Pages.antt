-- A page of the tree, as contracts see it.
use Rattle.std.specs.Prelude.{ℕ, ◌+◌, Bool, true, false, not, cond, ◌||◌, nat_lt, nat_eq, List, [], ◌++◌, length, Option, Some, None, map, option_to_list}
use Rattle.std.specs.List.{list_any}
use Rattle.row_version.specs.Entries.{Entry, is_needed}
use Rattle.node.specs.declared.branch.Branch.{Branch}

-- A leaf has level 0 and rows, an inner page has branches.
pub record Page (K : Type 0) : Type 0 where
  pub level : ℕ
  -- the number of the posting of its latest split, 0 before the first
  pub nsn : ℕ
  -- the page to which its latest split moved a part of it
  pub right : Option ℕ
  -- it was split, and the right sibling isn't posted yet
  pub owed : Bool
  -- its parent has a branch to it
  pub hung : Bool
  -- a bound of everything that it holds; none for page 0, which may hold everything
  pub cover : Option K
  pub rows : List (Entry K)
  pub branches : List (Branch K)

-- a leaf with nothing in it
abbrev pub empty_leaf : {K : Type 0} → Page K
empty_leaf = record { level = 0; nsn = 0; right = None; owed = false; hung = true; cover = None; rows = []; branches = [] }

-- the right link, if a traversal with memo m follows it, as a list of at most one
abbrev pub followed : {K : Type 0} → Page K → ℕ → List ℕ
followed page m = cond (page.owed || nat_lt m page.nsn) (option_to_list page.right) []

-- how many entries it has, of either kind
abbrev pub entries_of : {K : Type 0} → Page K → ℕ
entries_of page = length page.rows + length page.branches

-- a branch leads to the child
abbrev pub names : {K : Type 0} → ℕ → Page K → Bool
names child page = list_any (λ b. nat_eq b.child child) page.branches

-- it has a dead row that no scan opened at that commit or later needs
abbrev pub has_unneeded : {K : Type 0} → ℕ → Page K → Bool
has_unneeded horizon page = list_any (λ e. not (is_needed horizon e)) page.rows

-- the bound covers the key; if there is no bound, every key counts as covered
abbrev pub is_within : {K : Type 0} → (K → K → Bool) → Option K → K → Bool
is_within is_cover None key = true
is_within is_cover (Some bound) key = is_cover bound key

-- the keys of some entries
abbrev pub keys_of : {K : Type 0} → List (Entry K) → List (Branch K) → List K
keys_of rows branches = map (λ e. e.key) rows ++ map (λ b. b.key) branches
