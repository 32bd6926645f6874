-- How the steps change a page.
use Rattle.std.specs.Prelude.{ℕ, suc, true, false, cond, nat_eq, List, [], ◌∷◌, ◌++◌, Option, Some, None, map}
use Rattle.key_class.specs.declared.sides.Side.{Side}
use Rattle.row_version.specs.Entries.{Entry}
use Rattle.node.specs.declared.branch.Branch.{Branch}
use Rattle.node.specs.Pages.{Page, keys_of}
use Rattle.node.specs.Parts.{left_part, right_part, cover_of}

-- A split by sides, whose right part becomes page `sibling`: the page keeps its number and owes the sibling a
-- posting.
abbrev pub split_left : {K : Type 0} → (K → K → K) → Page K → List Side → ℕ → Page K
split_left union page sides sibling = record {
  level = page.level;
  nsn = page.nsn;
  right = Some sibling;
  owed = true;
  hung = page.hung;
  cover = cover_of union (keys_of (left_part sides page.rows) (left_part sides page.branches));
  rows = left_part sides page.rows;
  branches = left_part sides page.branches;
}

-- The new sibling takes the page's number and right link.
abbrev pub split_right : {K : Type 0} → (K → K → K) → Page K → List Side → Page K
split_right union page sides = record {
  level = page.level;
  nsn = page.nsn;
  right = page.right;
  owed = false;
  hung = false;
  cover = cover_of union (keys_of (right_part sides page.rows) (right_part sides page.branches));
  rows = right_part sides page.rows;
  branches = right_part sides page.branches;
}

-- the branch to c, its key now the cover of c
abbrev pub rekeyed : {K : Type 0} → ℕ → Option K → Branch K → Branch K
rekeyed c None b = b
rekeyed c (Some k) b = cond (nat_eq b.child c) (record { key = k; child = b.child }) b

-- a branch to the page with that cover
abbrev pub branch_to : {K : Type 0} → ℕ → Option K → List (Branch K)
branch_to child None = []
branch_to child (Some k) = record { key = k; child = child } ∷ []

-- A posting: the parent gets branches to both halves, with their covers as keys,
abbrev pub post_parent : {K : Type 0} → Page K → ℕ → Option K → ℕ → Option K → Page K
post_parent page c cover_c s cover_s = record page { branches = map (rekeyed c cover_c) page.branches ++ branch_to s cover_s }

-- the child owes nothing any more and gets a new number,
abbrev pub post_child : {K : Type 0} → Page K → ℕ → Page K
post_child page nsn = record page { nsn = nsn; owed = false }

-- and the sibling is hung.
abbrev pub post_sibling : {K : Type 0} → Page K → Page K
post_sibling page = record page { hung = true }

-- A growth by sides: the root's entries go to two pages below it, the second of which is page b.
abbrev pub grown_left : {K : Type 0} → (K → K → K) → Page K → List Side → ℕ → Page K
grown_left union page sides b = record {
  level = page.level;
  nsn = 0;
  right = Some b;
  owed = false;
  hung = true;
  cover = cover_of union (keys_of (left_part sides page.rows) (left_part sides page.branches));
  rows = left_part sides page.rows;
  branches = left_part sides page.branches;
}

abbrev pub grown_right : {K : Type 0} → (K → K → K) → Page K → List Side → Page K
grown_right union page sides = record {
  level = page.level;
  nsn = 0;
  right = None;
  owed = false;
  hung = true;
  cover = cover_of union (keys_of (right_part sides page.rows) (right_part sides page.branches));
  rows = right_part sides page.rows;
  branches = right_part sides page.branches;
}

abbrev pub risen : {K : Type 0} → Page K → List (Branch K) → Page K
risen page branches = record page { level = suc page.level; rows = []; branches = branches }

abbrev pub grown_root : {K : Type 0} → Page K → ℕ → Option K → ℕ → Option K → Page K
grown_root page a cover_a b cover_b = risen page (branch_to a cover_a ++ branch_to b cover_b)

-- An enlargement: the key of the branch to c, and the cover of c, are widened by the key.
abbrev pub widened : {K : Type 0} → (K → K → K) → ℕ → K → Branch K → Branch K
widened union c key b = cond (nat_eq b.child c) (record { key = union b.key key; child = b.child }) b

abbrev pub wider : {K : Type 0} → (K → K → K) → Option K → K → Option K
wider union None key = None
wider union (Some bound) key = Some (union bound key)

abbrev pub enlarge_parent : {K : Type 0} → (K → K → K) → ℕ → K → Page K → Page K
enlarge_parent union c key page = record page { branches = map (widened union c key) page.branches }

abbrev pub enlarge_child : {K : Type 0} → (K → K → K) → K → Page K → Page K
enlarge_child union key page = record page { cover = wider union page.cover key }

-- branches to two pages, each given by its number and its cover
abbrev pub branches_to : {K : Type 0} → ℕ × Option K → ℕ × Option K → List (Branch K)
branches_to first second = branch_to first.0 first.1 ++ branch_to second.0 second.1

-- the parent gets branches to both halves, each given by its number and its cover
abbrev pub naming_both : {K : Type 0} → Page K → ℕ × Option K → ℕ × Option K → Page K
naming_both page child sibling = post_parent page child.0 child.1 sibling.0 sibling.1

-- the parent gets branches to two pages, with their covers as keys
abbrev pub post_up : {K : Type 0} → Page K → ℕ → Page K → ℕ → Page K → Page K
post_up page c child s sibling = post_parent page c child.cover s sibling.cover

-- A leaf with other rows: one more, some fewer, or one of them dead.
abbrev pub with_rows : {K : Type 0} → Page K → List (Entry K) → Page K
with_rows page rows = record page { rows = rows }

-- one row more, at the end
abbrev pub with_row : {K : Type 0} → Page K → Entry K → Page K
with_row page entry = with_rows page (page.rows ++ entry ∷ [])
