-- What every step keeps of a tree.
use Rattle.std.specs.Prelude.{◌≡◌, ◌⊎◌, ℕ, suc, ◌+◌, ◌<◌, ◌≤◌, Bool, true, false, cond, [], length, Option, Some, None, option_to_list, All}
use Rattle.node.specs.declared.branch.Branch.{Branch}
use Rattle.node.specs.Pages.{Page}
use Rattle.page_table.specs.Weights.{weigh, one_if_equal}
use Rattle.page_table.specs.Trees.{Tree, page_at, pages_under, IsRanked, naming, owing, linking}

-- the bound covers the key; page 0 has no bound and counts as covering everything
abbrev pub IsWithin : {K : Type 0} → (K → K → Bool) → Option K → K → Type 0
IsWithin is_cover None key = Unit {0}
IsWithin is_cover (Some bound) key = is_cover bound key ≡ true

-- the key covers the bound, which exists
abbrev pub IsBelow : {K : Type 0} → (K → K → Bool) → K → Option K → Type 0
IsBelow is_cover key None = ⊥
IsBelow is_cover key (Some bound) = is_cover key bound ≡ true

-- a branch's key covers its child's cover and, if the child is owed, its right sibling's
pub record BoundsBelow {K : Type 0} (is_cover : K → K → Bool) (t : Tree K) (b : Branch K) : Type 0 where
  pub child : IsBelow is_cover b.key (page_at t b.child).cover
  pub sibling : (page_at t b.child).owed ≡ true → All (λ r. IsBelow is_cover b.key (page_at t r).cover) (option_to_list (page_at t b.child).right)

-- the cover covers what the page holds
pub record IsBounded {K : Type 0} (is_cover : K → K → Bool) (t : Tree K) (page : Page K) : Type 0 where
  pub rows : All (λ e. IsWithin is_cover page.cover e.key) page.rows
  pub branches : All (λ b. IsWithin is_cover page.cover b.key) page.branches
  pub below : All (λ b. BoundsBelow is_cover t b) page.branches

-- How often links lead to page q.
pub record IsReached {K : Type 0} (t : Tree K) (q : ℕ) (page : Page K) : Type 0 where
  -- it is hung exactly if a branch leads to it, and then just one does; page 0 is hung, and no branch leads to it
  pub named : weigh (λ p. naming q p.branches) t.pages + one_if_equal q 0 ≡ cond page.hung 1 0
  -- it is unhung exactly if it is the right sibling of an owed page, and then of just one
  pub owed_by : weigh (λ p. owing q p) t.pages ≡ cond page.hung 0 1
  -- an unhung page isn't owed, and only one page links to it
  pub settled : page.hung ≡ false → page.owed ≡ false
  pub linked_by : page.hung ≡ false → weigh (λ p. linking q p) t.pages ≡ 1
  -- a traversal that begins at the root meets it once
  pub once : weigh (λ x. one_if_equal x q) (pages_under t 0 t.counter) ≡ 1

pub record IsShaped {K : Type 0} (t : Tree K) (fan : ℕ) (page : Page K) : Type 0 where
  pub number : page.nsn ≤ t.counter
  -- a page that is owed or has a number above 0 has a right link
  pub link : (page.owed ≡ true) ⊎ (0 < page.nsn) → (r : ℕ) × (page.right ≡ Some r)
  pub level_along : All (λ r. (page_at t r).level ≡ page.level) (option_to_list page.right)
  pub level_down : All (λ b. suc (page_at t b.child).level ≡ page.level) page.branches
  pub leaf : page.level ≡ 0 → page.branches ≡ []
  pub inner : 0 < page.level → page.rows ≡ []
  pub fits : length page.rows + length page.branches ≤ fan
  -- no path down is longer than the number of pages
  pub low : page.level < length t.pages
  -- an inner page has a branch
  pub branched : 0 < page.level → 0 < length page.branches

pub record IsRoot {K : Type 0} (page : Page K) : Type 0 where
  pub number : page.nsn ≡ 0
  pub no_right : page.right ≡ None
  pub not_owed : page.owed ≡ false
  pub hung : page.hung ≡ true
  pub no_cover : page.cover ≡ None

pub record IsSound {K : Type 0} (is_cover : K → K → Bool) (fan : ℕ) (t : Tree K) : Type 0 where
  -- every right chain ends: a rank below the number of pages falls along right links and branches
  pub rank : ℕ → ℕ
  pub ranked : IsRanked t rank
  pub root_exists : 0 < length t.pages
  pub root : IsRoot (page_at t 0)
  pub no_link_to_root : weigh (λ p. linking 0 p) t.pages ≡ 0
  -- each posting has hung a page for good
  pub posted : weigh (λ p. cond p.hung 0 1) t.pages + t.counter < length t.pages
  pub shape : (p : ℕ) → p < length t.pages → IsShaped t fan (page_at t p)
  pub reached : (p : ℕ) → p < length t.pages → IsReached t p (page_at t p)
  pub bounded : (p : ℕ) → p < length t.pages → IsBounded is_cover t (page_at t p)
