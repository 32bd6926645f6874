-- A table of pages as a tree: the pages and the rows under a page and a memo.
use Rattle.std.specs.Prelude.{ℕ, zero, suc, ◌<◌, false, cond, List, [], ◌∷◌, ◌++◌, length, None, slice_index_or, slice_set, flat_map, option_to_list, All}
use Rattle.row_version.specs.Entries.{Entry}
use Rattle.node.specs.declared.branch.Branch.{Branch}
use Rattle.node.specs.Pages.{Page, empty_leaf, followed}
use Rattle.node.specs.Changes.{with_rows}
use Rattle.page_table.specs.Weights.{weigh, one_if_equal}

-- The pages by number, page 0 the root, and the number of the latest posting.
pub record Tree (K : Type 0) : Type 0 where
  pub pages : List (Page K)
  pub counter : ℕ

-- what reading a number that no page has gives
abbrev pub no_page : {K : Type 0} → Page K
no_page = record { level = 0; nsn = 0; right = None; owed = false; hung = false; cover = None; rows = []; branches = [] }

abbrev pub page_at : {K : Type 0} → Tree K → ℕ → Page K
page_at t p = slice_index_or t.pages p no_page

-- the pages met from (p, m) along paths of at most n pages: p, those below its branches with the counter as the memo,
-- and those of its right link, if it is followed, with the same memo
unfoldable pub pages_within : {K : Type 0} → ℕ → Tree K → ℕ → ℕ → List ℕ
pages_within zero t p m = []
pages_within (suc n) t p m =
    p ∷ (flat_map (λ b. pages_within n t b.child t.counter) (page_at t p).branches
    ++ flat_map (λ r. pages_within n t r m) (followed (page_at t p) m))

-- the pages under (p, m); no path is longer than the number of pages
unfoldable pub pages_under : {K : Type 0} → Tree K → ℕ → ℕ → List ℕ
pages_under t p m = pages_within (length t.pages) t p m

abbrev pub rows_of : {K : Type 0} → Tree K → List ℕ → List (Entry K)
rows_of t ps = flat_map (λ p. (page_at t p).rows) ps

-- the rows under (p, m): what a traversal that comes to page p with memo m may meet
abbrev pub rows_under : {K : Type 0} → Tree K → ℕ → ℕ → List (Entry K)
rows_under t p m = rows_of t (pages_under t p m)

-- what a traversal that begins at the root may meet
abbrev pub rows_of_tree : {K : Type 0} → Tree K → List (Entry K)
rows_of_tree t = rows_under t 0 t.counter

-- the chain from (p, m): p, and the chain of its right link, if it is followed
unfoldable pub chain_within : {K : Type 0} → ℕ → Tree K → ℕ → ℕ → List ℕ
chain_within zero t p m = []
chain_within (suc n) t p m = p ∷ flat_map (λ r. chain_within n t r m) (followed (page_at t p) m)

unfoldable pub chain : {K : Type 0} → Tree K → ℕ → ℕ → List ℕ
chain t p m = chain_within (length t.pages) t p m

-- the tree with another content of page p
abbrev pub replaced : {K : Type 0} → Tree K → ℕ → Page K → Tree K
replaced t p page = record { pages = slice_set t.pages p page; counter = t.counter }

-- one more page, under the next number
abbrev pub added : {K : Type 0} → Tree K → Page K → Tree K
added t page = record { pages = t.pages ++ (page ∷ []); counter = t.counter }

-- the tree of a new world: page 0, an empty leaf
unfoldable pub new_tree : {K : Type 0} → Tree K
new_tree = record { pages = empty_leaf ∷ []; counter = 0 }

-- the tree with other rows in leaf p
unfoldable pub after_rows : {K : Type 0} → Tree K → ℕ → List (Entry K) → Tree K
after_rows t p rows = replaced t p (with_rows (page_at t p) rows)

-- a link of page p to q: q is one of n pages and has a lower rank
abbrev pub Falls : ℕ → (ℕ → ℕ) → ℕ → ℕ → Type 0
Falls n rank p q = (q < n) × (rank q < rank p)

pub record LinksFall {K : Type 0} (n : ℕ) (rank : ℕ → ℕ) (p : ℕ) (page : Page K) : Type 0 where
  pub down : All (λ b. Falls n rank p b.child) page.branches
  pub along : All (λ r. Falls n rank p r) (option_to_list page.right)

-- Links lead to pages that exist, and every path of links ends: a rank below the number of pages falls along each link.
pub record IsRanked {K : Type 0} (t : Tree K) (rank : ℕ → ℕ) : Type 0 where
  pub bounded : (p : ℕ) → p < length t.pages → rank p < length t.pages
  pub links : (p : ℕ) → p < length t.pages → LinksFall (length t.pages) rank p (page_at t p)

-- how many of the branches lead to c
abbrev pub naming : {K : Type 0} → ℕ → List (Branch K) → ℕ
naming c bs = weigh (λ b. one_if_equal b.child c) bs

-- 1 if the page links to q
abbrev pub linking : {K : Type 0} → ℕ → Page K → ℕ
linking q page = weigh (λ r. one_if_equal r q) (option_to_list page.right)

-- 1 if the page is owed and q is its right sibling
abbrev pub owing : {K : Type 0} → ℕ → Page K → ℕ
owing q page = cond page.owed (weigh (λ r. one_if_equal r q) (option_to_list page.right)) 0
