-- The tree after a step, and what each step requires.
use Rattle.std.specs.Prelude.{◌≡◌, ℕ, suc, ◌<◌, ◌≤◌, true, false, List, length, Some, None, option_to_list, All}
use Rattle.key_class.specs.declared.sides.Side.{Side}
use Rattle.node.specs.Pages.{Page, keys_of}
use Rattle.node.specs.Parts.{left_part, right_part, cover_of}
use Rattle.node.specs.Changes.{split_left, split_right, grown_left, grown_right, grown_root, enlarge_parent, enlarge_child}
use Rattle.page_table.specs.PageChanges.{with_posting}
use Rattle.page_table.specs.Trees.{Tree, page_at, replaced, added, naming}

-- Split(p, sides): page p keeps its left entries, the next page gets the right ones, and p owes it a posting.
unfoldable pub after_split : {K : Type 0} → (K → K → K) → Tree K → ℕ → List Side → Tree K
after_split union t p sides =
    added (replaced t p (split_left union (page_at t p) sides (length t.pages))) (split_right union (page_at t p) sides)

-- Post(p, c), where s is the right sibling of c: parent p has branches to both with their covers as keys, c owes
-- nothing any more and has the number of the posting, s is hung.
unfoldable pub after_post : {K : Type 0} → Tree K → ℕ → ℕ → ℕ → Tree K
after_post t p c s = with_posting t p c s

-- Grow(sides): the next two pages a and b get the root's entries, and the root, one level higher, has branches to
-- both.
unfoldable pub after_grow : {K : Type 0} → (K → K → K) → Tree K → List Side → Tree K
after_grow union t sides =
    replaced (added (added t (grown_left union (page_at t 0) sides (suc (length t.pages)))) (grown_right union (page_at t 0) sides)) 0
    (grown_root (page_at t 0) (length t.pages) (grown_left union (page_at t 0) sides (suc (length t.pages))).cover (suc (length t.pages)) (grown_right union (page_at t 0) sides).cover)

-- Enlarge(p, c, key): the key of p's branch to c, and the cover of c, are widened by the key.
unfoldable pub after_enlarge : {K : Type 0} → (K → K → K) → Tree K → ℕ → ℕ → K → Tree K
after_enlarge union t p c key = replaced (replaced t c (enlarge_child union key (page_at t c))) p (enlarge_parent union c key (page_at t p))

-- what a split of p requires
pub record CanSplit {K : Type 0} (t : Tree K) (p : ℕ) (sides : List Side) : Type 0 where
  pub not_root : (p ≡ 0) → ⊥
  pub exists : p < length t.pages
  pub not_owed : (page_at t p).owed ≡ false
  pub hung : (page_at t p).hung ≡ true
  pub some_left : 0 < length (keys_of (left_part sides (page_at t p).rows) (left_part sides (page_at t p).branches))
  pub some_right : 0 < length (keys_of (right_part sides (page_at t p).rows) (right_part sides (page_at t p).branches))

-- what a posting of c, whose sibling is s, in p requires
pub record CanPost {K : Type 0} (t : Tree K) (p c s : ℕ) : Type 0 where
  pub parent_exists : p < length t.pages
  pub child_exists : c < length t.pages
  pub child_owed : (page_at t c).owed ≡ true
  pub sibling : (page_at t c).right ≡ Some s
  pub sibling_bound : (k : K) × ((page_at t s).cover ≡ Some k)
  pub once : naming c (page_at t p).branches ≡ 1
  pub nowhere_else : (q : ℕ) → q < length t.pages → ((q ≡ p) → ⊥) → All (λ b. (b.child ≡ c) → ⊥) (page_at t q).branches
  pub no_other_owes : (q : ℕ) → q < length t.pages → (page_at t q).owed ≡ true → All (λ r. (r ≡ c) → ⊥) (option_to_list (page_at t q).right)
  pub numbers : (q : ℕ) → q < length t.pages → (page_at t q).nsn ≤ t.counter

-- the sides of a growth put entries on both sides
pub record SidesPart {K : Type 0} (page : Page K) (sides : List Side) : Type 0 where
  pub some_left : 0 < length (keys_of (left_part sides page.rows) (left_part sides page.branches))
  pub some_right : 0 < length (keys_of (right_part sides page.rows) (right_part sides page.branches))

-- what a growth requires
pub record CanGrow {K : Type 0} (union : K → K → K) (t : Tree K) (sides : List Side) : Type 0 where
  pub root_exists : 0 < length t.pages
  pub no_right : (page_at t 0).right ≡ None
  pub left_bound : (k : K) × (cover_of union (keys_of (left_part sides (page_at t 0).rows) (left_part sides (page_at t 0).branches)) ≡ Some k)
  pub right_bound : (k : K) × (cover_of union (keys_of (right_part sides (page_at t 0).rows) (right_part sides (page_at t 0).branches)) ≡ Some k)
