-- The tree after changes of several pages in one step.
use Rattle.std.specs.Prelude.{ℕ, suc, List, length}
use Rattle.key_class.specs.Rules.{Rules}
use Rattle.key_class.specs.declared.sides.Side.{Side}
use Rattle.node.specs.declared.branch.Branch.{Branch}
use Rattle.node.specs.Pages.{Page}
use Rattle.node.specs.Changes.{split_left, post_up, post_child, post_sibling, risen, enlarge_parent, enlarge_child}
use Rattle.page_table.specs.Trees.{Tree, page_at, replaced, added}

module _ {K A : Type 0} (rules : Rules K A) where
  -- page p keeps its left entries and owes a posting to the next page, which is the one given
  abbrev pub with_part : Tree K → ℕ → List Side → Page K → Tree K
  with_part t p sides right = added (replaced t p (split_left rules.union_of (page_at t p) sides (length t.pages))) right

  -- the key of p's branch to c, and the cover of c, are widened by the key
  abbrev pub with_wider : Tree K → ℕ → ℕ → K → Tree K
  with_wider t p c key =
      replaced (replaced t c (enlarge_child rules.union_of key (page_at t c))) p (enlarge_parent rules.union_of c key (page_at t p))

module _ {K : Type 0} where
  -- two more pages, and page 0 one level higher, with these branches
  abbrev pub with_rise : Tree K → List (Branch K) → Page K → Page K → Tree K
  with_rise t branches left right = added (added (replaced t 0 (risen (page_at t 0) branches)) left) right

  -- p has branches to c and s with their covers as keys, c owes nothing any more and has the number of the posting, s
  -- is hung
  abbrev pub with_posting : Tree K → ℕ → ℕ → ℕ → Tree K
  with_posting t p c s = record {
    pages = (replaced (replaced (replaced t s (post_sibling (page_at t s))) c (post_child (page_at t c) (suc t.counter)))
        p (post_up (page_at t p) c (page_at t c) s (page_at t s))).pages;
    counter = suc t.counter;
  }
