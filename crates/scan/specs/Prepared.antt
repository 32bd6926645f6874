-- A visit that is worked out without the table.
use Rattle.std.specs.Prelude.{◌≡◌, ℕ, Bool, false, List, map, filter, reverse}
use Rattle.key_class.specs.Queries.{Query, matches_query, consistent_with_query}
use Rattle.change_list.specs.declared.item.Row.{Row}
use Rattle.node.specs.declared.branch.Branch.{Branch}
use Rattle.node.specs.Pages.{Page}
use Rattle.page_table.specs.Stacks.{StackItem}
use Rattle.page_table.specs.Trees.{Tree, page_at}
use Rattle.scan.specs.Scanning.{seen, IsNext}

-- the visit of a page for a query, after the first commits up to an opening
pub record PreparedVisit (K A : Type 0) : Type 0 where
  pub item : StackItem
  pub page : Page K
  pub query : Query A
  pub opened : ℕ
  -- what it notes and where it goes on was worked out
  pub worked : Bool

module _ {K : Type 0} where
  -- the children whose bounds pass, the first one last
  abbrev pub wanted_children : (K → Bool) → List (Branch K) → List ℕ
  wanted_children wanted branches = reverse (map (λ b. b.child) (filter (λ b. wanted b.key) branches))

-- what is noted on a page, and the children that the visit goes on to
pub record IsFound {K A : Type 0} (matching consistent : A → K → Bool) (query : Query A) (opened : ℕ) (page : Page K) (rows : List (Row K)) (children : List ℕ) : Type 0 where
  pub noted : rows ≡ seen (matches_query matching query) opened page.rows
  pub further : children ≡ wanted_children (consistent_with_query consistent query) page.branches

-- the visit of a stack's last item, with its page's present value, not yet worked out
pub record IsFresh {K A : Type 0} (stack : List StackItem) (t : Tree K) (query : Query A) (opened : ℕ) (visit : PreparedVisit K A) : Type 0 where
  pub next : IsNext stack visit.item
  pub page : visit.page ≡ page_at t visit.item.page
  pub query_is : visit.query ≡ query
  pub opened_is : visit.opened ≡ opened
  pub unworked : visit.worked ≡ false
