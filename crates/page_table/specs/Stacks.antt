-- What is left under the stack of a traversal, and one visit.
use Rattle.std.specs.Prelude.{ℕ, ◌<◌, ◌≤◌, Bool, List, [], ◌∷◌, ◌++◌, length, map, flat_map, reverse, filter, All}
use Rattle.row_version.specs.Entries.{Entry}
use Rattle.node.specs.declared.branch.Branch.{Branch}
use Rattle.node.specs.Pages.{followed}
use Rattle.page_table.specs.Trees.{Tree, page_at, pages_under, rows_under}

-- a page that is still to be visited, and the counter when its number was read
pub record StackItem : Type 0 where
  pub page : ℕ
  pub memo : ℕ

-- the stack of a traversal that begins at the root, with the counter
abbrev pub root_stack : ℕ → List StackItem
root_stack counter = (record { page = 0; memo = counter }) ∷ []

-- each item has a page that exists and a memo up to the counter
abbrev pub IsStack : {K : Type 0} → Tree K → List StackItem → Type 0
IsStack t items = All (λ i. (i.page < length t.pages) × (i.memo ≤ t.counter)) items

abbrev pub rows_left : {K : Type 0} → Tree K → List StackItem → List (Entry K)
rows_left t items = flat_map (λ i. rows_under t i.page i.memo) items

abbrev pub pages_left : {K : Type 0} → Tree K → List StackItem → List ℕ
pages_left t items = flat_map (λ i. pages_under t i.page i.memo) items

-- what a visit of (p, m) pushes, the next to be visited last: the right link with the same memo, then the wanted
-- children with the counter
abbrev pub pushed : {K : Type 0} → Tree K → (Branch K → Bool) → ℕ → ℕ → List StackItem
pushed t wanted p m =
    map (λ r. record { page = r; memo = m }) (followed (page_at t p) m)
    ++ reverse (map (λ b. record { page = b.child; memo = t.counter }) (filter wanted (page_at t p).branches))
