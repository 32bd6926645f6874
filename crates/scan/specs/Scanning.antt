-- What a scan still has to find, and one of its visits.
use Rattle.std.specs.Prelude.{◌≡◌, ◌≢◌, ◌⊎◌, ℕ, ◌+◌, ◌<◌, ◌≤◌, Bool, ◌&&◌, List, [], ◌∷◌, ◌++◌, length, map, filter, reverse}
use Rattle.change_list.specs.declared.item.Row.{Row}
use Rattle.row_version.specs.Entries.{Entry, visible_at}
use Rattle.node.specs.declared.branch.Branch.{Branch}
use Rattle.page_table.specs.Soundness.{IsSound}
use Rattle.page_table.specs.Stacks.{StackItem, rows_left, pages_left, pushed}
use Rattle.page_table.specs.Trees.{Tree, page_at}
use Rattle.page_table.specs.Weights.{Same}
use Rattle.search.specs.Live.{row_of}

-- the item to be visited next
pub record IsNext (stack : List StackItem) (item : StackItem) : Type 0 where
  pub rest : List StackItem
  pub is : stack ≡ rest ++ item ∷ []

-- the page to be visited next
pub record IsNextPage (stack : List StackItem) (page : ℕ) : Type 0 where
  pub item : StackItem
  pub next : IsNext stack item
  pub is : page ≡ item.page

-- nothing was left to be visited, and nothing changes
abbrev pub NothingLeft : List StackItem → List StackItem → Type 0
NothingLeft old new = (old ≡ []) × (new ≡ old)

-- items for pages, each with the memo
abbrev pub with_memo : ℕ → List ℕ → List StackItem
with_memo memo pages = map (λ p. record { page = p; memo = memo }) pages

module _ {K : Type 0} where
  -- the row is live after the first s commits and its key is wanted
  abbrev pub is_seen : (K → Bool) → ℕ → Entry K → Bool
  is_seen wanted s e = visible_at s e && wanted e.key

  -- of some entries, the rows that are seen
  abbrev pub seen : (K → Bool) → ℕ → List (Entry K) → List (Row K)
  seen wanted s entries = map row_of (filter (is_seen wanted s) entries)

  -- of a page, the rows that are seen
  abbrev pub seen_on : (K → Bool) → ℕ → Tree K → ℕ → List (Row K)
  seen_on wanted s t page = seen wanted s (page_at t page).rows

  -- what a scan still has to find
  abbrev pub to_find : (K → Bool) → ℕ → Tree K → List StackItem → List (Row K)
  to_find wanted s t stack = seen wanted s (rows_left t stack)

  -- the item for a branch's child
  abbrev pub item_of_child : ℕ → Branch K → StackItem
  item_of_child memo branch = record { page = branch.child; memo = memo }

  -- the items for the children whose bounds are wanted, the first child last
  abbrev pub child_items : (K → Bool) → ℕ → List (Branch K) → List StackItem
  child_items wanted memo branches = reverse (map (item_of_child memo) (filter (λ b. wanted b.key) branches))

  -- those items on top of a stack
  abbrev pub children_on : (K → Bool) → ℕ → List (Branch K) → List StackItem → List StackItem
  children_on wanted memo branches stack = stack ++ child_items wanted memo branches

  -- no wanted branch is left out
  abbrev pub KeepsWanted : (K → Bool) → List (Branch K) → List (Branch K) → Type 0
  KeepsWanted wanted old new = (memo : ℕ) → child_items wanted memo new ≡ child_items wanted memo old

  -- if some branches are left, one of them is wanted
  abbrev pub HasWanted : (K → Bool) → List (Branch K) → List (Branch K) → Type 0
  HasWanted wanted old new = (memo : ℕ) → 0 < length new → child_items wanted memo old ≢ []

  -- the last item is removed, and what follows its page is pushed
  pub record GoesOn (wanted : K → Bool) (t : Tree K) (old : List StackItem) (item : StackItem) (new : List StackItem) : Type 0 where
    pub rest : List StackItem
    pub before : old ≡ rest ++ item ∷ []
    pub after : new ≡ rest ++ pushed t (λ b. wanted b.key) item.page item.memo

  -- one visit: the last item is removed, its page is read, and what follows it is pushed
  pub record Visits (consistent wanted : K → Bool) (s : ℕ) (t : Tree K) (old : List StackItem) (page : ℕ) (noted : List (Row K)) (new : List StackItem) : Type 0 where
    pub rest : List StackItem
    pub memo : ℕ
    pub before : old ≡ rest ++ (record { page = page; memo = memo }) ∷ []
    pub after : new ≡ rest ++ pushed t (λ b. consistent b.key) page memo
    pub noted_is : noted ≡ seen wanted s (page_at t page).rows

  -- the page that is visited next has a row to note
  pub record NotesSome (wanted : K → Bool) (s : ℕ) (t : Tree K) (stack : List StackItem) : Type 0 where
    pub item : StackItem
    pub next : IsNext stack item
    pub some : seen_on wanted s t item.page ≢ []

  -- something follows the page that is visited next
  pub record PushesSome (wanted : K → Bool) (t : Tree K) (stack : List StackItem) : Type 0 where
    pub item : StackItem
    pub next : IsNext stack item
    pub some : pushed t (λ b. wanted b.key) item.page item.memo ≢ []

  -- the next visit notes a row or pushes a page
  abbrev pub VisitGrows : (K → Bool) → (K → Bool) → ℕ → Tree K → List StackItem → Type 0
  VisitGrows consistent wanted s t stack = NotesSome wanted s t stack ⊎ PushesSome consistent t stack

  -- in a sound tree what is noted, together with what is still to be found, is what was to be found before
  abbrev pub LosesNothing : (K → K → Bool) → (K → Bool) → ℕ → Tree K → List StackItem → List (Row K) → List StackItem → Type 0
  LosesNothing is_cover wanted s t old noted new = (fan : ℕ) → IsSound is_cover fan t → Same (noted ++ to_find wanted s t new) (to_find wanted s t old)

  -- in a sound tree fewer pages are left
  abbrev pub LowersWork : (K → K → Bool) → Tree K → List StackItem → List StackItem → Type 0
  LowersWork is_cover t old new = (fan : ℕ) → IsSound is_cover fan t → length (pages_left t new) + 1 ≤ length (pages_left t old)
