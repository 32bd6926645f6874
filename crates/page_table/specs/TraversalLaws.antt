-- What a traversal of a sound tree meets.
use Rattle.std.specs.Prelude.{◌≡◌, ℕ, ◌+◌, ◌<◌, ◌≤◌, Bool, true, false, List, [], ◌∷◌, ◌++◌, length, flat_map, All, Contains}
use Rattle.row_version.specs.Entries.{Entry}
use Rattle.node.specs.declared.branch.Branch.{Branch}
use Rattle.node.specs.Pages.{followed}
use Rattle.page_table.specs.Weights.{weigh, Same, one_if_equal}
use Rattle.page_table.specs.Trees.{Tree, page_at, pages_under, rows_under, chain, after_rows}
use Rattle.page_table.specs.Soundness.{IsSound, IsWithin}
use Rattle.page_table.specs.Stacks.{StackItem, IsStack, rows_left, pages_left, pushed}

module _ {K : Type 0} where
  -- every sound tree has this property
  abbrev pub EachSound : (K → K → Bool) → (Tree K → Type 0) → Type 0
  EachSound is_cover Has = (t : Tree K) (fan : ℕ) → IsSound is_cover fan t → Has t

  -- if the tree is sound, this holds
  abbrev pub IfSound : (K → K → Bool) → Tree K → Type 0 → Type 0
  IfSound is_cover t This = (fan : ℕ) → IsSound is_cover fan t → This

  -- the chain from (p, m) is p, followed by the chain of its right link, if that is followed
  abbrev pub IsChain : Tree K → Type 0
  IsChain t = (p m : ℕ) → p < length t.pages → chain t p m ≡ p ∷ flat_map (λ r. chain t r m) (followed (page_at t p) m)

  -- under (p, m) are the pages of the chain, and for each of them what is under its branches with the counter as the
  -- memo
  abbrev pub PagesFollowChains : Tree K → Type 0
  PagesFollowChains t = (p m : ℕ) → p < length t.pages
      → Same (pages_under t p m) (flat_map (λ q. q ∷ flat_map (λ b. pages_under t b.child t.counter) (page_at t q).branches) (chain t p m))

  abbrev pub RowsFollowChains : Tree K → Type 0
  RowsFollowChains t = (p m : ℕ) → p < length t.pages
      → Same (rows_under t p m) (flat_map (λ q. (page_at t q).rows ++ flat_map (λ b. rows_under t b.child t.counter) (page_at t q).branches) (chain t p m))

  -- a traversal that begins at the root meets each page once
  abbrev pub MeetsEachPageOnce : Tree K → Type 0
  MeetsEachPageOnce t = (q : ℕ) → q < length t.pages → weigh (λ x. one_if_equal x q) (pages_under t 0 t.counter) ≡ 1

  -- the key of a branch covers every row below it
  abbrev pub CoversRowsBelow : (K → K → Bool) → Tree K → Type 0
  CoversRowsBelow is_cover t = (p : ℕ) (b : Branch K) → p < length t.pages → Contains (page_at t p).branches b → All (λ e. is_cover b.key e.key ≡ true) (rows_under t b.child t.counter)

  -- a test of bounds which every cover of a wanted key passes
  abbrev pub Prunes : (K → K → Bool) → (K → Bool) → (K → Bool) → Type 0
  Prunes is_cover wanted consistent = (bound key : K) → is_cover bound key ≡ true → wanted key ≡ true → consistent bound ≡ true

  -- a visit that follows the bounds that pass such a test loses no wanted row: those of the page and those under what
  -- it pushes are those that were under (p, m)
  abbrev pub VisitsLoseNothing : (K → K → Bool) → Tree K → Type 0
  VisitsLoseNothing is_cover t = (wanted consistent : K → Bool) → Prunes is_cover wanted consistent
      → (weight : Entry K → ℕ) → ((e : Entry K) → wanted e.key ≡ false → weight e ≡ 0)
      → (p m : ℕ) → p < length t.pages
      → weigh weight (rows_under t p m) ≡ weigh weight (page_at t p).rows + weigh weight (rows_left t (pushed t (λ b. consistent b.key) p m))

  -- a visit lowers the number of pages that are left, whatever it looks for
  abbrev pub VisitsLowerWork : Tree K → Type 0
  VisitsLowerWork t = (wanted : Branch K → Bool) (rest : List StackItem) (item : StackItem) → item.page < length t.pages
      → length (pages_left t (rest ++ pushed t wanted item.page item.memo)) + 1 ≤ length (pages_left t (rest ++ item ∷ []))

  -- what a visit pushes is a stack
  abbrev pub VisitsKeepStacks : Tree K → Type 0
  VisitsKeepStacks t = (wanted : Branch K → Bool) (p m : ℕ) → p < length t.pages → m ≤ t.counter → IsStack t (pushed t wanted p m)

  -- a step that keeps the rows keeps what is left under every stack
  abbrev pub StacksSurvive : Tree K → Tree K → Type 0
  StacksSurvive t t' = (items : List StackItem) → IsStack t items → IsStack t' items × Same (rows_left t' items) (rows_left t items)

  -- if the new rows of a leaf have the same weight as the old ones, so have the rows under every page and memo
  abbrev pub LeavesChangeAlone : Tree K → Type 0
  LeavesChangeAlone t = (leaf : ℕ) (rows : List (Entry K)) (weight : Entry K → ℕ) → leaf < length t.pages → weigh weight rows ≡ weigh weight (page_at t leaf).rows
      → (q m : ℕ) → q < length t.pages → weigh weight (rows_under (after_rows t leaf rows) q m) ≡ weigh weight (rows_under t q m)

  -- a sound tree stays sound when a leaf gets other rows, no more than fit and each within its cover
  abbrev pub LeafChangesKeepSound : (K → K → Bool) → Type 0
  LeafChangesKeepSound is_cover = (t : Tree K) (fan leaf : ℕ) (rows : List (Entry K)) → IsSound is_cover fan t
      → leaf < length t.pages → (page_at t leaf).level ≡ 0 → length rows ≤ fan → All (λ e. IsWithin is_cover (page_at t leaf).cover e.key) rows
      → IsSound is_cover fan (after_rows t leaf rows)
