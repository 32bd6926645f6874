-- Finders: what each looks for, one of its visits, and what every step keeps of it.
use Rattle.std.specs.Prelude.{◌≡◌, ℕ, Bool, false, true, List, Option, Some, None, Result, IfOk, slice_get, reverse}
use Rattle.change_list.specs.Changes.{HasKey, status_of}
use Rattle.change_list.specs.declared.write.Status.TheVariants.{Live}
use Rattle.change_list.specs.declared.write.Write.{Write}
use Rattle.page_table.specs.Soundness.{IsSound}
use Rattle.page_table.specs.Stacks.{StackItem, IsStack}
use Rattle.page_table.specs.Trees.{Tree, page_at}
use Rattle.scan.specs.Agreement.{Agrees}
use Rattle.scan.specs.Finding.{IsFinder, SeeksFurther, SeeksLess, holds, stack_at}
use Rattle.scan.specs.Scanning.{IsNext, PushesSome}
use Rattle.scan.specs.declared.stack.Sought.{Sought}
use Rattle.scan.specs.declared.stack.Sought.TheVariants.{Here, Further}

-- an open finder: it looks for the leaf that holds a row
pub record OpenFinder (K : Type 0) : Type 0 where
  pub serial : ℕ
  pub row : ℕ
  -- the row's key
  pub key : K
  -- what it still has to visit, the next item last
  pub stack : List StackItem

module _ {K : Type 0} where
  -- a finder that begins at a page, with the counter
  abbrev pub begun_finder : ℕ → ℕ → K → ℕ → ℕ → OpenFinder K
  begun_finder serial row key page counter = record { serial = serial; row = row; key = key; stack = stack_at page counter }

  -- the page of the item holds the row
  abbrev pub holds_at : Tree K → ℕ → Option StackItem → Bool
  holds_at t row (Some item) = holds row (page_at t item.page).rows
  holds_at t row None = false

  -- the page that the finder visits next holds its row
  abbrev pub is_at_row : Tree K → OpenFinder K → Bool
  is_at_row t k = holds_at t k.row (slice_get (reverse k.stack) 0)

  -- the page that it visits next is this one, and holds its row
  pub record FindsRow (t : Tree K) (k : OpenFinder K) (page : ℕ) : Type 0 where
    pub memo : ℕ
    pub next : IsNext k.stack (record { page = page; memo = memo })
    pub there : holds k.row (page_at t page).rows ≡ true

  -- the page that it visits next is this one and doesn't hold its row, and it goes on to pages that may
  pub record GoesFurther (is_cover : K → K → Bool) (t : Tree K) (old : OpenFinder K) (page : ℕ) (new : OpenFinder K) : Type 0 where
    pub stack : List StackItem
    pub further : SeeksFurther (λ bound. is_cover bound old.key) old.row t old.stack page stack
    pub lacks : holds old.row (page_at t page).rows ≡ false
    pub after : new ≡ record old { stack = stack }

  -- one visit, by its result
  abbrev pub SeeksRow : (K → K → Bool) → Tree K → OpenFinder K → Sought → OpenFinder K → Type 0
  SeeksRow is_cover t old (Here page) new = FindsRow t old page × (new ≡ old)
  SeeksRow is_cover t old (Further page) new = GoesFurther is_cover t old page new

  -- What it still has to visit exists, its row was made with its key, and while the row is live, it stands once under
  -- what is still to be visited.
  pub record IsSeeking (t : Tree K) (commits : List (Write K)) (k : OpenFinder K) : Type 0 where
    pub stack : IsStack t k.stack
    pub made : HasKey commits k.row k.key
    pub there : status_of commits k.row ≡ Live → IsFinder k.row t k.stack

  -- one visit, by its result
  abbrev pub SeeksItsRow : {E : Type 0} → (K → K → Bool) → Tree K → OpenFinder K → Result Sought E → OpenFinder K → Type 0
  SeeksItsRow is_cover t old result new = IfOk result (λ met. SeeksRow is_cover t old met new)

  -- if it goes on, fewer pages are left
  abbrev pub FinderLowersWork : {E : Type 0} → (K → K → Bool) → Tree K → OpenFinder K → Result Sought E → OpenFinder K → Type 0
  FinderLowersWork is_cover t old result new = IfOk result (λ met. SeeksLess is_cover t old.stack met new.stack)

  -- something follows the page that it visits next and may hold its row
  abbrev pub FinderPushes : (K → K → Bool) → Tree K → OpenFinder K → Type 0
  FinderPushes is_cover t k = PushesSome (λ bound. is_cover bound k.key) t k.stack

  -- in a sound tree that agrees with the commits it still seeks its row
  abbrev pub KeepsSeeking : (K → K → Bool) → Tree K → OpenFinder K → OpenFinder K → Type 0
  KeepsSeeking is_cover t old new =
      (fan : ℕ) (commits : List (Write K)) → IsSound is_cover fan t → Agrees t commits → IsSeeking t commits old → IsSeeking t commits new
