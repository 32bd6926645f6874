-- What a finder looks for, and one of its visits.
use Rattle.std.specs.Prelude.{◌≡◌, ℕ, ◌≤◌, Bool, false, List, ◌∷◌, [], ◌++◌, Option, Result, IfOk, IfSome, MatchOption, nat_eq}
use Rattle.std.specs.List.{list_any}
use Rattle.key_class.specs.Rules.{Rules}
use Rattle.row_version.specs.Entries.{Entry}
use Rattle.change_list.specs.Changes.{HasKey}
use Rattle.change_list.specs.declared.write.Write.{Write}
use Rattle.page_table.specs.Soundness.{IsSound}
use Rattle.page_table.specs.Stacks.{StackItem, IsStack, rows_left}
use Rattle.page_table.specs.Trees.{Tree, page_at}
use Rattle.page_table.specs.Weights.{weigh}
use Rattle.scan.specs.Agreement.{Agrees, is_row}
use Rattle.scan.specs.Scanning.{GoesOn, IsNext, LowersWork, NothingLeft, PushesSome}
use Rattle.scan.specs.declared.stack.Sought.{Sought}
use Rattle.scan.specs.declared.stack.Sought.TheVariants.{Here, Further}

-- the stack of a traversal that begins at a page, with the counter
abbrev pub stack_at : ℕ → ℕ → List StackItem
stack_at page counter = (record { page = page; memo = counter }) ∷ []

module _ {K : Type 0} where
  -- one of the entries is that of the row
  abbrev pub holds : ℕ → List (Entry K) → Bool
  holds row entries = list_any (λ e. nat_eq e.row row) entries

  -- the finder of a row: its stack is valid, and the row stands once under it
  pub record IsFinder (row : ℕ) (t : Tree K) (stack : List StackItem) : Type 0 where
    pub exists : IsStack t stack
    pub there : weigh (is_row row) (rows_left t stack) ≡ 1

  -- the last item's page holds the row, and nothing changes
  pub record FindsHere (row : ℕ) (t : Tree K) (old : List StackItem) (page : ℕ) (new : List StackItem) : Type 0 where
    pub rest : List StackItem
    pub memo : ℕ
    pub last : old ≡ rest ++ (record { page = page; memo = memo }) ∷ []
    pub there : 1 ≤ weigh (is_row row) (page_at t page).rows
    pub unchanged : new ≡ old

  -- the page doesn't hold the row, and the finder goes on to pages that may
  pub record SeeksFurther (covering : K → Bool) (row : ℕ) (t : Tree K) (old : List StackItem) (page : ℕ) (new : List StackItem) : Type 0 where
    pub memo : ℕ
    pub goes_on : GoesOn covering t old (record { page = page; memo = memo }) new
    pub lacks : weigh (is_row row) (page_at t page).rows ≡ 0

  -- one visit of a finder, by its result
  abbrev pub Seeks : (K → Bool) → ℕ → Tree K → List StackItem → Sought → List StackItem → Type 0
  Seeks covering row t old (Here page) new = FindsHere row t old page new
  Seeks covering row t old (Further page) new = SeeksFurther covering row t old page new

  -- the page that is visited next doesn't hold the row
  abbrev pub LacksNext : ℕ → Tree K → List StackItem → Type 0
  LacksNext row t stack = (item : StackItem) → IsNext stack item → holds row (page_at t item.page).rows ≡ false

  -- in a sound tree that agrees with the commits, the finder of a row with that key remains one
  abbrev pub KeepsFinder : (K → K → Bool) → K → ℕ → Tree K → List StackItem → List StackItem → Type 0
  KeepsFinder is_cover key row t old new =
      (fan : ℕ) (commits : List (Write K)) → IsSound is_cover fan t → Agrees t commits → HasKey commits row key → IsFinder row t old → IsFinder row t new

  -- if it goes on, fewer pages are left
  abbrev pub SeeksLess : (K → K → Bool) → Tree K → List StackItem → Sought → List StackItem → Type 0
  SeeksLess is_cover t old (Here page) new = Unit {0}
  SeeksLess is_cover t old (Further page) new = LowersWork is_cover t old new

  -- nothing is left, or the last item's page is visited for the row with the key
  abbrev pub SeeksNext : {A : Type 0} → Rules K A → K → ℕ → Tree K → List StackItem → List StackItem → Option Sought → Type 0
  SeeksNext rules key row t old new r = MatchOption r (NothingLeft old new) (λ met. Seeks (λ bound. rules.is_cover bound key) row t old met new)

  -- a visit keeps the finder of the row with the key
  abbrev pub KeepsFinding : {A E : Type 0} → Rules K A → K → ℕ → Tree K → List StackItem → Result (Option Sought) E → List StackItem → Type 0
  KeepsFinding rules key row t old result new = IfOk result (λ r. IfSome r (λ met. KeepsFinder rules.is_cover key row t old new))

  -- in a sound tree a visit that goes on leaves fewer pages
  abbrev pub SeekLowersWork : {E : Type 0} → (K → K → Bool) → Tree K → List StackItem → Result (Option Sought) E → List StackItem → Type 0
  SeekLowersWork is_cover t old result new = IfOk result (λ r. IfSome r (λ met. SeeksLess is_cover t old met new))

  -- something follows the page that is visited next and may hold the key
  abbrev pub PushesCovering : (K → K → Bool) → K → Tree K → List StackItem → Type 0
  PushesCovering is_cover key t stack = PushesSome (λ bound. is_cover bound key) t stack
