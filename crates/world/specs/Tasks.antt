-- Work on a page without the world, and the effect of publishing it.
use Rattle.std.specs.Prelude.{◌≡◌, ◌⊎◌, ℕ, ◌*◌, ◌<◌, Bool, true, false, ◌||◌, nat_eq, nat_le, List, [], ◌∷◌, length, Option, Some, None}
use Rattle.key_class.specs.Rules.{Rules}
use Rattle.mailbox.specs.Outlets.{Rule}
use Rattle.key_class.specs.declared.refusal.Refusal.{Refusal}
use Rattle.key_class.specs.declared.refusal.Refusal.TheVariants as refusal
use Rattle.key_class.specs.declared.sides.Side.{Side}
use Rattle.key_class.specs.Splits.{IsSplit}
use Rattle.node.specs.Pages.{Page, entries_of, keys_of}
use Rattle.page_table.specs.Trees.{page_at}
use Rattle.scan.specs.Prepared.{PreparedVisit}
use Rattle.cursor.specs.OpenCursors.{OpenCursor}
use Rattle.cursor.specs.Preparing.{IsDue, RefusesVisit}
use Rattle.split.specs.Tests.{first_failing}
use Rattle.world.specs.States.{State, cursor_at}
use Rattle.world.specs.Steps.{Step, cursor_tests}
use Rattle.world.specs.declared.event.Event.{Event}
use Rattle.world.specs.declared.event.Event.TheVariants as event
use Rattle.world.specs.declared.reply.Reply.{Reply}
use Rattle.world.specs.declared.reply.Reply.TheVariants as reply

-- a page to be split, with its sides once they are worked out
pub record SplitTask (K : Type 0) : Type 0 where
  pub number : ℕ
  pub page : Page K
  -- the fewest entries of each side
  pub least : ℕ
  pub sides : Option (List Side)

-- the next visit of a cursor
pub record VisitTask (K A : Type 0) : Type 0 where
  pub cursor : ℕ
  pub visit : PreparedVisit K A

module _ {K A : Type 0} (rules : Rules K A) where
  -- for the task a split of its page's entries was worked out, by sides that the class picks for their keys
  pub record WorksOutSides (old new : SplitTask K) : Type 0 where
    pub sides : List Side
    pub picked : rules.picks (keys_of old.page.rows old.page.branches) old.least sides
    pub parts : IsSplit (entries_of old.page) old.least sides
    pub after : new ≡ record old { sides = Some sides }

module _ {K : Type 0} where
  -- why no split is worked out: the page has too few entries, or memory ran out
  abbrev pub RefusesSides : SplitTask K → Refusal → Type 0
  RefusesSides task why = ((why ≡ refusal.TooFew) × (entries_of task.page < 2 * task.least)) ⊎ (why ≡ refusal.OutOfMemory)

module _ {K A : Type 0} where
  -- the task with its visit worked on
  abbrev pub worked_on : VisitTask K A → VisitTask K A
  worked_on task = record task { visit = record task.visit { worked = true } }

  -- the world has a page with this number and an equal value
  pub record HasPage (s : State K A) (number : ℕ) (page : Page K) : Type 0 where
    pub exists : number < length s.search.tree.pages
    pub same : page_at s.search.tree number ≡ page

  abbrev pub prepare_split_tests : State K A → ℕ → List (Bool × Refusal)
  prepare_split_tests s p = (nat_eq p 0 || nat_le (length s.search.tree.pages) p, refusal.NotHere) ∷ []

  -- the cursor is open, and its next turn makes the visit
  pub record HasVisit (s : State K A) (c : ℕ) (visit : PreparedVisit K A) : Type 0 where
    pub cursor : OpenCursor K A
    pub is_open : cursor_at s c ≡ Some cursor
    pub due : IsDue s.search.tree cursor visit

  -- the cursor is open, and its next turn visits the page
  pub record VisitsPageNext (s : State K A) (c page : ℕ) : Type 0 where
    pub visit : PreparedVisit K A
    pub has : HasVisit s c visit
    pub is : page ≡ visit.item.page

  -- the cursor isn't open, or its next turn is no visit
  abbrev pub HasNoVisit : State K A → ℕ → Type 0
  HasNoVisit s c = (visit : PreparedVisit K A) → ¬ HasVisit s c visit

  -- the task is the cursor's next visit, to be worked on
  abbrev pub PreparesVisit : State K A → ℕ → VisitTask K A → Type 0
  PreparesVisit s c task = (task.cursor ≡ c) × HasVisit s c task.visit × (task.visit.worked ≡ false)

  -- the task has the page with the number, to be worked on
  abbrev pub PreparesSplit : State K A → ℕ → SplitTask K → Type 0
  PreparesSplit s p task =
      HasPage s p task.page × (task ≡ record { number = p; page = page_at s.search.tree p; least = s.search.least; sides = None })

  -- a task that was not worked on, or whose page has changed
  abbrev pub IsStaleSplit : State K A → SplitTask K → Type 0
  IsStaleSplit s task = (task.sides ≡ None) ⊎ (¬ HasPage s task.number task.page)

  -- a task that was not worked on, or whose visit is no longer the cursor's next
  abbrev pub IsStaleVisit : State K A → VisitTask K A → Type 0
  IsStaleVisit s task = (task.visit.worked ≡ false) ⊎ (¬ HasVisit s task.cursor task.visit)

  -- why no visit of a cursor is prepared: it isn't open, its next turn is no visit, or memory ran out
  abbrev pub RefusesPreparing : State K A → ℕ → Refusal → Type 0
  RefusesPreparing s c why = (first_failing (cursor_tests s c) ≡ Some why) ⊎ ((k : OpenCursor K A) × (cursor_at s c ≡ Some k) × RefusesVisit k why)

module _ {K A : Type 0} where
  -- the event splits the page of the task by the task's sides, and the page hasn't changed
  pub record IsSplitOf (s : State K A) (task : SplitTask K) (split : Event K A) : Type 0 where
    pub sides : List Side
    pub worked : task.sides ≡ Some sides
    pub has_page : HasPage s task.number task.page
    pub is : split ≡ event.Split task.number sides

module _ {K A E : Type 0} where
  -- a publication that comes too late is refused, and changes nothing
  abbrev pub IsLate : State K A → Reply K E → State K A → Type 0
  IsLate old r new = (r ≡ reply.Refused refusal.NotHere) × (new ≡ old)

module _ {K A E : Type 0} (rules : Rules K A) (rule : Rule) where
  -- if the page hasn't changed, the publication is the split by the task's sides
  abbrev pub PublishesSplit : ℕ → State K A → SplitTask K → Reply K E → State K A → Type 0
  PublishesSplit seat old task r new =
      (sides : List Side) → task.sides ≡ Some sides → HasPage old task.number task.page → Step rules rule seat old (event.Split task.number sides) r new

  -- if the visit was worked on and is the cursor's next, the publication is the cursor's turn
  abbrev pub PublishesVisit : ℕ → State K A → VisitTask K A → Reply K E → State K A → Type 0
  PublishesVisit seat old task r new = HasVisit old task.cursor task.visit → task.visit.worked ≡ true → Step rules rule seat old (event.Turn task.cursor) r new

  -- a publication is the cursor's turn, or it comes too late and changes nothing
  abbrev pub TurnsOrIsLate : ℕ → State K A → ℕ → Reply K E → State K A → Type 0
  TurnsOrIsLate seat old c r new = Step rules rule seat old (event.Turn c) r new ⊎ IsLate old r new
