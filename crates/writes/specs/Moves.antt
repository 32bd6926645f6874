-- Moves of a row, as whole calls and visit by visit.
use Rattle.std.specs.Prelude.{◌≡◌, ◌⊎◌, ℕ}
use Rattle.key_class.specs.Rules.{Rules}
use Rattle.mailbox.specs.Outlets.{Rule}
use Rattle.key_class.specs.declared.refusal.Refusal.{Refusal}
use Rattle.key_class.specs.declared.refusal.Refusal.TheVariants as refusal
use Rattle.split.specs.SearchTrees.{SearchTree}
use Rattle.world.specs.States.{State}
use Rattle.writes.specs.PageSteps.{IsWanting}
use Rattle.writes.specs.InsertVisits.{Nears}
use Rattle.writes.specs.declared.approach.Approach.TheVariants as approach
use Rattle.writes.specs.EndVisits.{RefusesDelete, RefusesEnding, Seeks}
use Rattle.writes.specs.declared.ending.Ending.TheVariants as ending
use Rattle.writes.specs.declared.end_visit.Search.TheVariants as search
use Rattle.writes.specs.declared.move_visit.Moving.{Moving}
use Rattle.writes.specs.declared.move_visit.Moving.TheVariants as moving

-- the refusals that come before any page is changed: because of the row, of the list of commits, or for lack of a
-- finder
abbrev pub IsToldFirst : Refusal → Type 0
IsToldFirst why = (why ≡ refusal.NoSuchRow) ⊎ (why ≡ refusal.AlreadyDeleted) ⊎ (why ≡ refusal.CommitsFull) ⊎ (why ≡ refusal.FindersFull)

module _ {K A : Type 0} where
  -- why the row isn't moved, and what the pages are like then
  abbrev pub RefusesMove : State K A → SearchTree K → ℕ → Refusal → Type 0
  RefusesMove old search row why = RefusesDelete old row why ⊎ IsWanting search why

  -- why a visit of a move is refused
  abbrev pub RefusesMoving : State K A → ℕ → Refusal → Type 0
  RefusesMoving s row why = RefusesEnding s row why ⊎ IsWanting s.search why

module _ {K A : Type 0} (rules : Rules K A) (rule : Rule) where
  -- what a visit of the row's finder reports, when the leaf takes the key
  abbrev pub SeeksFrom : State K A → ℕ → ℕ → ℕ → ℕ → K → Moving K → State K A → Type 0
  SeeksFrom old seat leaf f row key (moving.On page) new = (page ≡ leaf) × Seeks rules rule old seat f row (ending.Move leaf key) search.On new
  SeeksFrom old seat leaf f row key (moving.Split page) new = ⊥
  SeeksFrom old seat leaf f row key moving.Lost new = Seeks rules rule old seat f row (ending.Move leaf key) search.Lost new
  SeeksFrom old seat leaf f row key (moving.Moved stamp) new = Seeks rules rule old seat f row (ending.Move leaf key) (search.Ended stamp) new

module _ {K A : Type 0} (rules : Rules K A) (rule : Rule) where
  -- the way of the key has reached a leaf that takes it, and the row's finder makes a visit
  abbrev pub SeeksAtLeaf : State K A → ℕ → ℕ → ℕ → ℕ → K → Moving K → State K A → Type 0
  SeeksAtLeaf old seat page f row key moving new = (leaf : ℕ) × Nears rules old page key (approach.At leaf) old × SeeksFrom rules rule old seat leaf f row key moving new

  -- what a visit of a move reports whose way has reached the page: the way goes on, or the finder does or ends the
  -- row
  abbrev pub Relocates : State K A → ℕ → ℕ → ℕ → ℕ → K → Moving K → State K A → Type 0
  Relocates old seat page f row key (moving.On next) new = Nears rules old page key (approach.On next) new ⊎ SeeksAtLeaf old seat page f row key (moving.On next) new
  Relocates old seat page f row key (moving.Split full) new = Nears rules old page key (approach.Split full) new
  Relocates old seat page f row key moving.Lost new = SeeksAtLeaf old seat page f row key moving.Lost new
  Relocates old seat page f row key (moving.Moved stamp) new = SeeksAtLeaf old seat page f row key (moving.Moved stamp) new
