-- A finder that looks for a row, and how its search ends: with the row's delete or its move.
use Rattle.std.specs.Prelude.{◌≡◌, ℕ, ◌+◌, ◌≤◌, Bool, [], ◌∷◌, ◌++◌, length, IsPermutation, Option, Result}
use Rattle.key_class.specs.Rules.{Rules}
use Rattle.key_class.specs.declared.refusal.Refusal.{Refusal}
use Rattle.mailbox.specs.Outlets.{Rule}
use Rattle.change_list.specs.declared.write.Write.{Write}
use Rattle.change_list.specs.declared.write.Write.TheVariants.{Delete, Move}
use Rattle.split.specs.SearchTrees.{SearchTree}
use Rattle.split.specs.Tests.{PlacePasses}
use Rattle.world.specs.declared.event.Event.{Event}
use Rattle.world.specs.declared.event.Event.TheVariants as event
use Rattle.writes.specs.declared.ending.Ending.{Ending}
use Rattle.writes.specs.declared.ending.Ending.TheVariants as ending
use Rattle.descent.specs.Finders.{OpenFinder}
use Rattle.world.specs.Resting.{deaths, Rests}
use Rattle.world.specs.Calls.{IsOneStep, reply_of_visit}
use Rattle.world.specs.Stamps.{Stamp}
use Rattle.world.specs.States.{State, AddsCommit}

module _ {K : Type 0} where
  -- the commit that ends the row in this way
  abbrev pub write_of_ending : ℕ → Ending K → Write K
  write_of_ending row ending.Delete = Delete row
  write_of_ending row (ending.Move leaf key) = Move row key

  -- the leaf to which the row is moved takes it
  abbrev pub MayEnd : (K → K → Bool) → SearchTree K → Ending K → Type 0
  MayEnd is_cover search ending.Delete = Unit {0}
  MayEnd is_cover search (ending.Move leaf key) = PlacePasses is_cover search leaf key

module _ {K A : Type 0} where
  -- a visit of a finder that ends its row in this way if it meets it
  abbrev pub event_of_ending : ℕ → Ending K → Event K A
  event_of_ending f ending.Delete = event.Seek f
  event_of_ending f (ending.Move leaf key) = event.Move f leaf key

module _ (E : Type 0) {K A : Type 0} (rules : Rules K A) (rule : Rule) where
  -- a finder visits a page, and ends its row in this way if it meets it
  abbrev pub SeeksToEnd : ℕ → State K A → ℕ → Ending K → Result (Option (Stamp K)) Refusal → State K A → Type 0
  SeeksToEnd seat old f how made new = IsOneStep E rules rule seat old (event_of_ending f how) (reply_of_visit E made) new

module _ {K A : Type 0} where
  -- the tree has one more dead row, which the next commit ended
  abbrev pub AddsDeath : State K A → ℕ → State K A → Type 0
  AddsDeath old row new = IsPermutation ((row, length old.commits + 1) ∷ deaths old.search.tree) (deaths new.search.tree)

  -- the tree has the same dead rows
  abbrev pub KeepsDeaths : State K A → State K A → Type 0
  KeepsDeaths old new = deaths new.search.tree ≡ deaths old.search.tree

  -- the world has one more finder, and is the same otherwise
  pub record Looks (old : State K A) (row : ℕ) (new : State K A) : Type 0 where
    pub finder : OpenFinder K
    pub row_is : finder.row ≡ row
    pub serial : finder.serial ≡ old.last_finder + 1
    pub is : new ≡ record old { finders = old.finders ++ finder ∷ []; last_finder = old.last_finder + 1 }

  -- the world has used up one more serial of a finder, or none, and is the same otherwise
  pub record Leaves (old new : State K A) : Type 0 where
    pub last_finder : ℕ
    pub few : last_finder ≤ old.last_finder + 1
    pub is : new ≡ record old { last_finder = last_finder }

module _ {K A : Type 0} (rules : Rules K A) (rule : Rule) where
  -- the next commit ends the row in this way, and the tree has one more dead row
  pub record Ends (old : State K A) (row : ℕ) (how : Ending K) (number : ℕ) (new : State K A) : Type 0 where
    pub number_is : number ≡ length old.commits + 1
    pub commits : AddsCommit old (write_of_ending row how) new
    pub rests : Rests rules rule old new
    pub dead : AddsDeath old row new
    pub pages : length new.search.tree.pages ≡ length old.search.tree.pages
    pub finders : new.finders ≡ old.finders
    pub last_finder : new.last_finder ≡ old.last_finder + 1
