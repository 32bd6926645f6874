-- The steps of an insertion that change only pages.
use Rattle.std.specs.Prelude.{◌≡◌, ◌⊎◌, ℕ, ◌+◌, ◌<◌, Bool, length, None, IsPermutation}
use Rattle.key_class.specs.Rules.{Rules}
use Rattle.mailbox.specs.Outlets.{Rule}
use Rattle.key_class.specs.declared.refusal.Refusal.{Refusal}
use Rattle.key_class.specs.declared.refusal.Refusal.TheVariants as refusal
use Rattle.split.specs.SearchTrees.{SearchTree}
use Rattle.split.specs.Steps.{after_split, after_grow, after_enlarge}
use Rattle.split.specs.Tests.{first_failing, place_tests, enlarge_tests, split_tests, post_tests, grow_tests}
use Rattle.descent.specs.NextSteps.{OnlyPagesFull}
use Rattle.world.specs.declared.event.Event.{Event}
use Rattle.world.specs.declared.event.Event.TheVariants as event
use Rattle.world.specs.Resting.{Rests, deaths}
use Rattle.world.specs.States.{State, with_pages}
use Rattle.world.specs.Steps.{Posts}

-- memory ran out, or fewer than two pages are left
abbrev pub IsWanting : {K : Type 0} → SearchTree K → Refusal → Type 0
IsWanting s why = (why ≡ refusal.OutOfMemory) ⊎ ((why ≡ refusal.PagesFull) × (s.limit < length s.tree.pages + 2))

-- the same, or there are as many commits as allowed
abbrev pub IsFullOrWanting : {K : Type 0} → SearchTree K → Refusal → Type 0
IsFullOrWanting s why = (why ≡ refusal.CommitsFull) ⊎ IsWanting s why

-- the page is a leaf that takes the key: no test of a placing fails
abbrev pub MayPlace : {K : Type 0} → (K → K → Bool) → SearchTree K → ℕ → K → Type 0
MayPlace is_cover s leaf key = first_failing (place_tests is_cover s leaf key) ≡ None

module _ {K A : Type 0} where
  -- the event changes only pages, and none of its tests fails except for too few pages
  abbrev pub MayMove : (K → K → Bool) → State K A → Event K A → Type 0
  MayMove is_cover old (event.Enlarge page child key) = first_failing (enlarge_tests is_cover old.search page child key) ≡ None
  MayMove is_cover old (event.Split page sides) = OnlyPagesFull (split_tests old.search page sides)
  MayMove is_cover old (event.Post page child) = first_failing (post_tests old.search page child) ≡ None
  MayMove is_cover old (event.Grow sides) = OnlyPagesFull (grow_tests old.search sides)
  MayMove is_cover old event = ⊥

  -- how such an event changes a world
  abbrev pub Moves : (K → K → K) → State K A → Event K A → State K A → Type 0
  Moves union old (event.Enlarge page child key) new = new ≡ with_pages old (after_enlarge union old.search.tree page child key)
  Moves union old (event.Split page sides) new = new ≡ with_pages old (after_split union old.search.tree page sides)
  Moves union old (event.Post page child) new = Posts old page child new
  Moves union old (event.Grow sides) new = new ≡ with_pages old (after_grow union old.search.tree sides)
  Moves union old event new = ⊥

module _ {K A : Type 0} (rules : Rules K A) (rule : Rule) where
  -- only pages have changed, and none of their rows
  pub record MovesPages (old new : State K A) : Type 0 where
    pub rests : Rests rules rule old new
    pub commits : new.commits ≡ old.commits
    pub dead : IsPermutation (deaths old.search.tree) (deaths new.search.tree)
    pub finders : new.finders ≡ old.finders
    pub last_finder : new.last_finder ≡ old.last_finder
