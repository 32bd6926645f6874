-- The way of a row from the root to the leaf that takes it.
use Rattle.std.specs.Prelude.{◌≡◌, ℕ}
use Rattle.key_class.specs.Rules.{Rules}
use Rattle.descent.specs.NextSteps.{IsNextStep}
use Rattle.descent.specs.declared.step.WayStep.{WayStep}
use Rattle.descent.specs.declared.step.WayStep.TheVariants as step
use Rattle.world.specs.Stamps.{Stamp}
use Rattle.world.specs.States.{State}
use Rattle.world.specs.Steps.{Places}
use Rattle.world.specs.declared.event.Event.TheVariants as event
use Rattle.writes.specs.PageSteps.{MayPlace, Moves}
use Rattle.writes.specs.InsertVisits.{ResumesAt}

module _ {K A : Type 0} (rules : Rules K A) (key : K) where
  -- The step was made from here, and the way goes on at the next page: at the child, at the root that grew, or, after
  -- a posting or a split, at the page where it was.
  abbrev pub TakesStep : State K A → ℕ → WayStep → State K A → ℕ → Type 0
  TakesStep old here (step.Down child) new next = (next ≡ child) × (new ≡ old)
  TakesStep old here (step.Enlarge parent child) new next = (next ≡ child) × Moves rules.union_of old (event.Enlarge parent child key) new
  TakesStep old here (step.Grow sides) new next = (next ≡ 0) × Moves rules.union_of old (event.Grow sides) new
  TakesStep old here (step.Post parent child) new next = ResumesAt rules.is_cover new.search here key next × Moves rules.union_of old (event.Post parent child) new
  TakesStep old here (step.Split child sides) new next = ResumesAt rules.is_cover new.search here key next × Moves rules.union_of old (event.Split child sides) new
  TakesStep old here (step.Place leaf) new next = ⊥

  -- the way goes on from here by the next step
  pub record AdvancesTo (old : State K A) (here : ℕ) (new : State K A) (next : ℕ) : Type 0 where
    pub taken : WayStep
    pub comes_next : IsNextStep rules old.search here key taken
    pub takes : TakesStep old here taken new next

  -- a way of the key that began at the root of the first world has reached this page, with this world
  pub data HasCome (first : State K A) : State K A → ℕ → Type 0 where
    begun : HasCome first first 0
    gone_on : {now new : State K A} {here next : ℕ} → HasCome first now here → AdvancesTo now here new next → HasCome first new next

  -- a way has reached a leaf that takes the key, and there the next commit placed the row
  pub record PlacesByWay (first : State K A) (tag : ℕ) (new : State K A) : Type 0 where
    pub now : State K A
    pub leaf : ℕ
    pub come : HasCome first now leaf
    pub takes : MayPlace rules.is_cover now.search leaf key
    pub stamp : Stamp K
    pub placed : Places 0 now leaf key tag stamp new
