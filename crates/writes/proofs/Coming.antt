-- A way goes on by one step.
use Rattle.std.proofs.Common.{◌≡◌, ℕ, subst}
use Rattle.key_class.specs.Rules.{Rules}
use Rattle.descent.specs.NextSteps.{IsNextStep}
use Rattle.descent.specs.declared.step.WayStep.{WayStep}
use Rattle.split.specs.SearchTrees.{SearchTree}
use Rattle.world.specs.States.{State}
use Rattle.writes.specs.Ways.{HasCome, TakesStep, gone_on}

module _ {K A : Type 0} (rules : Rules K A) (key : K) (first now new : State K A) (here next : ℕ) where
  -- by the step that comes next in the pages that were looked at, which are those of the world
  pub come_by : (taken : WayStep) → HasCome rules key first now here → (seen : SearchTree K) → seen ≡ now.search → IsNextStep rules seen here key taken → TakesStep rules key now here taken new next → HasCome rules key first new next
  come_by taken come seen same comes_next takes = gone_on come (record { taken = taken; comes_next = subst (λ s. IsNextStep rules s here key taken) same comes_next; takes = takes })
