-- Visits to a world: what is done while it is held once.
use Rattle.std.specs.Prelude.{◌≡◌, ◌⊎◌, ℕ}
use Rattle.key_class.specs.Rules.{Rules}
use Rattle.mailbox.specs.Outlets.{Rule}
use Rattle.world.specs.declared.event.Event.{Event}
use Rattle.world.specs.declared.reply.Reply.{Reply}
use Rattle.world.specs.States.{State}
use Rattle.world.specs.Steps.{Step}

module _ (E : Type 0) {K A : Type 0} (rules : Rules K A) (rule : Rule) where
  -- this event for the seat leads from one world to the other
  pub record Makes (seat : ℕ) (old : State K A) (event : Event K A) (new : State K A) : Type 0 where
    pub reply : Reply K E
    pub step : Step rules rule seat old event reply new

  -- some event for the seat leads from one world to the other
  pub record MakesEvent (seat : ℕ) (old new : State K A) : Type 0 where
    pub event : Event K A
    pub reply : Reply K E
    pub step : Step rules rule seat old event reply new

  -- at most one event for the seat
  abbrev pub IsOneEvent : ℕ → State K A → State K A → Type 0
  IsOneEvent seat old new = (new ≡ old) ⊎ MakesEvent seat old new
