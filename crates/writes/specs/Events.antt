-- A row ends by events: a finder begins at the root, visits pages, and ends the row when it meets it.
use Rattle.std.specs.Prelude.{◌≡◌, ℕ, zero, suc}
use Rattle.key_class.specs.Rules.{Rules}
use Rattle.mailbox.specs.Outlets.{Rule}
use Rattle.world.specs.declared.event.Event.TheVariants as event
use Rattle.world.specs.declared.reply.Reply.TheVariants as reply
use Rattle.world.specs.Stamps.{Stamp}
use Rattle.world.specs.States.{State}
use Rattle.world.specs.Steps.{Step}
use Rattle.writes.specs.Ending.{event_of_ending}
use Rattle.writes.specs.declared.ending.Ending.{Ending}

module _ (E : Type 0) {K A : Type 0} (rules : Rules K A) (rule : Rule) where
  -- the finder visits so many pages without its row, each by an event
  abbrev pub SeekingLeads : ℕ → State K A → ℕ → Ending K → State K A → Type 0
  SeekingLeads zero old f how new = new ≡ old
  SeekingLeads (suc n) old f how new =
      (mid : State K A) × Step {E = E} rules rule 0 old (event_of_ending f how) reply.Seeking mid × SeekingLeads n mid f how new

  -- the events that end the row in this way, as that commit: Find, then visits, the last of which commits
  pub record EndsByEvents (old : State K A) (row : ℕ) (how : Ending K) (number : ℕ) (new : State K A) : Type 0 where
    pub finder : ℕ
    pub found : State K A
    pub finds : Step {E = E} rules rule 0 old (event.Find row) (reply.Finder finder) found
    pub visits : ℕ
    pub there : State K A
    pub goes_on : SeekingLeads visits found finder how there
    pub stamp : Stamp K
    pub number_is : stamp.number ≡ number
    pub ends : Step {E = E} rules rule 0 there (event_of_ending finder how) (reply.Committed stamp) new
