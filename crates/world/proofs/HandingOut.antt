-- Ends of mailboxes are handed out by openings alone.
use Rattle.std.proofs.Common.{ℕ}
use Rattle.key_class.specs.Rules.{Rules}
use Rattle.mailbox.specs.Outlets.{Rule}
use Rattle.world.specs.declared.event.Event.{Event}
use Rattle.world.specs.declared.event.Event.TheVariants as event
use Rattle.world.specs.declared.reply.Reply.{Reply}
use Rattle.world.specs.declared.reply.Reply.TheVariants as reply
use Rattle.world.specs.States.{State}
use Rattle.world.specs.Steps.{Step}
use Rattle.world.specs.Promises.{HandsOut}

-- the event opens no cursor
abbrev OpensNone : {K A : Type 0} → Event K A → Type 0
OpensNone (event.Open query room) = ⊥
OpensNone (event.Follow query room n) = ⊥
OpensNone e = Unit {0}

module _ {K A E : Type 0} (rules : Rules K A) (rule : Rule) (fresh : E → Type 0) (seat : ℕ) (old new : State K A) where
  pub hands_none : (e : Event K A) (r : Reply K E) → OpensNone e → Step rules rule seat old e r new → HandsOut fresh r
  hands_none (event.Open query room) (reply.Opened c end) none d = absurd none
  hands_none (event.Follow query room n) (reply.Opened c end) none d = absurd none
  hands_none e (reply.Opened c end) none d = absurd d.change
  hands_none e r none d = tt
