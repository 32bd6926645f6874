-- What every step keeps, in one word.
use Rattle.std.proofs.Common.{ℕ, Bool}
use Rattle.key_class.specs.Rules.{IsLawful, Rules}
use Rattle.mailbox.specs.Outlets.{Rule}
use Rattle.world.specs.Calls.{IsOneStep}
use Rattle.world.specs.States.{State, IsSoundWorld}
use Rattle.world.specs.Steps.{Step}
use Rattle.world.specs.declared.event.Event.{Event}
use Rattle.world.specs.declared.reply.Reply.{Reply}
use Rattle.world.proofs.Mailboxes.{step_fits_mailboxes}
use Rattle.world.proofs.Stepping.{step_sound, step_serves, step_opens, step_lowers}

module _ (E : Type 0) {K A : Type 0} (rules : Rules K A) (rule : Rule) {same_key : K → K → Bool} {same_atom : A → A → Bool} (lawful : IsLawful rules same_key same_atom) (seat : ℕ) (old : State K A) (inv : IsSoundWorld rules.is_cover old) where
  pub one_step : (e : Event K A) (r : Reply K E) (new : State K A) → Step rules rule seat old e r new → IsOneStep E rules rule seat old e r new
  one_step e r new d = record {
    step = d;
    sound = step_sound rules rule lawful seat old inv e r new d;
    serves = step_serves rules rule lawful seat old inv e r new d;
    opening = step_opens rules rule lawful seat old inv e r new d;
    less_work = step_lowers rules rule lawful seat old inv e r new d;
    mailboxes = λ there. step_fits_mailboxes rules rule lawful seat old inv there e r new d;
  }
