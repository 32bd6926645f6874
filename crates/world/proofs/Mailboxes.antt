-- What mailboxes that are emptied elsewhere were sent goes on fitting.
use Rattle.std.proofs.Common.{Bool, ◌≡◌, ℕ, true, false, [], ◌∷◌, ◌++◌, Option, Some, None, refl, sym, ap, ◌∙◌, subst}
use Rattle.std.specs.Prelude.{option_to_list}
use Rattle.mailbox.specs.Outlets.{Rule}
use Rattle.key_class.specs.Rules.{IsLawful, Rules}
use Rattle.key_class.specs.declared.refusal.Refusal.TheVariants as refusal
use Rattle.change_list.specs.Cursors.{Fits}
use Rattle.cursor.specs.OpenCursors.{OpenCursor, shown}
use Rattle.world.specs.declared.event.Event.{Event}
use Rattle.world.specs.declared.event.Event.TheVariants as event
use Rattle.world.specs.declared.reply.Reply.{Reply}
use Rattle.world.specs.declared.reply.Reply.TheVariants as reply
use Rattle.world.specs.States.{State, cursor_at, IsSoundWorld}
use Rattle.world.specs.Steps.{Step, cursor_tests}
use Rattle.world.specs.Traces.{taken_by}
use Rattle.world.specs.Promises.{MailboxesFit}
use Rattle.world.proofs.Refusing.{failing_later, passed_first, passed_at}
use Rattle.world.proofs.Stepping.{step_leads}

module _ {K A E : Type 0} (rules : Rules K A) (rule : Rule) (seat : ℕ) (old new : State K A) (there : rule.is_emptied_elsewhere ≡ true) where
  -- nothing is taken of a mailbox that is emptied elsewhere
  untaken : (c : ℕ) (e : Event K A) (r : Reply K E) → Step rules rule seat old e r new → taken_by c (e, r) ≡ None
  untaken c (event.Take d) (reply.Taken item) h =
      let first = passed_first (cursor_tests old d) ((rule.is_emptied_elsewhere, refusal.NotHere) ∷ []) h.passed in
      let rest = sym (failing_later (cursor_tests old d) ((rule.is_emptied_elsewhere, refusal.NotHere) ∷ []) first) ∙ h.passed in
      let here = (passed_at rule.is_emptied_elsewhere refusal.NotHere [] rest).0 in
      absurd (let no : true ≡ false = sym there ∙ here in cc)
  untaken c e (reply.Taken item) h = absurd h.change
  untaken c e r h = refl

module _ {K A E : Type 0} (rules : Rules K A) (rule : Rule) {same_key : K → K → Bool} {same_atom : A → A → Bool} (lawful : IsLawful rules same_key same_atom) (seat : ℕ) (old : State K A) (inv : IsSoundWorld rules.is_cover old) (there : rule.is_emptied_elsewhere ≡ true) where
  pub step_fits_mailboxes : (e : Event K A) (r : Reply K E) (new : State K A) → Step rules rule seat old e r new → MailboxesFit rules rule old → MailboxesFit rules rule new
  step_fits_mailboxes e r new d fits c k here =
      go (cursor_at old c) refl
    where
      go : (o : Option (OpenCursor K A)) → cursor_at old c ≡ o → Fits rules.is_match new.commits (shown rules rule new.search.tree k) k.unread
      go (Some before) was =
          let effect = (step_leads rules rule lawful seat old inv e r new d).effect in
          let s = effect.serves c before k was here in
          let all : k.unread ≡ before.unread ++ s.sent = sym (ap (λ o. option_to_list o ++ k.unread) (untaken rules rule seat old new there c e r d)) ∙ s.mailbox in
          subst (λ items. Fits rules.is_match new.commits (shown rules rule new.search.tree k) items) (sym all) (s.fits before.unread (fits c before was))
      go None was =
          let effect = (step_leads rules rule lawful seat old inv e r new d).effect in
          let a = effect.appears c k was here in
          subst (λ items. Fits rules.is_match new.commits (shown rules rule new.search.tree k) items) (sym a.1) a.4
