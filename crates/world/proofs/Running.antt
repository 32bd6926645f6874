-- The loop over a list of events.
use Rattle.std.proofs.Common.{Bool, true, false, ◌≡◌, ◌+◌, ◌<◌, ℕ, zero, suc, List, [], ◌∷◌, ◌++◌, length, take, get_or, refl, sym, ◌∙◌, arith, subst, length-append, length-take}
use Rattle.std.specs.List.{zip}
use Rattle.std.specs.Result.{IsErrAnd}
use Rattle.std.proofs.lemmas.List.{take_more, append-nil}
use Rattle.std.proofs.Common.{append_assoc}
use Rattle.std.proofs.Common.{Result, Ok, Err, inr}
use Rattle.std.specs.Prelude.{IfErr}
use Rattle.key_class.specs.Refusals.{IsEither}
use Rattle.key_class.specs.declared.pred.Pred.{Pred}
use Rattle.mailbox.specs.Outlets.{Rule}
use Rattle.key_class.specs.Rules.{IsLawful, Rules}
use Rattle.key_class.specs.declared.refusal.Refusal.{Refusal}
use Rattle.key_class.specs.declared.refusal.Refusal.TheVariants as refusal
use Rattle.change_list.specs.declared.config.Config.{Config}
use Rattle.change_list.specs.Configs.{IsWithinLimits}
use Rattle.change_list.proofs.Lists.{zip_push}
use Rattle.world.specs.declared.event.Event.{Event}
use Rattle.world.specs.declared.event.Event.TheVariants as event
use Rattle.world.specs.declared.reply.Reply.{Reply}
use Rattle.world.specs.declared.reply.Reply.TheVariants as reply
use Rattle.world.specs.States.{State, new_state, IsSoundWorld}
use Rattle.world.specs.Steps.{Step, Runs, IsCopy}
use Rattle.world.specs.Traces.{Trace, IsFaithful, IsAlwaysFaithful}
use Rattle.world.proofs.Sounding.{new_sound_world}
use Rattle.world.proofs.Stepping.{step_leads}
use Rattle.world.proofs.Faithful.{Inv, IsBeginning, Inv-push, faithful}

no_beginning : (K A E : Type 0) (i c : ℕ) (follows : Bool) (n : ℕ) (query : Pred A) → IsBeginning {K = K} {E = E} [] i c follows n query → ⊥
no_beginning K A E i c false n query o = let h = o.0.is in cc
no_beginning K A E i c true n query o = let h = o.is in cc

module _ {K A E : Type 0} (rules : Rules K A) (rule : Rule) where
  inv_start : (config : Config) → Inv {E = E} rules rule [] (new_state config)
  inv_start config = record {
    commits = refl;
    legal = λ place write h. absurd (cc);
    seen = λ c k h. absurd (cc);
    once = λ i j c a b end other h k. absurd (cc);
    issued = λ i c a end h. absurd (cc);
    known = λ j c x h. absurd (cc);
    opened = λ i c follows n query o. absurd (no_beginning K A E i c follows n query o);
    untaken = λ c l. refl;
    taken_given = λ j c x h. absurd (cc);
    within = λ c k h. absurd (cc);
    marks = λ i j c follows n m query o h. absurd (cc);
    askings = λ c. record { places = []; rising = λ j first second e f. absurd (cc); each = λ i n e. absurd (cc) };
    closed = λ i c h. absurd (cc);
    silent = λ i j c later answer h l k a. absurd (cc);
    numbered = λ i e stamp h. absurd (cc);
    finders = record {
      found = λ f k h. absurd (cc);
      given = λ i f row h. absurd (cc);
      once = λ i j f row other h g. absurd (cc);
      writes = λ i e stamp h. absurd (cc);
    };
  }

  inv_runs : {same_key : K → K → Bool} {same_atom : A → A → Bool} → IsLawful rules same_key same_atom → (done todo : Trace K A E) (old new : State K A) → IsSoundWorld rules.is_cover old → Inv rules rule done old → Runs rules rule old todo new → Inv rules rule (done ++ todo) new
  inv_runs lawful done [] old new s I h = rw (append-nil done, h) I
  inv_runs lawful done (m ∷ todo) old new s I h =
      let leads = step_leads rules rule lawful 0 old s m.0 m.1 h.0 h.1 in
      let more = inv_runs lawful (done ++ m ∷ []) todo h.0 new leads.sound (Inv-push rules rule done old h.0 m.0 m.1 I leads.effect) h.2 in
      rw append_assoc at more

  runs_faithful : {same_key : K → K → Bool} {same_atom : A → A → Bool} → IsLawful rules same_key same_atom → (config : Config) → IsWithinLimits config → (trace : Trace K A E) (last : State K A) → Runs rules rule (new_state config) trace last → IsFaithful rules.is_match trace
  runs_faithful lawful config limits trace last h =
      faithful rules rule trace last (inv_runs lawful [] trace (new_state config) last (new_sound_world rules.is_cover config limits) (inv_start config) h)

  -- a beginning of a run is a run
  runs_take : (old new : State K A) (trace : Trace K A E) (count : ℕ) → Runs rules rule old trace new → (mid : State K A) × Runs rules rule old (take count trace) mid
  runs_take old new trace zero h = (old, refl)
  runs_take old new [] (suc count) h = (old, refl)
  runs_take old new (m ∷ trace) (suc count) h =
      let rest = runs_take h.0 new trace count h.2 in
      (rest.0, (h.0, h.1, rest.1))

  pub runs_always_faithful : {same_key : K → K → Bool} {same_atom : A → A → Bool} → IsLawful rules same_key same_atom → (config : Config) → IsWithinLimits config → (trace : Trace K A E) (last : State K A) → Runs rules rule (new_state config) trace last → IsAlwaysFaithful rules.is_match trace
  runs_always_faithful lawful config limits trace last h count =
      let beginning = runs_take (new_state config) last trace count h in
      runs_faithful lawful config limits (take count trace) beginning.0 beginning.1

  -- a run that goes on by one step
  runs_push : (old mid new : State K A) (trace : Trace K A E) (e : Event K A) (r : Reply K E) → Runs rules rule old trace mid → Step rules rule 0 mid e r new → Runs rules rule old (trace ++ (e, r) ∷ []) new
  runs_push old mid new [] e r h d = (new, subst (λ s. Step rules rule 0 s e r new) h d, refl)
  runs_push old mid new (m ∷ trace) e r h d = (h.0, h.1, runs_push h.0 mid new trace e r h.2 d)

  -- a step by a copy is a step by the event
  step_copied : (old : State K A) (e copy : Event K A) (r : Reply K E) (new : State K A) → IsCopy e copy → Step rules rule 0 old copy r new → Step rules rule 0 old e r new
  step_copied old (event.Open query room) copy r new h d = opened r (subst (λ k. Step rules rule 0 old k r new) h.2 d)
    where
      opened : (r : Reply K E) → Step rules rule 0 old (event.Open h.0 room) r new → Step rules rule 0 old (event.Open query room) r new
      opened (reply.Refused why) d = record { cause = rw (← h.1) d.cause; unchanged = d.unchanged }
      opened (reply.Opened c end) d = record { passed = rw (← h.1) d.passed; change = record { serial = d.change.serial; after = rw (← h.1) d.change.after } }
      opened r d = absurd d.change
  step_copied old (event.Follow query room n) copy r new h d = opened r (subst (λ k. Step rules rule 0 old k r new) h.2 d)
    where
      opened : (r : Reply K E) → Step rules rule 0 old (event.Follow h.0 room n) r new → Step rules rule 0 old (event.Follow query room n) r new
      opened (reply.Refused why) d = record { cause = rw (← h.1) d.cause; unchanged = d.unchanged }
      opened (reply.Opened c end) d = record { passed = rw (← h.1) d.passed; change = record { serial = d.change.serial; after = rw (← h.1) d.change.after } }
      opened r d = absurd d.change
  step_copied old e copy r new h d = subst (λ k. Step rules rule 0 old k r new) h d

  -- the first events were answered by a run from a new world
  pub record HasRun (config : Config) (events : List (Event K A)) (count : ℕ) (replies : List (Reply K E)) (s : State K A) : Type 0 where
    pub counted : length replies ≡ count
    pub ran : Runs rules rule (new_state config) (zip (take count events) replies) s

  pub has_run_none : (config : Config) (events : List (Event K A)) → HasRun config events 0 [] (new_state config)
  has_run_none config events = record { counted = refl; ran = refl }

  pub has_run_push : (config : Config) (events : List (Event K A)) (count : ℕ) (replies : List (Reply K E)) (s new : State K A) (e copy : Event K A) (r : Reply K E)
      → HasRun config events count replies s → count < length events → get_or events count e ≡ e → IsCopy e copy → Step rules rule 0 s copy r new → HasRun config events (count + 1) (replies ++ r ∷ []) new
  has_run_push config events count replies s new e copy r h l is same d =
      let step = step_copied s e copy r new same d in
      let n : length (take count events) ≡ length replies = omega (arith, length-take {A = Event K A}, h.counted) in
      record {
        counted = omega (arith, h.counted, length-append replies (r ∷ []));
        ran = rw (take_more events count e l, is, zip_push (take count events) replies e r n) (runs_push (new_state config) s new (zip (take count events) replies) e r h.ran step);
      }

-- want of memory doesn't refuse the configuration
pub no_bad_config : {X : Type 0} (r : Result X Refusal) → IsErrAnd r (λ why. why ≡ refusal.OutOfMemory) → r ≡ Err refusal.BadConfig → ⊥
no_bad_config (Ok x) h b = h
no_bad_config (Err why) h b =
    let f : why ≡ refusal.BadConfig = cc in
    let g : refusal.OutOfMemory ≡ refusal.BadConfig = sym h ∙ f in
    cc

-- no refusal is for another reason
pub for_memory : {X : Type 0} (r : Result X Refusal) → IsErrAnd r (λ why. why ≡ refusal.OutOfMemory) → IfErr r (IsEither refusal.BadConfig refusal.OutOfMemory)
for_memory (Ok x) h = tt
for_memory (Err why) h = inr h

-- what is returned is no refusal
pub not_refused : {X Y : Type 0} (x : X) (y : Y) → Ok x ≡ Err y → ⊥
not_refused x y e = cc
