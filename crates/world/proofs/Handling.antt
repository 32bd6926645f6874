-- Events that change one open cursor.
use Rattle.std.proofs.Common.{◌≡◌, ◌<◌, ℕ, suc, zero, Bool, true, false, List, [], ◌∷◌, ◌++◌, length, take, drop, Some, None, inl, inr, refl, sym, ap, ◌∙◌, arith, subst, get_or, set, remove, Ok, Err}
use Rattle.std.proofs.lemmas.Option.{get_or_from_slice_get}
use Rattle.mailbox.specs.Outlets.{Rule}
use Rattle.key_class.specs.Rules.{IsLawful, Rules}
use Rattle.key_class.specs.declared.refusal.Refusal.{Refusal}
use Rattle.key_class.specs.declared.refusal.Refusal.TheVariants as refusal
use Rattle.change_list.specs.declared.item.Item.{Item}
use Rattle.change_list.proofs.Lists.{slice_get_within}
use Rattle.split.specs.Tests.{first_failing}
use Rattle.cursor.specs.OpenCursors.{OpenCursor, Turns}
use Rattle.world.specs.Serials.{without}
use Rattle.world.specs.declared.event.Event.TheVariants as event
use Rattle.world.specs.declared.reply.Reply.TheVariants as reply
use Rattle.world.specs.States.{State, cursor_at, with_cursor, IsAtWork, IsSoundWorld, IsAt}
use Rattle.world.specs.Calls.{reply_of_turn}
use Rattle.world.specs.Steps.{cursor_tests, tests, IsRefused, IsCarriedOut, Step, TurnsAt}
use Rattle.cursor.specs.declared.cursor.Turned.{Turned}
use Rattle.cursor.specs.declared.cursor.Turned.TheVariants as turned
use Rattle.world.proofs.Turning.{turn_unchanged, turn_serial, turn_work}
use Rattle.std.proofs.Common.{Result}
use Rattle.world.proofs.Serials.{member_all, member_within, put_at, without_at}
use Rattle.world.proofs.Refusing.{open_passes, failing_later, fails_at, passes_at}
use Rattle.world.proofs.Sounding.{turned_sound, closed_sound}

pub set_same : {X : Type 0} (xs : List X) (i : ℕ) (d : X) → i < length xs → set xs i (get_or xs i d) ≡ xs
set_same [] i d l = absurd (omega (arith, l))
set_same (x ∷ xs) zero d l = refl
set_same (x ∷ xs) (suc i) d l = ap (λ r. x ∷ r) (set_same xs i d (omega (arith, l)))

module _ {K A : Type 0} (is_cover : K → K → Bool) (old : State K A) (inv : IsSoundWorld is_cover old) (c at : ℕ) (a : IsAt old c at) where
  pub at_within : at < length old.cursors
  at_within = slice_get_within old.cursors at a.value a.is

  pub at_passes : first_failing (cursor_tests old c) ≡ None
  at_passes =
      let w = member_within (λ k. k.serial) c 0 old.last old.cursors a.value inv.serials a.found in
      open_passes old c a.value a.found w.0 w.1

  pub closed_as : record old { cursors = take at old.cursors ++ drop (suc at) old.cursors } ≡ record old { cursors = without (λ k. k.serial) c old.cursors }
  closed_as = ap (λ ks. record old { cursors = ks }) (sym (without_at (λ k. k.serial) c 0 old.last at old.cursors a.value inv.serials a.is a.number))

  module _ (before : OpenCursor K A) (is : before ≡ get_or old.cursors at before) where
    at_is : a.value ≡ before
    at_is = sym (get_or_from_slice_get old.cursors at a.value before a.is) ∙ sym is

    pub at_open : cursor_at old c ≡ Some before
    at_open = a.found ∙ ap Some at_is

    pub at_work : IsAtWork old.search.tree old.commits before
    at_work = member_all (λ k. k.serial) (λ k. IsAtWork old.search.tree old.commits k) c old.cursors before at_open inv.at_work

    module _ (later : OpenCursor K A) (same : later.serial ≡ before.serial) where
      pub put_as : record old { cursors = set old.cursors at later } ≡ with_cursor old later
      put_as = ap (λ ks. record old { cursors = ks }) (sym (put_at (λ k. k.serial) c 0 old.last at old.cursors a.value later inv.serials a.is a.number (same ∙ ap (λ (k : OpenCursor K A). k.serial) (sym at_is) ∙ a.number)))

      pub put_sound : IsAtWork old.search.tree old.commits later → IsSoundWorld is_cover (record old { cursors = set old.cursors at later })
      put_sound h = subst (λ s. IsSoundWorld is_cover s) (sym put_as) (turned_sound is_cover old inv later h)

module _ {K A : Type 0} (rules : Rules K A) (rule : Rule) (old : State K A) (inv : IsSoundWorld rules.is_cover old) (c at : ℕ) (a : IsAt old c at) (before : OpenCursor K A) (is : before ≡ get_or old.cursors at before) (later : OpenCursor K A) where
  pub ask_sound : later ≡ record before { asked = true } → IsSoundWorld rules.is_cover (record old { cursors = set old.cursors at later })
  ask_sound e =
      let h = at_work rules.is_cover old inv c at a before is in
      put_sound rules.is_cover old inv c at a before is later (ap (λ (k : OpenCursor K A). k.serial) e)
      (rw e (record { stack = h.stack; from_opening = h.from_opening; within = h.within }))

  pub ask_done : (E : Type 0) (seat : ℕ) → later ≡ record before { asked = true } → IsCarriedOut {E = E} rules rule seat old (event.AskMark c) reply.Asked (record old { cursors = set old.cursors at later })
  ask_done E seat e = record {
    passed = at_passes rules.is_cover old inv c at a;
    change = record {
      before = before;
      is_open = at_open rules.is_cover old inv c at a before is;
      after = put_as rules.is_cover old inv c at a before is later (ap (λ (k : OpenCursor K A). k.serial) e) ∙ ap (λ k. with_cursor old k) e;
    };
  }

  pub take_sound : (unread : List (Item K)) → later ≡ record before { unread = unread } → IsSoundWorld rules.is_cover (record old { cursors = set old.cursors at later })
  take_sound unread e =
      let h = at_work rules.is_cover old inv c at a before is in
      put_sound rules.is_cover old inv c at a before is later (ap (λ (k : OpenCursor K A). k.serial) e)
      (rw e (record { stack = h.stack; from_opening = h.from_opening; within = h.within }))

  take_passes : rule.is_emptied_elsewhere ≡ false → first_failing (tests rules rule old (event.Take c)) ≡ None
  take_passes e = failing_later (cursor_tests old c) ((rule.is_emptied_elsewhere, refusal.NotHere) ∷ []) (at_passes rules.is_cover old inv c at a) ∙ passes_at rule.is_emptied_elsewhere refusal.NotHere [] e

  pub take_done : (E : Type 0) (seat : ℕ) (item : Item K) (unread : List (Item K)) → later ≡ record before { unread = unread } → rule.is_emptied_elsewhere ≡ false → before.unread ≡ item ∷ unread
      → IsCarriedOut {E = E} rules rule seat old (event.Take c) (reply.Taken item) (record old { cursors = set old.cursors at later })
  take_done E seat item unread e here front = record {
    passed = take_passes here;
    change = record {
      before = before;
      is_open = at_open rules.is_cover old inv c at a before is;
      rest = unread;
      front = front;
      after = put_as rules.is_cover old inv c at a before is later (ap (λ (k : OpenCursor K A). k.serial) e) ∙ ap (λ k. with_cursor old k) e;
    };
  }

  -- a cursor written back as it was changes nothing
  same_put : later ≡ before → record old { cursors = set old.cursors at later } ≡ old
  same_put e = ap (λ k. record old { cursors = set old.cursors at k }) (e ∙ is) ∙ ap (λ ks. record old { cursors = ks }) (set_same old.cursors at before (at_within rules.is_cover old inv c at a))

  pub empty_done : (E : Type 0) (seat : ℕ) → later ≡ before → rule.is_emptied_elsewhere ≡ false → before.unread ≡ [] → IsCarriedOut {E = E} rules rule seat old (event.Take c) reply.Nothing (record old { cursors = set old.cursors at later })
  empty_done E seat e here none = record {
    passed = take_passes here;
    change = record { before = before; is_open = at_open rules.is_cover old inv c at a before is; empty = none; unchanged = same_put e };
  }

  pub elsewhere_refused : later ≡ before → rule.is_emptied_elsewhere ≡ true → IsRefused rules rule old (event.Take c) refusal.NotHere (record old { cursors = set old.cursors at later })
  elsewhere_refused e there = record {
    cause = inl (failing_later (cursor_tests old c) ((rule.is_emptied_elsewhere, refusal.NotHere) ∷ []) (at_passes rules.is_cover old inv c at a) ∙ fails_at rule.is_emptied_elsewhere refusal.NotHere [] there);
    unchanged = same_put e;
  }

  -- a turn
  turn_done_at : (how : Turned) → Turns rules rule old.search.tree old.commits before (Ok how) later → TurnsAt rules rule old c (Ok how) (record old { cursors = set old.cursors at later })
  turn_done_at how t = record {
    before = before;
    later = later;
    is_open = at_open rules.is_cover old inv c at a before is;
    turn = t;
    after = put_as rules.is_cover old inv c at a before is later (turn_serial rules rule old.search.tree old.commits before later (Ok how) t);
  }

  turn_refused : (why : Refusal) → Turns rules rule old.search.tree old.commits before (Err why) later → IsRefused rules rule old (event.Turn c) why (record old { cursors = set old.cursors at later })
  turn_refused why t =
      let e = turn_unchanged rules rule old.search.tree old.commits before later why t in
      record {
        cause = inr (
          at_passes rules.is_cover old inv c at a,
          record {
            cursor = before;
            is_open = at_open rules.is_cover old inv c at a before is;
            turn = subst (λ k. Turns rules rule old.search.tree old.commits before (Err why) k) e t;
          },
        );
        unchanged = same_put e;
      }

  -- whatever the turn, the event is answered with it
  pub turn_steps : (E : Type 0) (seat : ℕ) (how : Result Turned Refusal) → Turns rules rule old.search.tree old.commits before how later → Step rules rule seat old (event.Turn c) (reply_of_turn E how) (record old { cursors = set old.cursors at later })
  turn_steps E seat (Ok turned.Offered) t = record { passed = at_passes rules.is_cover old inv c at a; change = turn_done_at turned.Offered t }
  turn_steps E seat (Ok (turned.Visited page)) t = record { passed = at_passes rules.is_cover old inv c at a; change = turn_done_at (turned.Visited page) t }
  turn_steps E seat (Ok (turned.Passed n)) t = record { passed = at_passes rules.is_cover old inv c at a; change = turn_done_at (turned.Passed n) t }
  turn_steps E seat (Err why) t = turn_refused why t

  pub turn_sound : {same_key : K → K → Bool} {same_atom : A → A → Bool} → IsLawful rules same_key same_atom → (result : Result Turned Refusal) → Turns rules rule old.search.tree old.commits before result later → IsSoundWorld rules.is_cover (record old { cursors = set old.cursors at later })
  turn_sound lawful result t =
      let h = at_work rules.is_cover old inv c at a before is in
      put_sound rules.is_cover old inv c at a before is later (turn_serial rules rule old.search.tree old.commits before later result t) (turn_work rules rule lawful old.search.tree old.commits old.search.fan inv.tree.sound before later result h t)

module _ {K A : Type 0} (rules : Rules K A) (rule : Rule) (old : State K A) (inv : IsSoundWorld rules.is_cover old) (c at : ℕ) (a : IsAt old c at) (others : List (OpenCursor K A)) (is : others ≡ remove old.cursors at) where
  others_as : record old { cursors = others } ≡ record old { cursors = without (λ k. k.serial) c old.cursors }
  others_as = ap (λ ks. record old { cursors = ks }) is ∙ closed_as rules.is_cover old inv c at a

  pub close_sound : IsSoundWorld rules.is_cover (record old { cursors = others })
  close_sound = subst (λ s. IsSoundWorld rules.is_cover s) (sym others_as) (closed_sound rules.is_cover old inv c)

  pub close_done : (E : Type 0) (seat : ℕ) → IsCarriedOut {E = E} rules rule seat old (event.Close c) reply.Closed (record old { cursors = others })
  close_done E seat = record { passed = at_passes rules.is_cover old inv c at a; change = others_as }
