-- Every step keeps a world sound, and what a trace needs to know of it.
use Rattle.std.proofs.Common.{◌≡◌, ◌≢◌, ◌+◌, ◌<◌, ◌≤◌, ℕ, Bool, true, false, List, [], ◌∷◌, ◌++◌, length, Option, Some, None, inl, inr, refl, sym, ap, ◌∙◌, arith, subst, Ok}
use Rattle.std.specs.Prelude.{option_to_list, nat_eq}
use Rattle.std.proofs.lemmas.List.{append-nil}
use Rattle.mailbox.specs.Outlets.{Rule}
use Rattle.key_class.specs.Queries.{query_of}
use Rattle.std.proofs.lemmas.List.Elements.{All-nil}
use Rattle.key_class.specs.Rules.{IsLawful, Rules}
use Rattle.key_class.specs.declared.pred.Pred.{Pred}
use Rattle.key_class.specs.declared.refusal.Refusal.{Refusal}
use Rattle.key_class.specs.declared.refusal.Refusal.TheVariants as refusal
use Rattle.change_list.specs.declared.write.Write.TheVariants.{Delete, Move}
use Rattle.change_list.specs.declared.write.Write.{Write}
use Rattle.change_list.specs.declared.item.Item.{Item}
use Rattle.change_list.specs.Cursors.{Fits}
use Rattle.page_table.specs.Trees.{Tree}
use Rattle.scan.proofs.Opening.{open_find}
use Rattle.split.specs.Tests.{first_failing, place_tests}
use Rattle.split.proofs.Done.{IsDone as IsMoved}
use Rattle.split.proofs.EnlargeDone.{enlarge_done}
use Rattle.split.proofs.SplitDone.{split_done}
use Rattle.split.proofs.GrowDone.{grow_done}
use Rattle.split.proofs.PostDone.{post_done}
use Rattle.split.proofs.MoveDone.{leaf_within}
use Rattle.split.proofs.RowsDone.{buried}
use Rattle.cursor.specs.declared.cursor.Turned.{Turned}
use Rattle.cursor.specs.declared.cursor.Turned.TheVariants as turned
use Rattle.cursor.specs.OpenCursors.{OpenCursor, shown, wants, tree_work}
use Rattle.cursor.proofs.Turning.{turn_less_work, open_fits, follow_fits, ask_fits, take_fits}
use Rattle.world.specs.Stamps.{Stamp}
use Rattle.world.specs.declared.event.Event.{Event}
use Rattle.world.specs.declared.event.Event.TheVariants as event
use Rattle.world.specs.declared.reply.Reply.{Reply}
use Rattle.world.specs.declared.reply.Reply.TheVariants as reply
use Rattle.world.specs.Serials.{member, without}
use Rattle.world.specs.States.{State, cursor_at, finder_at, with_pages, with_cursor, IsAtWork, IsSoundWorld}
use Rattle.world.specs.Steps.{commit_tests, tests, cursor_tests, opened_cursor, following_cursor, Opens, SeeksOn, Step, IsRefused, IsCarriedOut, TurnsAt}
use Rattle.world.specs.Traces.{written, taken_by, asks}
use Rattle.page_table.specs.Keeping.{KeepsRows}
use Rattle.world.specs.Promises.{Serves, ServesAll, LowersCursorWork, FitsAtOpening, KeepsRowsUnder}
use Rattle.world.proofs.Serials.{member_serial, member_within, put_same, put_other, without_same, without_other, push_same, push_other}
use Rattle.world.proofs.Effects.{Effect, FinderEffect, IsShut, IsFresh, Opening, Closing, Numbering, Finding, Writing}
use Rattle.descent.specs.Finders.{OpenFinder}
use Rattle.world.proofs.Refusing.{closed_fails, failing_first, passed_first, open_leaves_room, follow_leaves_room, open_from_tests}
use Rattle.world.proofs.Sounding.{moved_sound, placed_sound, opened_sound, turned_sound, closed_sound, fresh_at_work}
use Rattle.world.proofs.PageSteps.{placed_tree}
use Rattle.world.proofs.FinderSteps.{finds_sound, unfound_sound, may_move, may_visit, meets_on, moves_sound, row_lives, buries_sound, seeks_on_sound, swept_page, sweeps_sound}
use Rattle.world.proofs.Placing.{page_exists, place_room}
use Rattle.world.proofs.Turning.{turn_serial, turn_work}
use Rattle.world.proofs.Askings.{taken_same}
use Rattle.world.proofs.Serving.{at_work_of, same_or_not, untouched, served_by_moves, served_by_place, served_by_bury, served_by_move, served_by_sweep, served_by_put, turn_serves}

none_is_some : {X : Type 0} (x : X) → (o : Option X) → o ≡ None → o ≡ Some x → ⊥
none_is_some x o a b = let c : None ≡ Some x = sym a ∙ b in cc

nat_eq_other : (c d : ℕ) → c ≢ d → nat_eq d c ≡ false
nat_eq_other c d n = search (arith, n)

module _ {K A : Type 0} (rules : Rules K A) (rule : Rule) where
  -- a closed cursor refuses what is asked of it, whatever the event
  asked_tests : (old : State K A) (e : Event K A) (c : ℕ) → IsShut old c → asks e c → first_failing (tests rules rule old e) ≡ Some refusal.CursorClosed
  asked_tests old (event.Turn d) c s a = subst (λ n. first_failing (cursor_tests old n) ≡ Some refusal.CursorClosed) (sym a) (closed_fails old c s.positive s.given s.closed)
  asked_tests old (event.AskMark d) c s a = subst (λ n. first_failing (cursor_tests old n) ≡ Some refusal.CursorClosed) (sym a) (closed_fails old c s.positive s.given s.closed)
  asked_tests old (event.Close d) c s a = subst (λ n. first_failing (cursor_tests old n) ≡ Some refusal.CursorClosed) (sym a) (closed_fails old c s.positive s.given s.closed)
  asked_tests old (event.Take d) c s a =
      subst (λ n. first_failing (tests rules rule old (event.Take n)) ≡ Some refusal.CursorClosed) (sym a)
      (failing_first (cursor_tests old c) ((rule.is_emptied_elsewhere, refusal.NotHere) ∷ []) refusal.CursorClosed (closed_fails old c s.positive s.given s.closed))
  asked_tests old e c s a = absurd a

module _ {K A E : Type 0} (rules : Rules K A) (rule : Rule) (seat : ℕ) (old : State K A) (e : Event K A) (new : State K A) where
  silent_refused : (why : Refusal) → IsRefused rules rule old e why new → first_failing (tests rules rule old e) ≡ Some refusal.CursorClosed → ◌≡◌ {A = Reply K E} (reply.Refused why) (reply.Refused refusal.CursorClosed)
  silent_refused why d t =
      elim d.cause [
        | inl h ↦ let s : Some why ≡ Some refusal.CursorClosed = sym h ∙ t in let f : why ≡ refusal.CursorClosed = cc in ap (λ x. reply.Refused x) f
        | inr p ↦ absurd (none_is_some refusal.CursorClosed (first_failing (tests rules rule old e)) p.0 t)
      ]

  silent_done : (r : Reply K E) → IsCarriedOut rules rule seat old e r new → first_failing (tests rules rule old e) ≡ Some refusal.CursorClosed → r ≡ reply.Refused refusal.CursorClosed
  silent_done r d t = absurd (none_is_some refusal.CursorClosed (first_failing (tests rules rule old e)) d.passed t)

  silent_step : (r : Reply K E) → Step rules rule seat old e r new → first_failing (tests rules rule old e) ≡ Some refusal.CursorClosed → r ≡ reply.Refused refusal.CursorClosed
  silent_step (reply.Refused why) d t = silent_refused why d t
  silent_step r d t = silent_done r d t

  pub silent_when_shut : (r : Reply K E) → Step rules rule seat old e r new → (c : ℕ) → IsShut old c → asks e c → r ≡ reply.Refused refusal.CursorClosed
  silent_when_shut r d c s a = silent_step r d (asked_tests rules rule old e c s a)

module _ {K A E : Type 0} (rules : Rules K A) (rule : Rule) (old new : State K A) (e : Event K A) (r : Reply K E) where
  -- nothing is committed, taken, opened or closed
  record IsQuiet : Type 0 where
    pub uncommitted : written (e, r) ≡ None
    pub untaken : (c : ℕ) → taken_by c (e, r) ≡ None
    pub opening : Opening rules rule old new e r
    pub closing : Closing rules rule new e r
    pub numbering : Numbering rules rule old r
    pub finding : Finding rules rule old new e r
    pub writing : Writing rules rule old e r

module _ {K A E : Type 0} (rules : Rules K A) (rule : Rule) where
  quiet_refused : (old new : State K A) (e : Event K A) (why : Refusal) → IsQuiet {E = E} rules rule old new e (reply.Refused why)
  quiet_refused old new (event.Turn d) why = record { uncommitted = refl; untaken = λ c. refl; opening = tt; closing = tt; numbering = tt; finding = tt; writing = tt }
  quiet_refused old new e why = record { uncommitted = refl; untaken = λ c. refl; opening = tt; closing = tt; numbering = tt; finding = tt; writing = tt }

-- the finders are those that were there
finders_stay : {K A E : Type 0} (rules : Rules K A) (rule : Rule) (old : State K A) (e : Event K A) (r : Reply K E) (new : State K A) → new.finders ≡ old.finders → new.last_finder ≡ old.last_finder → Finding rules rule old new e r → Writing rules rule old e r
    → FinderEffect rules rule old e r new
finders_stay rules rule old e r new same last finding writing = record {
  last = omega (arith, last);
  asked = λ f k h. inl (k, ap (λ ks. member (λ x. x.serial) f ks) (sym same) ∙ h, refl);
  finding = finding;
  writing = writing;
}

module _ {K A E : Type 0} (rules : Rules K A) (rule : Rule) {same_key : K → K → Bool} {same_atom : A → A → Bool} (lawful : IsLawful rules same_key same_atom) (seat : ℕ) (old : State K A) (inv : IsSoundWorld rules.is_cover old) (e : Event K A) (r : Reply K E) where
  -- a sound world and what a trace needs to know of the step to it
  pub record Leads (new : State K A) : Type 0 where
    pub sound : IsSoundWorld rules.is_cover new
    pub effect : Effect rules rule old e r new

  given_within : (new : State K A) → IsSoundWorld rules.is_cover new → (c : ℕ) (k : OpenCursor K A) → cursor_at new c ≡ Some k → c ≤ new.last
  given_within new s c k h = (member_within (λ k. k.serial) c 0 new.last new.cursors k s.serials h).1

  -- the world is as it was
  leads_nowhere : (new : State K A) → new ≡ old → IsQuiet rules rule old new e r → ((c : ℕ) → IsShut old c → asks e c → r ≡ reply.Refused refusal.CursorClosed) → Leads new
  leads_nowhere new same q silent = record {
    sound = subst (λ s. IsSoundWorld rules.is_cover s) (sym same) inv;
    effect = record {
      commits = rw q.uncommitted (ap (λ s. s.commits) same ∙ sym (append-nil old.commits));
      legal = rw same inv.legal;
      serves = λ c before after a b.
          let x : Some before ≡ Some after = sym a ∙ sym (ap (λ s. cursor_at s c) same) ∙ b in
          let f : before ≡ after = cc in
          subst (λ k. Serves rules rule old e r new c before k) f (untouched rules rule lawful old inv e r new c before (q.untaken c) (λ items h. rw same h));
      last = omega (arith, ap (λ (s : State K A). s.last) same);
      within = λ c k h. given_within new (subst (λ s. IsSoundWorld rules.is_cover s) (sym same) inv) c k h;
      shut = λ c l h. ap (λ s. cursor_at s c) same ∙ h;
      appears = λ c k h g. absurd (none_is_some k (cursor_at new c) (ap (λ s. cursor_at s c) same ∙ h) g);
      takes = λ c item t. absurd (none_is_some item (taken_by c (e, r)) (q.untaken c) t);
      opening = q.opening;
      closing = q.closing;
      silent = silent;
      numbering = q.numbering;
      finders = finders_stay rules rule old e r new (ap (λ s. s.finders) same) (ap (λ s. s.last_finder) same) q.finding q.writing;
    };
  }

  -- the tree alone has changed, and keeps the rows
  leads_by_moves : (tree : Tree K) → IsMoved rules.is_cover old.search.tree tree old.search.fan old.search.least old.search.limit → IsQuiet rules rule old (with_pages old tree) e r
      → ((c : ℕ) → IsShut old c → asks e c → r ≡ reply.Refused refusal.CursorClosed) → Leads (with_pages old tree)
  leads_by_moves tree d q silent =
      let s = moved_sound rules.is_cover old inv tree d in
      record {
        sound = s;
        effect = record {
          commits = rw q.uncommitted (sym (append-nil old.commits));
          legal = inv.legal;
          serves = λ c before after a b. served_by_moves rules rule lawful old inv e r tree d.kept c before after (q.untaken c) a b;
          last = omega arith;
          within = given_within (with_pages old tree) s;
          shut = λ c l h. h;
          appears = λ c k h g. absurd (none_is_some k (cursor_at old c) h g);
          takes = λ c item t. absurd (none_is_some item (taken_by c (e, r)) (q.untaken c) t);
          opening = q.opening;
          closing = q.closing;
          silent = silent;
          numbering = q.numbering;
          finders = finders_stay rules rule old e r (with_pages old tree) refl refl q.finding q.writing;
        };
      }

  -- one open cursor d is written back, and nothing else has changed
  leads_by_put : (d : ℕ) (was later : OpenCursor K A) (new : State K A) → new ≡ with_cursor old later → cursor_at old d ≡ Some was → later.serial ≡ was.serial → IsAtWork old.search.tree old.commits later
      → written (e, r) ≡ None → ((c : ℕ) → c ≢ d → taken_by c (e, r) ≡ None) → ((item : Item K) → taken_by d (e, r) ≡ Some item → (rest : List (Item K)) × (was.unread ≡ item ∷ rest))
      → Opening rules rule old new e r → Closing rules rule new e r → Numbering rules rule old r → Finding rules rule old new e r → Writing rules rule old e r → Serves rules rule old e r new d was later
      → ((c : ℕ) → IsShut old c → asks e c → r ≡ reply.Refused refusal.CursorClosed) → Leads new
  leads_by_put d was later new made is_open same work uncommitted others front opening closing numbering finding writing here silent =
      let number : later.serial ≡ d = same ∙ member_serial (λ k. k.serial) d old.cursors was is_open in
      let put : cursor_at new d ≡ Some later = ap (λ s. cursor_at s d) made ∙ put_same (λ k. k.serial) d later was old.cursors number is_open in
      let sound : IsSoundWorld rules.is_cover new = subst (λ s. IsSoundWorld rules.is_cover s) (sym made) (turned_sound rules.is_cover old inv later work) in
      let apart : (c : ℕ) → c ≢ d → cursor_at new c ≡ cursor_at old c = λ c n. ap (λ s. cursor_at s c) made ∙ put_other (λ k. k.serial) c later old.cursors (λ eq. n (eq ∙ number)) in
      record {
        sound = sound;
        effect = record {
          commits = rw uncommitted (ap (λ s. s.commits) made ∙ sym (append-nil old.commits));
          legal = rw made inv.legal;
          serves = served_by_put rules rule lawful old inv e r d was later new made is_open same others here;
          last = omega (arith, ap (λ (s : State K A). s.last) made);
          within = given_within new sound;
          shut = λ c l h. elim (same_or_not c d) [
            | inl eq ↦ absurd (none_is_some was (cursor_at old c) h (ap (λ n. cursor_at old n) eq ∙ is_open))
            | inr n ↦ apart c n ∙ h
          ];
          appears = λ c k h g. elim (same_or_not c d) [
            | inl eq ↦ absurd (none_is_some was (cursor_at old c) h (ap (λ n. cursor_at old n) eq ∙ is_open))
            | inr n ↦ absurd (none_is_some k (cursor_at new c) (apart c n ∙ h) g)
          ];
          takes = λ c item t. elim (same_or_not c d) [
            | inl eq ↦
                let f = front item (subst (λ n. taken_by n (e, r) ≡ Some item) eq t) in
                record { before = was; after = later; rest = f.0; was_open = ap (λ n. cursor_at old n) eq ∙ is_open; is_open = ap (λ n. cursor_at new n) eq ∙ put; front = f.1 }
            | inr n ↦ absurd (none_is_some item (taken_by c (e, r)) (others c n) t)
          ];
          opening = opening;
          closing = closing;
          silent = silent;
          numbering = numbering;
          finders = finders_stay rules rule old e r new (ap (λ s. s.finders) made) (ap (λ s. s.last_finder) made) finding writing;
        };
      }

module _ {K A : Type 0} (rules : Rules K A) (rule : Rule) {same_key : K → K → Bool} {same_atom : A → A → Bool} (lawful : IsLawful rules same_key same_atom) (old : State K A) (inv : IsSoundWorld rules.is_cover old) where
  -- a cursor that was opened
  begun_fits : (query : Pred A) (k : OpenCursor K A) (new : State K A) → k.serial ≡ old.last + 1 → k.query ≡ query_of query → k.unread ≡ [] → new ≡ record old { cursors = old.cursors ++ k ∷ []; last = old.last + 1 }
      → Fits rules.is_match old.commits (shown rules rule old.search.tree k) [] → IsFresh rules rule old new k.follows k.opened query (old.last + 1)
  begun_fits query k new number asks empty made fits = record {
    serial = omega arith;
    given = omega (arith, ap (λ (s : State K A). s.last) made);
    cursor = k;
    is_open = ap (λ s. cursor_at s (old.last + 1)) made ∙ push_same (λ k. k.serial) (old.last + 1) 0 old.last k old.cursors number (omega arith) inv.serials;
    query_is = asks;
    follows_is = refl;
    opened = refl;
    unread = empty;
    fits = rw made fits;
  }

  -- nothing given fits a cursor at the present commits, nor one that follows a commit
  open_fits_none : (query : Pred A) (room : ℕ) → Fits rules.is_match old.commits (shown rules rule old.search.tree (opened_cursor old query room)) []
  open_fits_none query room =
      let k = opened_cursor old query room in
      open_fits rules rule lawful old.search.tree old.commits k refl refl refl refl (open_find rules.is_cover old.search.tree old.search.fan inv.tree.sound old.commits inv.agrees (wants rules rule k))

  follow_fits_none : (query : Pred A) (room n : ℕ) → n ≤ length old.commits → Fits rules.is_match old.commits (shown rules rule old.search.tree (following_cursor old query room n)) []
  follow_fits_none query room n within = follow_fits rules rule old.search.tree old.commits (following_cursor old query room n) refl within refl refl refl

  opened_fits : (query : Pred A) (room : ℕ) (new : State K A) → new ≡ record old { cursors = old.cursors ++ opened_cursor old query room ∷ []; last = old.last + 1 } → IsFresh rules rule old new false (length old.commits) query (old.last + 1)
  opened_fits query room new made = begun_fits query (opened_cursor old query room) new refl refl refl made (open_fits_none query room)

  following_fits : (query : Pred A) (room n : ℕ) (new : State K A) → n ≤ length old.commits → new ≡ record old { cursors = old.cursors ++ following_cursor old query room n ∷ []; last = old.last + 1 } → IsFresh rules rule old new true n query (old.last + 1)
  following_fits query room n new within made = begun_fits query (following_cursor old query room n) new refl refl refl made (follow_fits_none query room n within)

same_keeps : {K : Type 0} (t t' : Tree K) → t' ≡ t → KeepsRows t t'
same_keeps t t' e = subst (λ x. KeepsRows t x) (sym e) (record { pages = omega arith; counter = omega arith; under = λ q m l h f. refl; whole = λ f. refl })

refused_keeps : {K A : Type 0} (rules : Rules K A) (rule : Rule) (old : State K A) (e : Event K A) (why : Refusal) (new : State K A) → IsRefused rules rule old e why new → KeepsRows old.search.tree new.search.tree
refused_keeps rules rule old e why new d = same_keeps old.search.tree new.search.tree (ap (λ s. s.search.tree) d.unchanged)

moved_keeps : {K A : Type 0} (is_cover : K → K → Bool) (old : State K A) (tree : Tree K) (new : State K A) → new ≡ with_pages old tree → IsMoved is_cover old.search.tree tree old.search.fan old.search.least old.search.limit → KeepsRows old.search.tree new.search.tree
moved_keeps is_cover old tree new e d = rw e d.kept

module _ {K A : Type 0} (rules : Rules K A) (rule : Rule) {same_key : K → K → Bool} {same_atom : A → A → Bool} (lawful : IsLawful rules same_key same_atom) (old : State K A) (inv : IsSoundWorld rules.is_cover old) where
  lowered : (c : ℕ) (how : Turned) (new : State K A) → TurnsAt rules rule old c (Ok how) new → (before after : OpenCursor K A) → cursor_at old c ≡ Some before → cursor_at new c ≡ Some after
      → tree_work rules rule new.search.tree new.commits after < tree_work rules rule old.search.tree old.commits before
  lowered c how new t before after a b =
      let h = at_work_of rules.is_cover old inv c t.before t.is_open in
      let number : t.later.serial ≡ c = turn_serial rules rule old.search.tree old.commits t.before t.later (Ok how) t.turn ∙ member_serial (λ k. k.serial) c old.cursors t.before t.is_open in
      let put : cursor_at new c ≡ Some t.later = ap (λ s. cursor_at s c) t.after ∙ put_same (λ k. k.serial) c t.later t.before old.cursors number t.is_open in
      let x : Some t.before ≡ Some before = sym t.is_open ∙ a in
      let y : Some t.later ≡ Some after = sym put ∙ b in
      let f : t.before ≡ before = cc in
      let g : t.later ≡ after = cc in
      rw (t.after, ← f, ← g) (turn_less_work rules rule lawful old.search.fan old.search.tree inv.tree.sound old.commits t.before t.later h.stack how t.turn)

module _ {K A : Type 0} (old : State K A) where
  abbrev fresh : ℕ → K → OpenFinder K
  fresh row key = record { serial = old.last_finder + 1; row = row; key = key; stack = (record { page = 0; memo = old.search.tree.counter }) ∷ [] }

  -- what is left where one finder went was there
  left : (f : ℕ) (new : State K A) → new.finders ≡ without (λ k. k.serial) f old.finders → (x : ℕ) (k : OpenFinder K) → finder_at new x ≡ Some k → finder_at old x ≡ Some k
  left f new made x k h = elim (same_or_not x f) [
    | inl eq ↦ absurd (none_is_some k (finder_at new x) (ap (λ n. finder_at new n) eq ∙ ap (λ ks. member (λ k. k.serial) f ks) made ∙ without_same (λ k. k.serial) f old.finders) h)
    | inr n ↦ sym (ap (λ ks. member (λ k. k.serial) x ks) made ∙ without_other (λ k. k.serial) f x old.finders n) ∙ h
  ]

module _ {K A E : Type 0} (rules : Rules K A) (rule : Rule) {same_key : K → K → Bool} {same_atom : A → A → Bool} (lawful : IsLawful rules same_key same_atom) (seat : ℕ) (old : State K A) (inv : IsSoundWorld rules.is_cover old) where
  -- a cursor as it was in a tree as it was
  kept_by : (e : Event K A) (r : Reply K E) (new : State K A) → new.search.tree ≡ old.search.tree → new.commits ≡ old.commits → (c : ℕ) (k : OpenCursor K A) → taken_by c (e, r) ≡ None → Serves rules rule old e r new c k k
  kept_by e r new tree commits c k none = untouched rules rule lawful old inv e r new c k none (λ items h. rw (tree, commits) h)

  -- nothing is committed, taken, opened or closed, and the cursors are those that were there
  leads_alike : (e : Event K A) (r : Reply K E) (new : State K A) → written (e, r) ≡ None → ((c : ℕ) → taken_by c (e, r) ≡ None) → Opening rules rule old new e r → Closing rules rule new e r → Numbering rules rule old r
      → IsSoundWorld rules.is_cover new → new.commits ≡ old.commits → new.cursors ≡ old.cursors → new.last ≡ old.last
      → ((c : ℕ) (k : OpenCursor K A) → cursor_at old c ≡ Some k → cursor_at new c ≡ Some k → Serves rules rule old e r new c k k) → FinderEffect rules rule old e r new
      → ((c : ℕ) → IsShut old c → asks e c → r ≡ reply.Refused refusal.CursorClosed) → Leads {E = E} rules rule lawful seat old inv e r new
  leads_alike e r new uncommitted untaken opening closing numbering sound commits cursors last serves finders silent =
      let alike : (c : ℕ) → cursor_at new c ≡ cursor_at old c = λ c. ap (λ ks. member (λ k. k.serial) c ks) cursors in
      record {
        sound = sound;
        effect = record {
          commits = rw uncommitted (commits ∙ sym (append-nil old.commits));
          legal = sound.legal;
          serves = λ c before after a b.
              let x : Some before ≡ Some after = sym a ∙ sym (alike c) ∙ b in
              let f : before ≡ after = cc in
              subst (λ k. Serves rules rule old e r new c before k) f (serves c before a (alike c ∙ a));
          last = omega (arith, last);
          within = λ c k h. (member_within (λ k. k.serial) c 0 new.last new.cursors k sound.serials h).1;
          shut = λ c l h. alike c ∙ h;
          appears = λ c k h g. absurd (none_is_some k (cursor_at new c) (alike c ∙ h) g);
          takes = λ c item t. absurd (none_is_some item (taken_by c (e, r)) (untaken c) t);
          opening = opening;
          closing = closing;
          silent = silent;
          numbering = numbering;
          finders = finders;
        };
      }

  leads_by_place : (page : ℕ) (key : K) (tag : ℕ) (stamp : Stamp K) (new : State K A) → IsCarriedOut {E = E} rules rule seat old (event.Place page key tag) (reply.Committed stamp) new
      → Leads {E = E} rules rule lawful seat old inv (event.Place page key tag) (reply.Committed stamp) new
  leads_by_place page key tag stamp new d =
      let passed : first_failing (place_tests rules.is_cover old.search page key) ≡ None = passed_first (place_tests rules.is_cover old.search page key) _ d.passed in
      let room : length old.commits < old.limit = place_room rules rule old page key tag d.passed in
      let exists = page_exists rules rule old page key tag passed in
      let sound : IsSoundWorld rules.is_cover new = subst (λ s. IsSoundWorld rules.is_cover s) (sym d.change.after) (placed_sound rules.is_cover old inv page exists key tag room
      (placed_tree rules.is_cover old.search inv.tree page key passed (record { key = key; row = length old.commits + 1; tag = tag; died = None }) refl)) in
      let alike : (c : ℕ) → cursor_at new c ≡ cursor_at old c = λ c. ap (λ s. cursor_at s c) d.change.after in
      record {
        sound = sound;
        effect = record {
          commits = ap (λ s. s.commits) d.change.after ∙ ap (λ x. old.commits ++ x ∷ []) (sym (ap (λ s. s.write) d.change.stamped));
          legal = sound.legal;
          serves = λ c before after a b. served_by_place rules rule lawful old inv (event.Place page key tag) (reply.Committed stamp) page exists key tag new d.change.after c before after refl a b;
          last = omega (arith, ap (λ (s : State K A). s.last) d.change.after);
          within = λ c k h. (member_within (λ k. k.serial) c 0 new.last new.cursors k sound.serials h).1;
          shut = λ c l h. alike c ∙ h;
          appears = λ c k h g. absurd (none_is_some k (cursor_at new c) (alike c ∙ h) g);
          takes = λ c item t. absurd (cc);
          opening = tt;
          closing = tt;
          silent = λ c s a. absurd a;
          numbering = ap (λ s. s.number) d.change.stamped;
          finders = finders_stay rules rule old (event.Place page key tag) (reply.Committed stamp) new (ap (λ s. s.finders) d.change.after) (ap (λ s. s.last_finder) d.change.after) tt (ap (λ s. s.write) d.change.stamped);
        };
      }

  -- a cursor is opened
  leads_by_begun : (e : Event K A) (c : ℕ) (end : E) (k : OpenCursor K A) (new : State K A) → Opens old k c new → k.serial ≡ old.last + 1 → k.unread ≡ [] → k.asked ≡ false → IsAtWork old.search.tree old.commits k
      → (length old.cursors < 256) × (old.last < 4294967295) → Opening {E = E} rules rule old new e (reply.Opened c end)
      → Fits rules.is_match new.commits (shown rules rule new.search.tree k) [] → Finding {E = E} rules rule old new e (reply.Opened c end)
      → ((x : ℕ) → taken_by {E = E} x (e, reply.Opened c end) ≡ None) → Closing {E = E} rules rule new e (reply.Opened c end) → ((x : ℕ) → asks e x → ⊥)
      → Leads {E = E} rules rule lawful seat old inv e (reply.Opened c end) new
  leads_by_begun e c end k new d number empty unasked work left opening fits finding untaken closing asks_none =
      let sound : IsSoundWorld rules.is_cover new = subst (λ s. IsSoundWorld rules.is_cover s) (sym d.after) (opened_sound rules.is_cover old inv k number work left.0 left.1) in
      let apart : (x : ℕ) → x ≢ old.last + 1 → cursor_at new x ≡ cursor_at old x = λ x n. ap (λ s. cursor_at s x) d.after ∙ push_other (λ k. k.serial) x k old.cursors (λ eq. n (eq ∙ number)) in
      let put : cursor_at new (old.last + 1) ≡ Some k = ap (λ s. cursor_at s (old.last + 1)) d.after ∙ push_same (λ k. k.serial) (old.last + 1) 0 old.last k old.cursors number (omega arith) inv.serials in
      let beyond : (x : ℕ) (k : OpenCursor K A) → cursor_at old x ≡ Some k → x ≢ old.last + 1 = λ x k h eq. omega (arith, eq, (member_within (λ k. k.serial) x 0 old.last old.cursors k inv.serials h).1) in
      record {
        sound = sound;
        effect = record {
          commits = ap (λ s. s.commits) d.after ∙ sym (append-nil old.commits);
          legal = sound.legal;
          serves = λ x before after a b.
              let s : Some before ≡ Some after = sym a ∙ sym (apart x (beyond x before a)) ∙ b in
              let f : before ≡ after = cc in
              subst (λ k. Serves {E = E} rules rule old e (reply.Opened c end) new x before k) f (untouched rules rule lawful old inv e (reply.Opened c end) new x before (untaken x) (λ items h. rw d.after h));
          last = omega (arith, ap (λ (s : State K A). s.last) d.after);
          within = λ x k h. (member_within (λ k. k.serial) x 0 new.last new.cursors k sound.serials h).1;
          shut = λ x l h. apart x (λ eq. omega (arith, l, eq)) ∙ h;
          appears = λ x y h g. elim (same_or_not x (old.last + 1)) [
            | inl eq ↦
                let s : Some k ≡ Some y = sym put ∙ ap (λ n. cursor_at new n) (sym eq) ∙ g in
                let f : k ≡ y = cc in (
                  omega (arith, eq),
                  ap (λ (z : OpenCursor K A). z.unread) (sym f) ∙ empty,
                  ap (λ (z : OpenCursor K A). z.asked) (sym f) ∙ unasked,
                  record { end = end; is = ap (λ n. reply.Opened n end) (d.serial ∙ sym eq) },
                  subst (λ (z : OpenCursor K A). Fits rules.is_match new.commits (shown rules rule new.search.tree z) []) f fits,
                )
            | inr n ↦ absurd (none_is_some y (cursor_at new x) (apart x n ∙ h) g)
          ];
          takes = λ x item t. absurd (none_is_some item (taken_by x (e, reply.Opened c end)) (untaken x) t);
          opening = opening;
          closing = closing;
          silent = λ x s a. absurd (asks_none x a);
          numbering = tt;
          finders = finders_stay rules rule old e (reply.Opened c end) new (ap (λ s. s.finders) d.after) (ap (λ s. s.last_finder) d.after) finding tt;
        };
      }

  leads_by_open : (query : Pred A) (room c : ℕ) (end : E) (new : State K A) → IsCarriedOut {E = E} rules rule seat old (event.Open query room) (reply.Opened c end) new
      → Leads {E = E} rules rule lawful seat old inv (event.Open query room) (reply.Opened c end) new
  leads_by_open query room c end new d =
      let fresh = opened_fits rules rule lawful old inv query room new d.change.after in
      leads_by_begun (event.Open query room) c end (opened_cursor old query room) new d.change refl refl refl
      (fresh_at_work rules.is_cover old inv (opened_cursor old query room) (length old.commits) old.search.tree.counter refl refl refl refl refl) (open_leaves_room old query room d.passed)
      (subst (λ n. IsFresh rules rule old new false (length old.commits) query n) (sym d.change.serial) fresh) (rw d.change.after (open_fits_none rules rule lawful old inv query room)) tt (λ x. refl) tt (λ x a. a)

  leads_by_follow : (query : Pred A) (room n c : ℕ) (end : E) (new : State K A) → IsCarriedOut {E = E} rules rule seat old (event.Follow query room n) (reply.Opened c end) new
      → Leads {E = E} rules rule lawful seat old inv (event.Follow query room n) (reply.Opened c end) new
  leads_by_follow query room n c end new d =
      let left = follow_leaves_room old query room n d.passed in
      let fresh = following_fits rules rule lawful old inv query room n new left.0 d.change.after in
      leads_by_begun (event.Follow query room n) c end (following_cursor old query room n) new d.change refl refl refl
      (record { stack = All-nil (λ i. (i.page < length old.search.tree.pages) × (i.memo ≤ old.search.tree.counter)); from_opening = omega arith; within = left.0 }) (left.1, left.2)
      (subst (λ x. IsFresh rules rule old new true n query x) (sym d.change.serial) fresh) (rw d.change.after (follow_fits_none rules rule lawful old inv query room n left.0)) tt (λ x. refl) tt (λ x a. a)

  leads_by_close : (d : ℕ) (new : State K A) → IsCarriedOut {E = E} rules rule seat old (event.Close d) reply.Closed new → Leads {E = E} rules rule lawful seat old inv (event.Close d) reply.Closed new
  leads_by_close d new h =
      let sound : IsSoundWorld rules.is_cover new = subst (λ s. IsSoundWorld rules.is_cover s) (sym h.change) (closed_sound rules.is_cover old inv d) in
      let gone : cursor_at new d ≡ None = ap (λ s. cursor_at s d) h.change ∙ without_same (λ k. k.serial) d old.cursors in
      let apart : (c : ℕ) → c ≢ d → cursor_at new c ≡ cursor_at old c = λ c n. ap (λ s. cursor_at s c) h.change ∙ without_other (λ k. k.serial) d c old.cursors n in
      let o = open_from_tests old d h.passed in
      record {
        sound = sound;
        effect = record {
          commits = ap (λ s. s.commits) h.change ∙ sym (append-nil old.commits);
          legal = sound.legal;
          serves = λ c before after a b. elim (same_or_not c d) [
            | inl eq ↦ absurd (none_is_some after (cursor_at new c) (ap (λ n. cursor_at new n) eq ∙ gone) b)
            | inr n ↦
                let s : Some before ≡ Some after = sym a ∙ sym (apart c n) ∙ b in
                let f : before ≡ after = cc in
                subst (λ k. Serves {E = E} rules rule old (event.Close d) reply.Closed new c before k) f (untouched rules rule lawful old inv (event.Close d) reply.Closed new c before refl (λ items g. rw h.change g))
          ];
          last = omega (arith, ap (λ (s : State K A). s.last) h.change);
          within = λ c k g. (member_within (λ k. k.serial) c 0 new.last new.cursors k sound.serials g).1;
          shut = λ c l g. elim (same_or_not c d) [ inl eq ↦ ap (λ n. cursor_at new n) eq ∙ gone | inr n ↦ apart c n ∙ g ];
          appears = λ c k g f. elim (same_or_not c d) [
            | inl eq ↦ absurd (none_is_some k (cursor_at new c) (ap (λ n. cursor_at new n) eq ∙ gone) f)
            | inr n ↦ absurd (none_is_some k (cursor_at new c) (apart c n ∙ g) f)
          ];
          takes = λ c item t. absurd (cc);
          opening = tt;
          closing = record { positive = o.positive; given = omega (arith, o.given, ap (λ (s : State K A). s.last) h.change); closed = gone };
          silent = λ c s a. silent_when_shut rules rule seat old (event.Close d) new reply.Closed h c s a;
          numbering = tt;
          finders = finders_stay rules rule old (event.Close d) reply.Closed new (ap (λ s. s.finders) h.change) (ap (λ s. s.last_finder) h.change) tt tt;
        };
      }

  leads_by_turn : (d : ℕ) (how : Turned) (r : Reply K E) (new : State K A) → TurnsAt rules rule old d (Ok how) new → IsQuiet rules rule old new (event.Turn d) r
      → ((c : ℕ) → IsShut old c → d ≡ c → r ≡ reply.Refused refusal.CursorClosed) → Leads {E = E} rules rule lawful seat old inv (event.Turn d) r new
  leads_by_turn d how r new t q silent =
      let h = at_work_of rules.is_cover old inv d t.before t.is_open in
      leads_by_put rules rule lawful seat old inv (event.Turn d) r d t.before t.later new t.after t.is_open (turn_serial rules rule old.search.tree old.commits t.before t.later (Ok how) t.turn)
      (turn_work rules rule lawful old.search.tree old.commits old.search.fan inv.tree.sound t.before t.later (Ok how) h t.turn)
      q.uncommitted (λ c n. q.untaken c) (λ item k. absurd (none_is_some item (taken_by {A = A} d (event.Turn d, r)) (q.untaken d) k)) q.opening q.closing q.numbering q.finding q.writing
      (turn_serves rules rule lawful old inv (event.Turn d) r d t.before t.later (Ok how) new (q.untaken d) t.after t.is_open t.turn) silent

  leads_by_ask : (d : ℕ) (new : State K A) → IsCarriedOut {E = E} rules rule seat old (event.AskMark d) reply.Asked new → Leads {E = E} rules rule lawful seat old inv (event.AskMark d) reply.Asked new
  leads_by_ask d new h =
      let t = h.change in
      let k = at_work_of rules.is_cover old inv d t.before t.is_open in
      leads_by_put rules rule lawful seat old inv (event.AskMark d) reply.Asked d t.before (record t.before { asked = true }) new t.after t.is_open refl (record { stack = k.stack; from_opening = k.from_opening; within = k.within })
      refl (λ c n. refl) (λ item e. absurd (cc)) tt tt tt tt tt
      (record {
        query = refl;
        follows = refl;
        opened = refl;
        sent = [];
        mailbox = sym (append-nil t.before.unread);
        one = inr (refl, refl, refl);
        fits = λ items f. rw (t.after, append-nil items) (ask_fits rules rule old.search.tree old.commits t.before items f);
      })
      (λ c s a. silent_when_shut rules rule seat old (event.AskMark d) new reply.Asked h c s a)

  leads_by_take : (d : ℕ) (item : Item K) (new : State K A) → IsCarriedOut {E = E} rules rule seat old (event.Take d) (reply.Taken item) new → Leads {E = E} rules rule lawful seat old inv (event.Take d) (reply.Taken item) new
  leads_by_take d item new h =
      let t = h.change in
      let k = at_work_of rules.is_cover old inv d t.before t.is_open in
      let here : taken_by {A = A} {E = E} d (event.Take d, reply.Taken item) ≡ Some item = taken_same A E d item in
      leads_by_put rules rule lawful seat old inv (event.Take d) (reply.Taken item) d t.before (record t.before { unread = t.rest }) new t.after t.is_open refl (record { stack = k.stack; from_opening = k.from_opening; within = k.within })
      refl (λ c n. rw (nat_eq_other c d n) refl)
      (λ x e. let s : Some item ≡ Some x = sym here ∙ e in let f : item ≡ x = cc in (t.rest, t.front ∙ ap (λ y. y ∷ t.rest) f)) tt tt tt tt tt
      (record {
        query = refl;
        follows = refl;
        opened = refl;
        sent = [];
        mailbox = ap (λ o. option_to_list o ++ t.rest) here ∙ sym t.front ∙ sym (append-nil t.before.unread);
        one = inl refl;
        fits = λ items f. rw (t.after, append-nil items) (take_fits rules rule old.search.tree old.commits t.before t.rest items f);
      })
      (λ c s a. silent_when_shut rules rule seat old (event.Take d) new (reply.Taken item) h c s a)

  leads_by_find : (row f : ℕ) (new : State K A) → IsCarriedOut {E = E} rules rule seat old (event.Find row) (reply.Finder f) new → Leads {E = E} rules rule lawful seat old inv (event.Find row) (reply.Finder f) new
  leads_by_find row f new d = leads_alike (event.Find row) (reply.Finder f) new refl (λ c. refl) tt tt tt (finds_sound rules.is_cover old inv row f new d.passed d.change)
      (ap (λ s. s.commits) d.change.after) (ap (λ s. s.cursors) d.change.after) (ap (λ s. s.last) d.change.after)
      (λ c k a b. kept_by (event.Find row) (reply.Finder f) new (ap (λ s. s.search.tree) d.change.after) (ap (λ s. s.commits) d.change.after) c k refl)
      (record {
        last = omega (arith, ap (λ (s : State K A). s.last_finder) d.change.after);
        asked = λ x k h. elim (same_or_not x (old.last_finder + 1)) [
          | inl eq ↦
              let put : finder_at new (old.last_finder + 1) ≡ Some (fresh old row d.change.key) = ap (λ s. finder_at s (old.last_finder + 1)) d.change.after ∙ push_same (λ k. k.serial) (old.last_finder + 1) 0 old.last_finder (fresh old row d.change.key) old.finders refl (omega arith) inv.finders.serials in
              let s : Some (fresh old row d.change.key) ≡ Some k = sym put ∙ ap (λ n. finder_at new n) (sym eq) ∙ h in
              let same : fresh old row d.change.key ≡ k = cc in
              inr (rw (eq, ← same, d.change.serial) refl)
          | inr n ↦ inl (k, sym (ap (λ s. finder_at s x) d.change.after ∙ push_other (λ k. k.serial) x (fresh old row d.change.key) old.finders n) ∙ h, refl)
        ];
        finding = (omega (arith, d.change.serial), omega (arith, d.change.serial, ap (λ (s : State K A). s.last_finder) d.change.after));
        writing = tt;
      })
      (λ c s a. absurd a)

  -- a visit of a finder that goes on, by an event that commits, takes, opens and closes nothing
  leads_further : (e : Event K A) (f : ℕ) (new : State K A) → IsQuiet {E = E} rules rule old new e reply.Seeking → SeeksOn rules rule old f new → ((c : ℕ) → asks e c → ⊥)
      → Leads {E = E} rules rule lawful seat old inv e reply.Seeking new
  leads_further e f new q t unasked =
      let row : t.later.row ≡ t.before.row = ap (λ k. k.row) t.further.after in
      let number : t.later.serial ≡ f = ap (λ k. k.serial) t.further.after ∙ member_serial (λ k. k.serial) f old.finders t.before t.is_open in
      leads_alike e reply.Seeking new q.uncommitted q.untaken q.opening q.closing q.numbering (seeks_on_sound rules rule lawful old inv f new t)
      (ap (λ s. s.commits) t.after) (ap (λ s. s.cursors) t.after) (ap (λ s. s.last) t.after)
      (λ c k a b. kept_by e reply.Seeking new (ap (λ s. s.search.tree) t.after) (ap (λ s. s.commits) t.after) c k (q.untaken c))
      (record {
        last = omega (arith, ap (λ (s : State K A). s.last_finder) t.after);
        asked = λ x k h. elim (same_or_not x f) [
          | inl eq ↦
              let put : finder_at new f ≡ Some t.later = ap (λ s. finder_at s f) t.after ∙ put_same (λ k. k.serial) f t.later t.before old.finders number t.is_open in
              let s : Some t.later ≡ Some k = sym put ∙ ap (λ n. finder_at new n) (sym eq) ∙ h in
              let same : t.later ≡ k = cc in
              inl (t.before, ap (λ n. finder_at old n) eq ∙ t.is_open, sym row ∙ ap (λ k. k.row) same)
          | inr n ↦ inl (k, sym (ap (λ s. finder_at s x) t.after ∙ put_other (λ k. k.serial) x t.later old.finders (λ eq. n (eq ∙ number))) ∙ h, refl)
        ];
        finding = q.finding;
        writing = q.writing;
      })
      (λ c s a. absurd (unasked c a))

  leads_by_unfind : (f : ℕ) (new : State K A) → IsCarriedOut {E = E} rules rule seat old (event.Unfind f) reply.Unfound new → Leads {E = E} rules rule lawful seat old inv (event.Unfind f) reply.Unfound new
  leads_by_unfind f new d = leads_alike (event.Unfind f) reply.Unfound new refl (λ c. refl) tt tt tt (unfound_sound rules.is_cover old inv f new d.change)
      (ap (λ s. s.commits) d.change) (ap (λ s. s.cursors) d.change) (ap (λ s. s.last) d.change)
      (λ c k a b. kept_by (event.Unfind f) reply.Unfound new (ap (λ s. s.search.tree) d.change) (ap (λ s. s.commits) d.change) c k refl)
      (record {
        last = omega (arith, ap (λ (s : State K A). s.last_finder) d.change);
        asked = λ x k h. inl (k, left old f new (ap (λ s. s.finders) d.change) x k h, refl);
        finding = tt;
        writing = tt;
      })
      (λ c s a. absurd a)

  -- a visit of a finder that ends it with a commit, by an event that takes, opens and closes nothing
  leads_by_end : (e : Event K A) (f : ℕ) (stamp : Stamp K) (write : Write K) (new : State K A) → IsSoundWorld rules.is_cover new
      → ((c : ℕ) → taken_by {A = A} {E = E} c (e, reply.Committed stamp) ≡ None) → ((c : ℕ) → asks e c → ⊥)
      → Opening {E = E} rules rule old new e (reply.Committed stamp) → Closing {E = E} rules rule new e (reply.Committed stamp) → Finding {E = E} rules rule old new e (reply.Committed stamp)
      → Writing {E = E} rules rule old e (reply.Committed stamp)
      → stamp.number ≡ length old.commits + 1 → stamp.write ≡ write → new.commits ≡ old.commits ++ write ∷ [] → new.cursors ≡ old.cursors → new.last ≡ old.last
      → new.finders ≡ without (λ k. k.serial) f old.finders → new.last_finder ≡ old.last_finder
      → ((c : ℕ) (before after : OpenCursor K A) → cursor_at old c ≡ Some before → cursor_at new c ≡ Some after → Serves {E = E} rules rule old e (reply.Committed stamp) new c before after)
      → Leads {E = E} rules rule lawful seat old inv e (reply.Committed stamp) new
  leads_by_end e f stamp write new sound untaken unasked opening closing finding writing number is commits cursors last finders last_finder serves =
      let alike : (c : ℕ) → cursor_at new c ≡ cursor_at old c = λ c. ap (λ ks. member (λ k. k.serial) c ks) cursors in
      record {
        sound = sound;
        effect = record {
          commits = commits ∙ ap (λ x. old.commits ++ x ∷ []) (sym is);
          legal = sound.legal;
          serves = serves;
          last = omega (arith, last);
          within = λ c k h. (member_within (λ k. k.serial) c 0 new.last new.cursors k sound.serials h).1;
          shut = λ c l h. alike c ∙ h;
          appears = λ c k h g. absurd (none_is_some k (cursor_at new c) (alike c ∙ h) g);
          takes = λ c item g. absurd (none_is_some item (taken_by {A = A} {E = E} c (e, reply.Committed stamp)) (untaken c) g);
          opening = opening;
          closing = closing;
          silent = λ c s a. absurd (unasked c a);
          numbering = number;
          finders = record {
            last = omega (arith, last_finder);
            asked = λ x k h. inl (k, left old f new finders x k h, refl);
            finding = finding;
            writing = writing;
          };
        };
      }

  leads_by_bury : (f : ℕ) (stamp : Stamp K) (new : State K A) → IsCarriedOut {E = E} rules rule seat old (event.Seek f) (reply.Committed stamp) new → Leads {E = E} rules rule lawful seat old inv (event.Seek f) (reply.Committed stamp) new
  leads_by_bury f stamp new d =
      let t = d.change in
      let may = may_visit rules.is_cover old inv f t.finder (commit_tests old) t.is_open d.passed in
      let on = meets_on rules.is_cover old inv f t.finder t.page t.is_open t.finds in
      let live = row_lives rules.is_cover old inv f t.finder t.is_open may.alive in
      let write : stamp.write ≡ Delete t.finder.row = ap (λ s. s.write) t.stamped in
      leads_by_end (event.Seek f) f stamp (Delete t.finder.row) new (buries_sound rules.is_cover old inv seat f stamp new d.passed t) (λ c. refl) (λ c a. a) tt tt tt (t.finder, t.is_open, write)
      (ap (λ s. s.number) t.stamped) write (ap (λ s. s.commits) t.after) (ap (λ s. s.cursors) t.after) (ap (λ s. s.last) t.after) (ap (λ s. s.finders) t.after) (ap (λ s. s.last_finder) t.after)
      (λ c before after a b. served_by_bury rules rule lawful old inv (event.Seek f) (reply.Committed stamp) t.page on.exists t.finder.row live new (ap (λ s. s.search.tree) t.after) (ap (λ s. s.commits) t.after) (ap (λ s. s.cursors) t.after) c before after refl a b)

  leads_by_move : (f leaf : ℕ) (key : K) (stamp : Stamp K) (new : State K A) → IsCarriedOut {E = E} rules rule seat old (event.Move f leaf key) (reply.Committed stamp) new
      → Leads {E = E} rules rule lawful seat old inv (event.Move f leaf key) (reply.Committed stamp) new
  leads_by_move f leaf key stamp new d =
      let t = d.change in
      let may = may_move rules.is_cover old inv f t.finder t.page leaf key t.is_open t.finds d.passed in
      let on = meets_on rules.is_cover old inv f t.finder t.page t.is_open t.finds in
      let live = row_lives rules.is_cover old inv f t.finder t.is_open may.alive in
      let write : stamp.write ≡ Move t.finder.row key = ap (λ s. s.write) t.stamped in
      let dead = buried rules.is_cover old.search.tree old.search.fan old.search.least old.search.limit inv.tree t.page on.leaf t.finder.row (length old.commits + 1) in
      leads_by_end (event.Move f leaf key) f stamp (Move t.finder.row key) new (moves_sound rules.is_cover old inv seat f leaf key stamp new d.passed t) (λ c. refl) (λ c a. a) tt tt tt (t.finder, t.is_open, write)
      (ap (λ s. s.number) t.stamped) write (ap (λ s. s.commits) t.after) (ap (λ s. s.cursors) t.after) (ap (λ s. s.last) t.after) (ap (λ s. s.finders) t.after) (ap (λ s. s.last_finder) t.after)
      (λ c before after a b. served_by_move rules rule lawful old inv (event.Move f leaf key) (reply.Committed stamp) t.page on.exists t.finder.row leaf key live (leaf_within rules.is_cover old.search leaf key may.takes) dead.sound
      (record { key = key; row = length old.commits + 1; tag = t.row.tag; died = None }) refl new (ap (λ s. s.search.tree) t.after) (ap (λ s. s.commits) t.after) (ap (λ s. s.cursors) t.after) c before after refl a b)

  leads_by_sweep : (page count : ℕ) (new : State K A) → IsCarriedOut {E = E} rules rule seat old (event.Sweep page) (reply.Swept count) new → Leads {E = E} rules rule lawful seat old inv (event.Sweep page) (reply.Swept count) new
  leads_by_sweep page count new d =
      let t = d.change in
      leads_alike (event.Sweep page) (reply.Swept count) new refl (λ c. refl) tt tt tt (sweeps_sound rules.is_cover old inv page count new d.passed t)
      (ap (λ s. s.commits) t.after) (ap (λ s. s.cursors) t.after) (ap (λ s. s.last) t.after)
      (λ c k a b. served_by_sweep rules rule lawful old inv (event.Sweep page) (reply.Swept count) page (swept_page rules.is_cover old inv page d.passed) t.horizon t.is new t.after c k k refl a b)
      (finders_stay rules rule old (event.Sweep page) (reply.Swept count) new (ap (λ s. s.finders) t.after) (ap (λ s. s.last_finder) t.after) tt tt)
      (λ c s a. absurd a)

  -- every step leads to a sound world, with the effect that a trace needs
  pub step_leads : (e : Event K A) (r : Reply K E) (new : State K A) → Step rules rule seat old e r new → Leads {E = E} rules rule lawful seat old inv e r new
  step_leads e (reply.Refused why) new d = leads_nowhere rules rule lawful seat old inv e (reply.Refused why) new d.unchanged (quiet_refused rules rule old new e why) (λ c s a. silent_when_shut rules rule seat old e new (reply.Refused why) d c s a)
  step_leads (event.Enlarge page child key) reply.Enlarged new d =
      subst (λ s. Leads {E = E} rules rule lawful seat old inv (event.Enlarge page child key) reply.Enlarged s) (sym d.change)
      (leads_by_moves rules rule lawful seat old inv (event.Enlarge page child key) reply.Enlarged _ (enlarge_done rules.is_cover old.search inv.tree page child key d.passed rules.union_of lawful.bounds)
      (record { uncommitted = refl; untaken = λ c. refl; opening = tt; closing = tt; numbering = tt; finding = tt; writing = tt }) (λ c s a. absurd a))
  step_leads (event.Place page key tag) (reply.Committed stamp) new d = leads_by_place page key tag stamp new d
  step_leads (event.Split page sides) (reply.Split sibling) new d =
      subst (λ s. Leads {E = E} rules rule lawful seat old inv (event.Split page sides) (reply.Split sibling) s) (sym d.change.1)
      (leads_by_moves rules rule lawful seat old inv (event.Split page sides) (reply.Split sibling) _ (split_done rules.is_cover old.search inv.tree page sides d.passed rules.union_of lawful.bounds)
      (record { uncommitted = refl; untaken = λ c. refl; opening = tt; closing = tt; numbering = tt; finding = tt; writing = tt }) (λ c s a. absurd a))
  step_leads (event.Post page child) reply.Posted new d =
      subst (λ s. Leads {E = E} rules rule lawful seat old inv (event.Post page child) reply.Posted s) (sym d.change.after)
      (leads_by_moves rules rule lawful seat old inv (event.Post page child) reply.Posted _ (post_done rules.is_cover old.search inv.tree page child d.passed d.change.sibling d.change.is_right rules.union_of lawful.bounds)
      (record { uncommitted = refl; untaken = λ c. refl; opening = tt; closing = tt; numbering = tt; finding = tt; writing = tt }) (λ c s a. absurd a))
  step_leads (event.Grow sides) (reply.Grown first second) new d =
      subst (λ s. Leads {E = E} rules rule lawful seat old inv (event.Grow sides) (reply.Grown first second) s) (sym d.change.2)
      (leads_by_moves rules rule lawful seat old inv (event.Grow sides) (reply.Grown first second) _ (grow_done rules.is_cover old.search inv.tree sides d.passed rules.union_of lawful.bounds)
      (record { uncommitted = refl; untaken = λ c. refl; opening = tt; closing = tt; numbering = tt; finding = tt; writing = tt }) (λ c s a. absurd a))
  step_leads (event.Find row) (reply.Finder f) new d = leads_by_find row f new d
  step_leads (event.Seek f) reply.Seeking new d = leads_further (event.Seek f) f new (record { uncommitted = refl; untaken = λ c. refl; opening = tt; closing = tt; numbering = tt; finding = tt; writing = tt }) d.change (λ c a. a)
  step_leads (event.Seek f) (reply.Committed stamp) new d = leads_by_bury f stamp new d
  step_leads (event.Move f leaf key) (reply.Committed stamp) new d = leads_by_move f leaf key stamp new d
  step_leads (event.Move f leaf key) reply.Seeking new d = leads_further (event.Move f leaf key) f new (record { uncommitted = refl; untaken = λ c. refl; opening = tt; closing = tt; numbering = tt; finding = tt; writing = tt }) d.change (λ c a. a)
  step_leads (event.Unfind f) reply.Unfound new d = leads_by_unfind f new d
  step_leads (event.Sweep page) (reply.Swept count) new d = leads_by_sweep page count new d
  step_leads (event.Open query room) (reply.Opened c end) new d = leads_by_open query room c end new d
  step_leads (event.Follow query room n) (reply.Opened c end) new d = leads_by_follow query room n c end new d
  step_leads (event.Turn x) reply.Offered new d = leads_by_turn x turned.Offered reply.Offered new d.change (record { uncommitted = refl; untaken = λ c. refl; opening = tt; closing = tt; numbering = tt; finding = tt; writing = tt }) (λ c s a. silent_when_shut rules rule seat old (event.Turn x) new reply.Offered d c s a)
  step_leads (event.Turn x) (reply.Visited page) new d = leads_by_turn x (turned.Visited page) (reply.Visited page) new d.change (record { uncommitted = refl; untaken = λ c. refl; opening = tt; closing = tt; numbering = tt; finding = tt; writing = tt }) (λ c s a. silent_when_shut rules rule seat old (event.Turn x) new (reply.Visited page) d c s a)
  step_leads (event.Turn x) (reply.Passed n) new d = leads_by_turn x (turned.Passed n) (reply.Passed n) new d.change (record { uncommitted = refl; untaken = λ c. refl; opening = tt; closing = tt; numbering = tt; finding = tt; writing = tt }) (λ c s a. silent_when_shut rules rule seat old (event.Turn x) new (reply.Passed n) d c s a)
  step_leads (event.AskMark x) reply.Asked new d = leads_by_ask x new d
  step_leads (event.Take x) (reply.Taken item) new d = leads_by_take x item new d
  step_leads (event.Take x) reply.Nothing new d = leads_nowhere rules rule lawful seat old inv (event.Take x) reply.Nothing new d.change.unchanged (record { uncommitted = refl; untaken = λ c. refl; opening = tt; closing = tt; numbering = tt; finding = tt; writing = tt }) (λ c s a. silent_when_shut rules rule seat old (event.Take x) new reply.Nothing d c s a)
  step_leads (event.Close x) reply.Closed new d = leads_by_close x new d
  step_leads e r new d = absurd d.change

  pub step_sound : (e : Event K A) (r : Reply K E) (new : State K A) → Step rules rule seat old e r new → IsSoundWorld rules.is_cover new
  step_sound e r new d = (step_leads e r new d).sound

  pub step_serves : (e : Event K A) (r : Reply K E) (new : State K A) → Step rules rule seat old e r new → ServesAll rules rule old e r new
  step_serves e r new d = (step_leads e r new d).effect.serves

  -- the commits are those that were there and the one that the reply tells
  pub step_commits : (e : Event K A) (r : Reply K E) (new : State K A) → Step rules rule seat old e r new → new.commits ≡ old.commits ++ option_to_list (written (e, r))
  step_commits e r new d = (step_leads e r new d).effect.commits

  -- a turn makes no commit
  pub turn_commits : (c : ℕ) (r : Reply K E) (new : State K A) → Step rules rule seat old (event.Turn c) r new → new.commits ≡ old.commits
  turn_commits c (reply.Committed stamp) new d = absurd d.change
  turn_commits c r new d = step_commits (event.Turn c) r new d ∙ append-nil old.commits

  -- a turn that isn't refused lowers the work of its cursor
  pub step_lowers : (e : Event K A) (r : Reply K E) (new : State K A) → Step rules rule seat old e r new → LowersCursorWork rules rule old e r new
  step_lowers (event.Turn c) reply.Offered new d = lowered rules rule lawful old inv c turned.Offered new d.change
  step_lowers (event.Turn c) (reply.Visited page) new d = lowered rules rule lawful old inv c (turned.Visited page) new d.change
  step_lowers (event.Turn c) (reply.Passed n) new d = lowered rules rule lawful old inv c (turned.Passed n) new d.change
  step_lowers (event.Turn c) (reply.Refused why) new d = tt
  step_lowers (event.Turn c) r new d = absurd d.change
  step_lowers e r new d = tt

  -- nothing given fits a cursor at its opening
  pub step_opens : (e : Event K A) (r : Reply K E) (new : State K A) → Step rules rule seat old e r new → FitsAtOpening rules rule r new
  step_opens (event.Open query room) (reply.Opened c end) new d = λ k h.
      let o = opened_fits rules rule lawful old inv query room new d.change.after in
      let s : Some o.cursor ≡ Some k = sym o.is_open ∙ ap (λ n. cursor_at new n) (sym d.change.serial) ∙ h in
      let f : o.cursor ≡ k = cc in
      subst (λ (k : OpenCursor K A). Fits rules.is_match new.commits (shown rules rule new.search.tree k) []) f o.fits
  step_opens (event.Follow query room n) (reply.Opened c end) new d = λ k h.
      let o = following_fits rules rule lawful old inv query room n new (follow_leaves_room old query room n d.passed).0 d.change.after in
      let s : Some o.cursor ≡ Some k = sym o.is_open ∙ ap (λ n. cursor_at new n) (sym d.change.serial) ∙ h in
      let f : o.cursor ≡ k = cc in
      subst (λ (k : OpenCursor K A). Fits rules.is_match new.commits (shown rules rule new.search.tree k) []) f o.fits
  step_opens e (reply.Opened c end) new d = absurd d.change
  step_opens e r new d = tt

  pub step_keeps_rows : (e : Event K A) (r : Reply K E) (new : State K A) → Step rules rule seat old e r new → KeepsRowsUnder old e new
  step_keeps_rows (event.Enlarge page child key) (reply.Refused why) new d = refused_keeps rules rule old (event.Enlarge page child key) why new d
  step_keeps_rows (event.Enlarge page child key) reply.Enlarged new d = moved_keeps rules.is_cover old _ new d.change (enlarge_done rules.is_cover old.search inv.tree page child key d.passed rules.union_of lawful.bounds)
  step_keeps_rows (event.Enlarge page child key) r new d = absurd d.change
  step_keeps_rows (event.Split page sides) (reply.Refused why) new d = refused_keeps rules rule old (event.Split page sides) why new d
  step_keeps_rows (event.Split page sides) (reply.Split sibling) new d = moved_keeps rules.is_cover old _ new d.change.1 (split_done rules.is_cover old.search inv.tree page sides d.passed rules.union_of lawful.bounds)
  step_keeps_rows (event.Split page sides) r new d = absurd d.change
  step_keeps_rows (event.Post page child) (reply.Refused why) new d = refused_keeps rules rule old (event.Post page child) why new d
  step_keeps_rows (event.Post page child) reply.Posted new d = moved_keeps rules.is_cover old _ new d.change.after (post_done rules.is_cover old.search inv.tree page child d.passed d.change.sibling d.change.is_right rules.union_of lawful.bounds)
  step_keeps_rows (event.Post page child) r new d = absurd d.change
  step_keeps_rows (event.Grow sides) (reply.Refused why) new d = refused_keeps rules rule old (event.Grow sides) why new d
  step_keeps_rows (event.Grow sides) (reply.Grown first second) new d = moved_keeps rules.is_cover old _ new d.change.2 (grow_done rules.is_cover old.search inv.tree sides d.passed rules.union_of lawful.bounds)
  step_keeps_rows (event.Grow sides) r new d = absurd d.change
  step_keeps_rows e r new d = tt
