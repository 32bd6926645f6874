-- Turns of a cursor, one after the other, until it offers an item.
use Rattle.std.proofs.Common.{◌≡◌, ◌<◌, ◌≤◌, ℕ, Bool, true, false, List, [], ◌∷◌, ◌++◌, length, Option, Some, None, Result, Ok, Err, ◌⊎◌, inl, inr, refl, sym, ap, ◌∙◌, arith, subst}
use Rattle.std.proofs.lemmas.List.{append-nil, length-append}
use Rattle.std.specs.Prelude.{nat_eq}
use Rattle.mailbox.specs.Outlets.{Rule}
use Rattle.key_class.specs.Rules.{IsLawful, Rules}
use Rattle.key_class.specs.declared.refusal.Refusal.{Refusal}
use Rattle.key_class.specs.declared.refusal.Refusal.TheVariants as refusal
use Rattle.change_list.specs.declared.item.Item.{Item}
use Rattle.change_list.specs.declared.item.Item.TheVariants as item
use Rattle.change_list.specs.Cursors.{Fits, IsPastRows, work}
use Rattle.page_table.specs.Stacks.{IsStack}
use Rattle.split.specs.Tests.{first_failing}
use Rattle.cursor.specs.declared.cursor.Turned.{Turned}
use Rattle.cursor.specs.declared.cursor.Turned.TheVariants as turned
use Rattle.cursor.specs.OpenCursors.{OpenCursor, shown, tree_work, Turns, is_scanning, sent, wants}
use Rattle.cursor.specs.Sending.{TurnsTo, SendsItems}
use Rattle.cursor.proofs.Sending.{turn_sends}
use Rattle.cursor.proofs.Tasks.{HasScanned, rested, visited}
use Rattle.cursor.proofs.Turning.{turn_fits, turn_less_work, turn_no_more, offer_less}
use Rattle.scan.specs.Scanning.{to_find}
use Rattle.world.proofs.Refusing.{open_from_tests, open_passes}
use Rattle.world.proofs.Serials.{put_same, all_put, member_all, member_serial}
use Rattle.world.proofs.Serving.{at_work_of}
use Rattle.world.specs.Serials.{put}
use Rattle.world.specs.Calls.{TurnsCursor}
use Rattle.world.specs.States as world
use Rattle.world.specs.Steps.{TurnsAt, RefusesTurn, TakesItem, cursor_tests}
use Rattle.store.specs.States.{Strives, GivesNext, Answers, Nexts, RefusesNext, with_open_cursor}
use Rattle.store.specs.Worlds.{IsEmptied, IsQuiet, IsFilled, store_state}
use Rattle.store.proofs.Worlds.{open_as, with_as, refuses_next}

-- a member that was put takes no note of one that was put before it
pub put_put : {X : Type 0} (serial : X → ℕ) (x y : X) (xs : List X) → serial y ≡ serial x → put serial y (put serial x xs) ≡ put serial y xs
put_put serial x y [] e = refl
put_put serial x y (z ∷ xs) e = go (nat_eq (serial z) (serial x)) refl (put_put serial x y xs e)
  where
    go : (b : Bool) → nat_eq (serial z) (serial x) ≡ b → put serial y (put serial x xs) ≡ put serial y xs → put serial y (put serial x (z ∷ xs)) ≡ put serial y (z ∷ xs)
    go true d r =
        let f : nat_eq (serial x) (serial y) ≡ true = search (arith, e) in
        let g : nat_eq (serial z) (serial y) ≡ true = search (arith, d, e) in
        rw (d, f, g) refl
    go false d r =
        let g : nat_eq (serial z) (serial y) ≡ false = search (arith, d, e) in
        rw (d, g) (ap (λ l. z ∷ l) r)

nothing_more : {X : Type 0} (xs ys : List X) → xs ≡ xs ++ ys → ys ≡ []
nothing_more xs [] e = refl
nothing_more xs (y ∷ ys) e = absurd (omega (arith, ap length e, length-append xs (y ∷ ys)))

no_end : {X : Type 0} (xs : List X) (x : X) → xs ++ x ∷ [] ≡ [] → ⊥
no_end [] x e = absurd (cc)
no_end (y ∷ xs) x e = absurd (cc)

sent_unread : {K A : Type 0} (x : Item K) (k : OpenCursor K A) → (sent x k).unread ≡ k.unread ++ x ∷ []
sent_unread (item.Row row) k = refl
sent_unread (item.Inserted row) k = refl
sent_unread (item.Deleted n row) k = refl
sent_unread (item.Moved row other) k = refl
sent_unread (item.Mark n) k = refl

module _ {K A : Type 0} (rules : Rules K A) (rule : Rule) where
  -- a cursor has got on, and gave nothing
  pub record GotOn (old now : world.State K A) (c : ℕ) : Type 0 where
    pub passed : first_failing (cursor_tests old c) ≡ None
    pub before : OpenCursor K A
    pub later : OpenCursor K A
    pub was_open : world.cursor_at old c ≡ Some before
    pub is : now ≡ world.with_cursor old later
    pub serial : later.serial ≡ c
    pub strives : Strives rules.is_match old.commits (shown rules rule old.search.tree before) (shown rules rule old.search.tree later)
    pub work_left : work old.commits (shown rules rule old.search.tree later) ≤ work old.commits (shown rules rule old.search.tree before)
    pub emptied : IsEmptied later
    pub quiet : IsQuiet old

  -- the work of the cursor with a serial
  abbrev pub work_if : world.State K A → Option (OpenCursor K A) → ℕ
  work_if s (Some k) = tree_work rules rule s.search.tree s.commits k
  work_if s None = 0

  abbrev pub work_at : world.State K A → ℕ → ℕ
  work_at s c = work_if s (world.cursor_at s c)

  -- before the first turn
  pub at_first : (old : world.State K A) (c : ℕ) → IsQuiet old → first_failing (cursor_tests old c) ≡ None → GotOn old old c
  at_first old c quiet passed =
      let o = open_from_tests old c passed in
      let n = member_serial (λ k. k.serial) c old.cursors o.cursor o.is_open in
      record {
        passed = passed;
        before = o.cursor;
        later = o.cursor;
        was_open = o.is_open;
        is = ap (λ ks. record old { cursors = ks }) (sym (put_found c old.cursors o.cursor n o.is_open));
        serial = n;
        strives = record { serial = refl; query = refl; follows = refl; opened = refl; asked = refl; fits = λ items f. f };
        work_left = omega arith;
        emptied = member_all (λ k. k.serial) IsEmptied c old.cursors o.cursor o.is_open quiet.emptied;
        quiet = quiet;
      }
    where
      put_found : (c : ℕ) (ks : List (OpenCursor K A)) (k : OpenCursor K A) → k.serial ≡ c → world.cursor_at (record old { cursors = ks }) c ≡ Some k → put (λ x. x.serial) k ks ≡ ks
      put_found c [] k n h = refl
      put_found c (x ∷ ks) k n h = go (nat_eq x.serial c) refl h (λ e. put_found c ks k n e)
        where
          go : (b : Bool) → nat_eq x.serial c ≡ b → world.cursor_at (record old { cursors = x ∷ ks }) c ≡ Some k → (world.cursor_at (record old { cursors = ks }) c ≡ Some k → put (λ x. x.serial) k ks ≡ ks) → put (λ x. x.serial) k (x ∷ ks) ≡ x ∷ ks
          go true e f r =
              let d : nat_eq x.serial k.serial ≡ true = subst (λ m. nat_eq x.serial m ≡ true) (sym n) e in
              let s : Some x ≡ Some k = rw e at f in
              let p : x ≡ k = cc in
              rw d (ap (λ y. y ∷ ks) (sym p))
          go false e f r =
              let d : nat_eq x.serial k.serial ≡ false = subst (λ m. nat_eq x.serial m ≡ false) (sym n) e in
              rw d (ap (λ l. x ∷ l) (r (rw e at f)))

  module _ (old now : world.State K A) (c : ℕ) (g : GotOn old now c) where
    pub now_open : world.cursor_at now c ≡ Some g.later
    now_open = ap (λ s. world.cursor_at s c) g.is ∙ put_same (λ k. k.serial) c g.later g.before old.cursors g.serial g.was_open

    pub now_passes : first_failing (cursor_tests now c) ≡ None
    now_passes =
        let o = open_from_tests old c g.passed in
        open_passes now c g.later now_open o.positive (subst (λ (s : world.State K A). c ≤ s.last) (sym g.is) o.given)

    -- what was found open is the cursor that has got on
    pub is_later : (k : OpenCursor K A) → world.cursor_at now c ≡ Some k → k ≡ g.later
    is_later k h = let s : Some k ≡ Some g.later = sym h ∙ now_open in cc

    pub now_quiet : IsQuiet now
    now_quiet = subst IsQuiet (sym g.is) (record { no_finder = g.quiet.no_finder; emptied = all_put (λ k. k.serial) IsEmptied g.later old.cursors g.emptied g.quiet.emptied })

    module _ {same_key : K → K → Bool} {same_atom : A → A → Bool} (lawful : IsLawful rules same_key same_atom) (sound : world.IsSoundWorld rules.is_cover now) where
      -- a turn, as one from the beginning
      pub record Moves (how : Turned) (new : world.State K A) : Type 0 where
        pub next : OpenCursor K A
        pub turns : Turns rules rule old.search.tree old.commits g.later (Ok how) next
        pub to : TurnsTo old.commits g.later next
        pub is : new ≡ world.with_cursor old next

      pub moves : (how : Turned) (new : world.State K A) → TurnsAt rules rule now c (Ok how) new → Moves how new
      moves how new t =
          let same = is_later t.before t.is_open in
          let here : Turns rules rule old.search.tree old.commits t.before (Ok how) t.later = subst (λ (s : world.State K A). Turns rules rule s.search.tree s.commits t.before (Ok how) t.later) g.is t.turn in
          let turns : Turns rules rule old.search.tree old.commits g.later (Ok how) t.later = subst (λ k. Turns rules rule old.search.tree old.commits k (Ok how) t.later) same here in
          let to = turn_sends rules rule old.commits old.search.tree g.later t.later (Ok how) turns in
          record {
            next = t.later;
            turns = turns;
            to = to;
            is = t.after ∙ ap (λ m. world.with_cursor m t.later) g.is ∙ ap (λ ks. record old { cursors = ks }) (put_put (λ k. k.serial) g.later t.later old.cursors to.serial);
          }

      old_stack : IsStack old.search.tree g.later.stack
      old_stack = subst (λ (s : world.State K A). IsStack s.search.tree g.later.stack) g.is (at_work_of rules.is_cover now sound c g.later now_open).stack

      old_within : g.later.position ≤ length old.commits
      old_within = subst (λ (s : world.State K A). g.later.position ≤ length s.commits) g.is (at_work_of rules.is_cover now sound c g.later now_open).within

      old_sound : world.IsSoundWorld rules.is_cover (world.with_cursor old g.later)
      old_sound = subst (world.IsSoundWorld rules.is_cover) g.is sound

      pub moved_fits : (how : Turned) (new : world.State K A) (m : Moves how new) (items offered : List (Item K)) → m.next.unread ≡ g.later.unread ++ offered → Fits rules.is_match old.commits (shown rules rule old.search.tree g.before) items
          → Fits rules.is_match old.commits (shown rules rule old.search.tree m.next) (items ++ offered)
      moved_fits how new m items offered u f =
          turn_fits rules rule lawful old.search.fan old.search.tree old_sound.tree.sound old.commits g.later m.next old_stack (Ok how) m.turns items offered u (g.strives.fits items f)

      -- a turn that offers nothing
      pub got_on : (how : Turned) (new : world.State K A) (m : Moves how new) → m.next.unread ≡ g.later.unread → GotOn old new c
      got_on how new m u =
          let none : m.to.offered ≡ [] = nothing_more g.later.unread m.to.offered (sym u ∙ m.to.unread) in
          record {
            passed = g.passed;
            before = g.before;
            later = m.next;
            was_open = g.was_open;
            is = m.is;
            serial = m.to.serial ∙ g.serial;
            strives = record {
              serial = m.to.serial ∙ g.strives.serial;
              query = m.to.query ∙ g.strives.query;
              follows = m.to.follows ∙ g.strives.follows;
              opened = m.to.opened ∙ g.strives.opened;
              asked = subst (λ l. SendsItems old.commits g.later l m.next) none m.to.one ∙ g.strives.asked;
              fits = λ items f. subst (λ l. Fits rules.is_match old.commits (shown rules rule old.search.tree m.next) l) (append-nil items) (moved_fits how new m items [] (u ∙ sym (append-nil g.later.unread)) f);
            };
            work_left = omega (arith, g.work_left, turn_no_more rules rule lawful old.search.fan old.search.tree old_sound.tree.sound old.commits g.later m.next old_stack how m.turns);
            emptied = record { empty = u ∙ g.emptied.empty; place = subst (λ n. 0 < n) (sym m.to.room) g.emptied.place };
            quiet = g.quiet;
          }

      -- and lowers the work
      pub less_work : (how : Turned) (new : world.State K A) (m : Moves how new) → m.next.unread ≡ g.later.unread → work_at new c < work_at now c
      less_work how new m u =
          let here : world.cursor_at (world.with_cursor old m.next) c ≡ Some m.next = put_same (λ k. k.serial) c m.next g.before old.cursors (m.to.serial ∙ g.serial) g.was_open in
          let there : world.cursor_at (world.with_cursor old g.later) c ≡ Some g.later = put_same (λ k. k.serial) c g.later g.before old.cursors g.serial g.was_open in
          let a : work_at new c ≡ tree_work rules rule old.search.tree old.commits m.next = ap (λ s. work_at s c) m.is ∙ ap (work_if (world.with_cursor old m.next)) here in
          let b : work_at now c ≡ tree_work rules rule old.search.tree old.commits g.later = ap (λ s. work_at s c) g.is ∙ ap (work_if (world.with_cursor old g.later)) there in
          rw (a, b) (turn_less_work rules rule lawful old.search.fan old.search.tree old_sound.tree.sound old.commits g.later m.next old_stack how m.turns)

      -- a turn that offers an item, and what is taken then
      module _ (new : world.State K A) (m : Moves turned.Offered new) where
        new_open : world.cursor_at new c ≡ Some m.next
        new_open = ap (λ s. world.cursor_at s c) m.is ∙ put_same (λ k. k.serial) c m.next g.before old.cursors (m.to.serial ∙ g.serial) g.was_open

        pub new_passes : first_failing (cursor_tests new c) ≡ None
        new_passes =
            let o = open_from_tests old c g.passed in
            open_passes new c m.next new_open o.positive (subst (λ (s : world.State K A). c ≤ s.last) (sym m.is) o.given)

        pub new_filled : IsFilled new c
        new_filled k h empty =
            let s : Some k ≡ Some m.next = sym h ∙ new_open in
            let same : k ≡ m.next = cc in
            filled m.turns.item m.turns.after (sym (ap (λ (x : OpenCursor K A). x.unread) same) ∙ empty)
          where
            filled : (x : Item K) → m.next ≡ sent x g.later → m.next.unread ≡ [] → ⊥
            filled x e n = no_end g.later.unread x (sym (sent_unread x g.later) ∙ sym (ap (λ (y : OpenCursor K A). y.unread) e) ∙ n)

        module _ (taken : Item K) (last : world.State K A) (t : TakesItem new c taken last) where
          abbrev final : OpenCursor K A
          final = record m.next { unread = t.rest }

          -- the cursor that was offered the item is the one of which it is taken
          same_next : t.before ≡ m.next
          same_next = let s : Some t.before ≡ Some m.next = sym t.is_open ∙ new_open in cc

          one_offered : m.to.offered ≡ taken ∷ t.rest
          one_offered =
              let u : m.next.unread ≡ g.later.unread ++ m.to.offered = m.to.unread in
              sym (ap (λ l. l ++ m.to.offered) g.emptied.empty) ∙ sym u ∙ sym (ap (λ (x : OpenCursor K A). x.unread) same_next) ∙ t.front

          only_one : (rest : List (Item K)) → SendsItems old.commits g.later (taken ∷ rest) m.next → rest ≡ []
          only_one [] s = refl
          only_one (x ∷ rest) s = absurd s

          sends : SendsItems old.commits g.later (taken ∷ t.rest) m.next
          sends = subst (λ l. SendsItems old.commits g.later l m.next) one_offered m.to.one

          none_left : t.rest ≡ []
          none_left = only_one t.rest sends

          just : m.to.offered ≡ taken ∷ []
          just = one_offered ∙ ap (λ l. taken ∷ l) none_left

          answers : (x : Item K) → SendsItems old.commits g.later (x ∷ []) m.next → Answers rules.is_match old.commits (shown rules rule old.search.tree g.before) (Some x) (shown rules rule old.search.tree m.next)
          answers (item.Mark n) s = (sym g.strives.asked ∙ s.0, omega (arith, s.1, s.2, old_within), s.3)
          answers (item.Row row) s = s ∙ g.strives.asked
          answers (item.Inserted row) s = s ∙ g.strives.asked
          answers (item.Deleted n row) s = s ∙ g.strives.asked
          answers (item.Moved row other) s = s ∙ g.strives.asked

          pub gives : GivesNext rules.is_match old.commits (shown rules rule old.search.tree g.before) (Some taken) (shown rules rule old.search.tree m.next)
          gives = record {
            serial = m.to.serial ∙ g.strives.serial;
            query = m.to.query ∙ g.strives.query;
            follows = m.to.follows ∙ g.strives.follows;
            opened = m.to.opened ∙ g.strives.opened;
            fits = λ items f. moved_fits turned.Offered new m items (taken ∷ []) (m.to.unread ∙ ap (λ l. g.later.unread ++ l) just) f;
            answer = answers taken (subst (λ l. SendsItems old.commits g.later (taken ∷ l) m.next) none_left sends);
            less_work = omega (arith, g.work_left, offer_less rules rule lawful old.search.fan old.search.tree old_sound.tree.sound old.commits g.later m.next old_stack m.turns);
          }

          last_is : last ≡ world.with_cursor old final
          last_is =
              t.after
              ∙ ap (λ k. world.with_cursor new (record k { unread = t.rest })) same_next
              ∙ ap (λ s. world.with_cursor s final) m.is
              ∙ ap (λ ks. record old { cursors = ks }) (put_put (λ k. k.serial) m.next final old.cursors refl)

          pub gives_next : Nexts rules.is_match (store_state rules rule old) c (Some taken) (store_state rules rule last)
          gives_next = record {
            before = shown rules rule old.search.tree g.before;
            after = shown rules rule old.search.tree m.next;
            is_open = open_as rules rule old c g.before g.passed g.was_open;
            gives = gives;
            is = ap (store_state rules rule) last_is ∙ with_as rules rule old final;
          }

          pub last_quiet : IsQuiet last
          last_quiet =
              subst IsQuiet (sym last_is) (record {
                no_finder = g.quiet.no_finder;
                emptied = all_put (λ k. k.serial) IsEmptied final old.cursors
                    (record { empty = none_left; place = subst (λ n. 0 < n) (sym m.to.room) g.emptied.place }) g.quiet.emptied;
              })

    -- why a turn is refused
    same_turn : (why : Refusal) → RefusesTurn rules rule now c why → Turns rules rule old.search.tree old.commits g.later (Err why) g.later
    same_turn why r =
        let same = is_later r.cursor r.is_open in
        let here : Turns rules rule old.search.tree old.commits r.cursor (Err why) r.cursor = subst (λ (s : world.State K A). Turns rules rule s.search.tree s.commits r.cursor (Err why) r.cursor) g.is r.turn in
        subst (λ k. Turns rules rule old.search.tree old.commits k (Err why) k) same here

    now_as : store_state rules rule now ≡ with_open_cursor (store_state rules rule old) (shown rules rule old.search.tree g.later)
    now_as = ap (store_state rules rule) g.is ∙ with_as rules rule old g.later

    following : (k : OpenCursor K A) → HasScanned rules rule old.commits k → IsPastRows rules.is_match (shown rules rule old.search.tree k)
    following k h = record {
      scanned = ap is_scanning h.none_left;
      none_remaining = ap (λ p. p ++ to_find (wants rules rule k) k.opened old.search.tree k.stack) h.none_pending ∙ ap (to_find (wants rules rule k) k.opened old.search.tree) h.none_left;
    }

    -- nothing is left to do
    pub gives_nothing : RefusesTurn rules rule now c refusal.Idle → Nexts rules.is_match (store_state rules rule old) c None (store_state rules rule now)
    gives_nothing r =
        let rest = rested rules rule old.commits g.later ((same_turn refusal.Idle r).0) in
        record {
          before = shown rules rule old.search.tree g.before;
          after = shown rules rule old.search.tree g.later;
          is_open = open_as rules rule old c g.before g.passed g.was_open;
          gives = record {
            serial = g.strives.serial;
            query = g.strives.query;
            follows = g.strives.follows;
            opened = g.strives.opened;
            fits = λ items f. subst (λ l. Fits rules.is_match old.commits (shown rules rule old.search.tree g.later) l) (sym (append-nil items)) (g.strives.fits items f);
            answer = (g.strives.asked, record { past_rows = following g.later rest.0.scanned; at_end = rest.0.at_end; unasked = rest.1 });
            less_work = tt;
          };
          is = now_as;
        }

    -- memory is wanting
    pub wants_memory : ((room count : ℕ) → rule.may_refuse room count ≡ true → room ≤ count) → (why : Refusal) → (why ≡ refusal.Idle → ⊥) → RefusesTurn rules rule now c why → RefusesNext rules.is_match (store_state rules rule old) c why (store_state rules rule now)
    wants_memory full why busy r = by_cause why busy (same_turn why r)
      where
        by_cause : (why : Refusal) → (why ≡ refusal.Idle → ⊥) → Turns rules rule old.search.tree old.commits g.later (Err why) g.later → RefusesNext rules.is_match (store_state rules rule old) c why (store_state rules rule now)
        by_cause refusal.NoRoom b h =
            let l : g.later.room ≤ length g.later.unread = full g.later.room (length g.later.unread) h.refused in
            absurd (omega (arith, l, ap length g.emptied.empty, g.emptied.place))
        by_cause refusal.Idle b h = absurd (b refl)
        by_cause refusal.OutOfMemory b h = inr (
          refl,
          record {
            before = shown rules rule old.search.tree g.before;
            after = shown rules rule old.search.tree g.later;
            is_open = open_as rules rule old c g.before g.passed g.was_open;
            strives = g.strives;
            page_left = (visited rules rule old.commits g.later h.0).1;
            is = now_as;
          },
        )
        by_cause why b h = absurd h

    -- a turn is refused by its rule alone
    pub refused_turn : (why : Refusal) → (first_failing (cursor_tests now c) ≡ Some why) ⊎ ((first_failing (cursor_tests now c) ≡ None) × RefusesTurn rules rule now c why) → RefusesTurn rules rule now c why
    refused_turn why (inl e) = absurd (let s : None ≡ Some why = sym now_passes ∙ e in cc)
    refused_turn why (inr r) = r.1

  -- a cursor that is open has got on, and gave nothing; where none is open nothing has changed
  pub record IsOnWay (old now : world.State K A) (c : ℕ) : Type 0 where
    pub got_on : first_failing (cursor_tests old c) ≡ None → GotOn old now c
    pub unchanged : (why : Refusal) → first_failing (cursor_tests old c) ≡ Some why → now ≡ old

  pub first_on_way : (old : world.State K A) (c : ℕ) → IsQuiet old → IsOnWay old old c
  first_on_way old c quiet = record { got_on = at_first old c quiet; unchanged = λ why e. refl }

  pub still_on_way : (old now : world.State K A) (c : ℕ) → GotOn old now c → IsOnWay old now c
  still_on_way old now c g = record { got_on = λ e. g; unchanged = λ why e. absurd (let s : None ≡ Some why = sym g.passed ∙ e in cc) }

  module _ (old now : world.State K A) (c : ℕ) (o : IsOnWay old now c) where
    pub open_on_way : first_failing (cursor_tests now c) ≡ None → GotOn old now c
    open_on_way passed = go (first_failing (cursor_tests old c)) refl
      where
        go : (first : Option Refusal) → first_failing (cursor_tests old c) ≡ first → GotOn old now c
        go None e = o.got_on e
        go (Some why) e = absurd (let s : Some why ≡ None = sym e ∙ sym (ap (λ s. first_failing (cursor_tests s c)) (o.unchanged why e)) ∙ passed in cc)

    -- by its serial a cursor is refused at the first turn alone
    pub refused_on_way : (why : Refusal) → first_failing (cursor_tests now c) ≡ Some why → (now ≡ old) × (first_failing (cursor_tests old c) ≡ Some why)
    refused_on_way why refused = go (first_failing (cursor_tests old c)) refl
      where
        go : (first : Option Refusal) → first_failing (cursor_tests old c) ≡ first → (now ≡ old) × (first_failing (cursor_tests old c) ≡ Some why)
        go None e = absurd (let s : None ≡ Some why = sym (now_passes old now c (o.got_on e)) ∙ refused in cc)
        go (Some other) e = let same = o.unchanged other e in (same, ap (λ s. first_failing (cursor_tests s c)) (sym same) ∙ refused)

    never_idle : (b d : Bool) → first_failing ((b, refusal.NoSuchCursor) ∷ (d, refusal.CursorClosed) ∷ []) ≡ Some refusal.Idle → ⊥
    never_idle true d e = let s : refusal.NoSuchCursor ≡ refusal.Idle = cc in cc
    never_idle false true e = let s : refusal.CursorClosed ≡ refusal.Idle = cc in cc
    never_idle false false e = cc

    -- the cursor of an idle turn is open
    pub idle_on_way : (first_failing (cursor_tests now c) ≡ Some refusal.Idle) ⊎ ((first_failing (cursor_tests now c) ≡ None) × RefusesTurn rules rule now c refusal.Idle) → GotOn old now c
    idle_on_way (inl e) = absurd (never_idle _ _ e)
    idle_on_way (inr r) = open_on_way r.0

    -- what a turn is refused by otherwise
    pub record RefusedOnWay (why : Refusal) : Type 0 where
      pub quiet : IsQuiet now
      pub refuses : RefusesNext rules.is_match (store_state rules rule old) c why (store_state rules rule now)

    pub other_on_way : IsQuiet old → ((room count : ℕ) → rule.may_refuse room count ≡ true → room ≤ count) → (why : Refusal) → (why ≡ refusal.Idle → ⊥)
        → (first_failing (cursor_tests now c) ≡ Some why) ⊎ ((first_failing (cursor_tests now c) ≡ None) × RefusesTurn rules rule now c why) → RefusedOnWay why
    other_on_way quiet full why busy (inl e) =
        let r = refused_on_way why e in
        record {
          quiet = subst IsQuiet (sym r.0) quiet;
          refuses = subst (λ s. RefusesNext rules.is_match (store_state rules rule old) c why (store_state rules rule s)) (sym r.0) (refuses_next rules rule old c why r.1);
        }
    other_on_way quiet full why busy (inr r) =
        let g = open_on_way r.0 in
        record { quiet = now_quiet old now c g; refuses = wants_memory old now c g full why busy r.1 }

-- a turn by its answer
pub turned_so : {K A E : Type 0} (rules : Rules K A) (rule : Rule) (now : world.State K A) (c : ℕ) (how : Turned) (made : Result Turned Refusal) (new : world.State K A) → made ≡ Ok how → TurnsCursor E rules rule now c made new
    → TurnsCursor E rules rule now c (Ok how) new
turned_so {K} {A} {E} rules rule now c how made new is turns = subst (λ m. TurnsCursor E rules rule now c m new) is turns
