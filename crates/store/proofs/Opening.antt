-- A cursor that is opened, one that is asked for a mark, and one that is closed.
use Rattle.std.proofs.Common.{◌≡◌, ◌+◌, ◌≤◌, ℕ, Bool, true, false, List, [], ◌∷◌, ◌++◌, length, map, Some, None, Ok, refl, sym, ap, ◌∙◌, arith, subst}
use Rattle.key_class.specs.Rules.{Rules}
use Rattle.mailbox.specs.Outlets.{Rule}
use Rattle.change_list.proofs.Lists.{slice_get_end}
use Rattle.std.specs.Prelude.{nat_eq, slice_get}
use Rattle.std.proofs.lemmas.List.{length-map, map-append}
use Rattle.key_class.specs.Queries.{query_of}
use Rattle.key_class.specs.declared.pred.Pred.{Pred}
use Rattle.change_list.specs.Cursors.{CursorState, Fits}
use Rattle.cursor.specs.OpenCursors.{OpenCursor, shown}
use Rattle.split.specs.Tests.{first_failing}
use Rattle.world.proofs.Refusing.{open_from_tests, open_passes}
use Rattle.world.proofs.Serials.{member_at, all_put, all_without, member_all}
use Rattle.world.specs.Serials.{member, without, Rise}
use Rattle.world.specs.States as world
use Rattle.page_table.specs.Stacks.{StackItem}
use Rattle.world.specs.Steps.{Opens, Asks, begun_cursor, cursor_tests}
use Rattle.store.specs.States.{StoreState, IsOpened, ChangesCursor, Closes, with_asking}
use Rattle.store.specs.Worlds.{store_state, IsQuiet, IsEmptied}
use Rattle.store.proofs.Worlds.{open_as, with_as, without_shown}

module _ {K A : Type 0} (rules : Rules K A) (rule : Rule) (old new : world.State K A) where
  module _ (sound : world.IsSoundWorld rules.is_cover new) (query : Pred A) (follows : Bool) (n : ℕ) (stack : List StackItem) (c : ℕ) (o : Opens old (begun_cursor old query 1 follows n stack) c new)
      (opening : (k : OpenCursor K A) → world.cursor_at new c ≡ Some k → Fits rules.is_match new.commits (shown rules rule new.search.tree k) []) where
    abbrev opened : OpenCursor K A
    opened = begun_cursor old query 1 follows n stack

    new_open : world.cursor_at new c ≡ Some opened
    new_open = member_at (λ k. k.serial) c 0 new.last (length old.cursors) new.cursors opened sound.serials
        (ap (λ (s : world.State K A). slice_get s.cursors (length old.cursors)) o.after ∙ slice_get_end old.cursors opened) (sym o.serial)

    new_passes : first_failing (cursor_tests new c) ≡ None
    new_passes = open_passes new c opened new_open (omega (arith, o.serial)) (subst (λ (s : world.State K A). c ≤ s.last) (sym o.after) (omega (arith, o.serial)))

    abbrev appended : ℕ → List (CursorState K A) → StoreState K A
    appended last cursors = record (store_state rules rule old) { last = last; cursors = cursors }

    pub is_opened : IsOpened rules.is_match (store_state rules rule old) (query_of query) follows n c (store_state rules rule new)
    is_opened = record {
      serial = o.serial;
      cursor = shown rules rule old.search.tree opened;
      after =
          ap (store_state rules rule) o.after
          ∙ ap (appended (old.last + 1)) (map-append (shown rules rule old.search.tree) old.cursors (opened ∷ []))
          ∙ ap (λ n. appended n (map (shown rules rule old.search.tree) old.cursors ++ shown rules rule old.search.tree opened ∷ [])) (sym o.serial);
      number = sym o.serial;
      is_open = open_as rules rule new c opened new_passes new_open ∙ ap (λ (s : world.State K A). Ok (shown rules rule s.search.tree opened)) o.after;
      query = refl;
      follows_is = refl;
      opened_is = refl;
      unasked = refl;
      fits = subst (λ (s : world.State K A). Fits rules.is_match s.commits (shown rules rule s.search.tree opened) []) o.after (opening opened new_open);
    }

  module _ (c : ℕ) (passed : first_failing (cursor_tests old c) ≡ None) where
    pub asks : Asks old c new → ChangesCursor with_asking (store_state rules rule old) c (store_state rules rule new)
    asks a = record {
      before = shown rules rule old.search.tree a.before;
      is_open = open_as rules rule old c a.before passed a.is_open;
      is = ap (store_state rules rule) a.after ∙ with_as rules rule old (record a.before { asked = true });
    }

    pub asked_quiet : IsQuiet old → Asks old c new → IsQuiet new
    asked_quiet quiet a =
        let k = member_all (λ k. k.serial) IsEmptied c old.cursors a.before a.is_open quiet.emptied in
        subst IsQuiet (sym a.after) (record {
          no_finder = quiet.no_finder;
          emptied = all_put (λ k. k.serial) IsEmptied (record a.before { asked = true }) old.cursors (record { empty = k.empty; place = k.place }) quiet.emptied;
        })

    module _ (is : new ≡ record old { cursors = without (λ k. k.serial) c old.cursors }) where
      pub closed_quiet : IsQuiet old → IsQuiet new
      closed_quiet quiet =
          subst IsQuiet (sym is) (record { no_finder = quiet.no_finder; emptied = all_without (λ k. k.serial) IsEmptied c old.cursors quiet.emptied })

      pub closes : world.IsSoundWorld rules.is_cover old → Closes (store_state rules rule old) c (store_state rules rule new)
      closes sound =
          let o = open_from_tests old c passed in
          record {
            cursor = shown rules rule old.search.tree o.cursor;
            was_open = open_as rules rule old c o.cursor passed o.is_open;
            one_less =
                let m : length (map (shown rules rule new.search.tree) new.cursors) ≡ length new.cursors = length-map new.cursors (shown rules rule new.search.tree) in
                let a : length (map (shown rules rule new.search.tree) new.cursors) ≡ length (without (λ k. k.serial) c old.cursors) = m ∙ ap (λ (s : world.State K A). length s.cursors) is in
                let b : length (map (shown rules rule old.search.tree) old.cursors) ≡ length old.cursors = length-map old.cursors (shown rules rule old.search.tree) in
                omega (arith, a, b, one_less 0 old.cursors o.cursor sound.serials o.is_open);
            is =
                let kept : List (CursorState K A) → StoreState K A = λ ks. record (store_state rules rule old) { cursors = ks } in
                ap (store_state rules rule) is ∙ ap kept (without_shown rules rule old.search.tree c old.cursors);
          }
        where
          all_others : (above : ℕ) (ks : List (OpenCursor K A)) → c ≤ above → Rise (λ k. k.serial) above old.last ks → without (λ k. k.serial) c ks ≡ ks
          all_others above [] l r = refl
          all_others above (k ∷ ks) l r =
              let d : nat_eq k.serial c ≡ false = search (arith, r.0, l) in
              rw d (ap (λ x. k ∷ x) (all_others k.serial ks (omega (arith, r.0, l)) r.1))

          one_less : (above : ℕ) (ks : List (OpenCursor K A)) (k : OpenCursor K A) → Rise (λ k. k.serial) above old.last ks → member (λ k. k.serial) c ks ≡ Some k → length (without (λ k. k.serial) c ks) + 1 ≡ length ks
          one_less above [] k r f = absurd (cc)
          one_less above (x ∷ ks) k r f = go (nat_eq x.serial c) refl f (λ e. one_less x.serial ks k r.1 e)
            where
              go : (b : Bool) → nat_eq x.serial c ≡ b → member (λ k. k.serial) c (x ∷ ks) ≡ Some k → (member (λ k. k.serial) c ks ≡ Some k → length (without (λ k. k.serial) c ks) + 1 ≡ length ks)
                  → length (without (λ k. k.serial) c (x ∷ ks)) + 1 ≡ length (x ∷ ks)
              go true e f s =
                  let n : x.serial ≡ c = search (arith, e) in
                  let o : length (without (λ k. k.serial) c ks) ≡ length ks = ap length (all_others x.serial ks (omega (arith, n)) r.1) in
                  rw e (omega (arith, o))
              go false e f s = rw e (omega (arith, s (rw e at f)))
