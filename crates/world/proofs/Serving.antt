-- What a step does to the open cursors.
use Rattle.std.proofs.Common.{◌≡◌, ◌≢◌, ◌+◌, ◌<◌, ◌≤◌, ℕ, suc, zero, Bool, List, [], ◌∷◌, ◌++◌, length, map, Some, None, ◌⊎◌, inl, inr, refl, sym, ap, ◌∙◌, arith, subst, Result}
use Rattle.std.specs.Prelude.{option_to_list}
use Rattle.std.proofs.lemmas.List.{append-nil}
use Rattle.mailbox.specs.Outlets.{Rule}
use Rattle.key_class.specs.Rules.{IsLawful, Rules}
use Rattle.key_class.specs.declared.refusal.Refusal.{Refusal}
use Rattle.change_list.specs.declared.write.Write.TheVariants.{Insert, Delete, Move}
use Rattle.change_list.specs.declared.write.Status.TheVariants.{Live}
use Rattle.change_list.specs.Changes.{status_of}
use Rattle.change_list.specs.declared.item.Item.{Item}
use Rattle.change_list.specs.declared.item.Item.TheVariants as item
use Rattle.change_list.specs.Cursors.{Fits}
use Rattle.page_table.specs.Trees.{Tree, page_at, after_rows}
use Rattle.page_table.specs.Keeping.{KeepsRows}
use Rattle.scan.proofs.Scans.{keeps_find, place_find, bury_find, rows_length, rows_stack, sweep_find}
use Rattle.page_table.specs.Soundness.{IsSound}
use Rattle.page_table.specs.Stacks.{IsStack}
use Rattle.row_version.specs.Entries.{Entry, marked}
use Rattle.page_table.specs.LeafChanges.{after_bury, after_move, after_sweep}
use Rattle.cursor.specs.declared.cursor.Turned.{Turned}
use Rattle.cursor.specs.OpenCursors.{OpenCursor, Turns, shown, wants}
use Rattle.cursor.specs.Sending.{SendsItems}
use Rattle.cursor.proofs.Turning.{turn_fits, same_fits, commit_fits}
use Rattle.cursor.proofs.Sending.{turn_sends}
use Rattle.collector.specs.Horizons.{IsHorizon}
use Rattle.collector.proofs.Horizons.{horizon_below}
use Rattle.world.specs.Serials.{member}
use Rattle.world.specs.declared.event.Event.{Event}
use Rattle.world.specs.declared.reply.Reply.{Reply}
use Rattle.world.specs.States.{State, cursor_at, with_pages, with_cursor, IsAtWork, IsSoundWorld}
use Rattle.world.specs.Traces.{taken_by}
use Rattle.world.specs.Promises.{Serves, SendsAtMostOne}
use Rattle.world.proofs.Serials.{member_all, member_place, member_serial, put_same, put_other}

pub same_or_not : (c d : ℕ) → (c ≡ d) ⊎ (c ≢ d)
same_or_not zero zero = inl refl
same_or_not zero (suc d) = inr (λ e. absurd (omega arith))
same_or_not (suc c) zero = inr (λ e. absurd (omega arith))
same_or_not (suc c) (suc d) = elim (same_or_not c d) [ inl e ↦ inl (ap suc e) | inr n ↦ inr (λ e. n (omega arith)) ]

pub at_work_of : {K A : Type 0} (is_cover : K → K → Bool) (old : State K A) → IsSoundWorld is_cover old → (c : ℕ) (k : OpenCursor K A) → cursor_at old c ≡ Some k → IsAtWork old.search.tree old.commits k
at_work_of is_cover old inv c k h = member_all (λ k. k.serial) (λ k. IsAtWork old.search.tree old.commits k) c old.cursors k h inv.at_work

module _ {K A E : Type 0} (rules : Rules K A) (rule : Rule) {same_key : K → K → Bool} {same_atom : A → A → Bool} (lawful : IsLawful rules same_key same_atom) (old : State K A) (inv : IsSoundWorld rules.is_cover old) where
  -- a cursor as it was, while nothing is taken of it
  pub untouched : (e : Event K A) (r : Reply K E) (new : State K A) (c : ℕ) (k : OpenCursor K A) → taken_by c (e, r) ≡ None
      → ((items : List (Item K)) → Fits rules.is_match old.commits (shown rules rule old.search.tree k) items → Fits rules.is_match new.commits (shown rules rule new.search.tree k) items) → Serves rules rule old e r new c k k
  untouched e r new c k none fits = record {
    query = refl;
    follows = refl;
    opened = refl;
    sent = [];
    mailbox = ap (λ o. option_to_list o ++ k.unread) none ∙ sym (append-nil k.unread);
    one = inl refl;
    fits = λ items f. rw (append-nil items) (fits items f);
  }

  -- a step of the tree that keeps the rows
  pub served_by_moves : (e : Event K A) (r : Reply K E) (tree : Tree K) → KeepsRows old.search.tree tree → (c : ℕ) (before after : OpenCursor K A) → taken_by c (e, r) ≡ None
      → cursor_at old c ≡ Some before → cursor_at (with_pages old tree) c ≡ Some after → Serves rules rule old e r (with_pages old tree) c before after
  served_by_moves e r tree kept c before after none a b =
      let same : before ≡ after = let s : Some before ≡ Some after = sym a ∙ b in cc in
      let h = at_work_of rules.is_cover old inv c before a in
      subst (λ k. Serves rules rule old e r (with_pages old tree) c before k) same
      (untouched e r (with_pages old tree) c before none (λ items f. same_fits rules rule lawful old.search.tree tree old.commits before items (keeps_find (wants rules rule before) before.opened old.search.tree before.stack tree kept h.stack) f))

  -- a commit whose row goes to a leaf
  pub served_by_place : (e : Event K A) (r : Reply K E) (p : ℕ) → p < length old.search.tree.pages → (key : K) (tag : ℕ) (new : State K A)
      → new ≡ record old {
        search = record old.search { tree = after_rows old.search.tree p ((page_at old.search.tree p).rows ++ (record { key = key; row = length old.commits + 1; tag = tag; died = None }) ∷ []) };
        commits = old.commits ++ Insert key tag ∷ [];
      }
      → (c : ℕ) (before after : OpenCursor K A) → taken_by c (e, r) ≡ None → cursor_at old c ≡ Some before → cursor_at new c ≡ Some after → Serves rules rule old e r new c before after
  served_by_place e r p l key tag new made c before after none a b =
      let there : cursor_at new c ≡ cursor_at old c = ap (λ s. cursor_at s c) made in
      let same : before ≡ after = let s : Some before ≡ Some after = sym a ∙ sym there ∙ b in cc in
      let h = at_work_of rules.is_cover old inv c before a in
      let tree : Tree K = after_rows old.search.tree p ((page_at old.search.tree p).rows ++ (record { key = key; row = length old.commits + 1; tag = tag; died = None }) ∷ []) in
      subst (λ k. Serves rules rule old e r new c before k) same
      (untouched e r new c before none (λ items f.
      rw made (commit_fits rules rule tree old.commits (Insert key tag) before items
      (same_fits rules rule lawful old.search.tree tree old.commits before items
      (place_find (wants rules rule before) before.opened old.search.tree before.stack h.stack rules.is_cover old.search.fan inv.tree.sound p l (record { key = key; row = length old.commits + 1; tag = tag; died = None }) (omega (arith, h.from_opening, h.within))) f))))

  -- a commit that deletes a row where it stands
  pub served_by_bury : (e : Event K A) (r : Reply K E) (p : ℕ) → p < length old.search.tree.pages → (row : ℕ) → status_of old.commits row ≡ Live → (new : State K A)
      → new.search.tree ≡ after_bury old.search.tree p row (length old.commits + 1) → new.commits ≡ old.commits ++ Delete row ∷ [] → new.cursors ≡ old.cursors
      → (c : ℕ) (before after : OpenCursor K A) → taken_by c (e, r) ≡ None → cursor_at old c ≡ Some before → cursor_at new c ≡ Some after → Serves rules rule old e r new c before after
  served_by_bury e r p l row live new tree commits cursors c before after none a b =
      let there : cursor_at new c ≡ cursor_at old c = ap (λ ks. member (λ k. k.serial) c ks) cursors in
      let same : before ≡ after = let s : Some before ≡ Some after = sym a ∙ sym there ∙ b in cc in
      let h = at_work_of rules.is_cover old inv c before a in
      subst (λ k. Serves rules rule old e r new c before k) same
      (untouched e r new c before none (λ items f.
      rw (tree, commits) (commit_fits rules rule (after_bury old.search.tree p row (length old.commits + 1)) old.commits (Delete row) before items
      (same_fits rules rule lawful old.search.tree (after_bury old.search.tree p row (length old.commits + 1)) old.commits before items
      (bury_find (wants rules rule before) before.opened old.search.tree before.stack h.stack rules.is_cover old.search.fan inv.tree.sound p l old.commits inv.agrees row (length old.commits + 1) (omega (arith, h.from_opening, h.within)) live) f))))

  -- a commit that moves a row from where it stands to a leaf
  pub served_by_move : (e : Event K A) (r : Reply K E) (p : ℕ) → p < length old.search.tree.pages → (row leaf : ℕ) (key : K) → status_of old.commits row ≡ Live → leaf < length old.search.tree.pages
      → IsSound rules.is_cover old.search.fan (after_bury old.search.tree p row (length old.commits + 1)) → (entry : Entry K) → entry.row ≡ length old.commits + 1 → (new : State K A)
      → new.search.tree ≡ after_move old.search.tree p row (length old.commits + 1) leaf entry → new.commits ≡ old.commits ++ Move row key ∷ [] → new.cursors ≡ old.cursors
      → (c : ℕ) (before after : OpenCursor K A) → taken_by c (e, r) ≡ None → cursor_at old c ≡ Some before → cursor_at new c ≡ Some after → Serves rules rule old e r new c before after
  served_by_move e r p l row leaf key live k sound entry number new tree commits cursors c before after none a b =
      let there : cursor_at new c ≡ cursor_at old c = ap (λ ks. member (λ k. k.serial) c ks) cursors in
      let same : before ≡ after = let s : Some before ≡ Some after = sym a ∙ sym there ∙ b in cc in
      let h = at_work_of rules.is_cover old inv c before a in
      let dead : Tree K = after_bury old.search.tree p row (length old.commits + 1) in
      let length_same : length dead.pages ≡ length old.search.tree.pages = rows_length old.search.tree p (map (marked row (length old.commits + 1)) (page_at old.search.tree p).rows) in
      let late : before.opened < entry.row = omega (arith, h.from_opening, h.within, number) in
      let stack : IsStack dead before.stack = rows_stack old.search.tree p (map (marked row (length old.commits + 1)) (page_at old.search.tree p).rows) before.stack h.stack in
      subst (λ k. Serves rules rule old e r new c before k) same
      (untouched e r new c before none (λ items f.
      rw (tree, commits) (commit_fits rules rule (after_move old.search.tree p row (length old.commits + 1) leaf entry) old.commits (Move row key) before items
      (same_fits rules rule lawful dead (after_move old.search.tree p row (length old.commits + 1) leaf entry) old.commits before items
      (place_find (wants rules rule before) before.opened dead before.stack stack rules.is_cover old.search.fan sound leaf (omega (arith, k, length_same)) entry late)
      (same_fits rules rule lawful old.search.tree dead old.commits before items
      (bury_find (wants rules rule before) before.opened old.search.tree before.stack h.stack rules.is_cover old.search.fan inv.tree.sound p l old.commits inv.agrees row (length old.commits + 1) (omega (arith, h.from_opening, h.within)) live) f)))))

  -- a sweep of what no cursor has still to find
  pub served_by_sweep : (e : Event K A) (r : Reply K E) (p : ℕ) → p < length old.search.tree.pages → (horizon : ℕ) → IsHorizon (length old.commits) old.cursors horizon → (new : State K A)
      → new ≡ with_pages old (after_sweep old.search.tree p horizon)
      → (c : ℕ) (before after : OpenCursor K A) → taken_by c (e, r) ≡ None → cursor_at old c ≡ Some before → cursor_at new c ≡ Some after → Serves rules rule old e r new c before after
  served_by_sweep e r p l horizon is new made c before after none a b =
      let there : cursor_at new c ≡ cursor_at old c = ap (λ s. cursor_at s c) made in
      let same : before ≡ after = let s : Some before ≡ Some after = sym a ∙ sym there ∙ b in cc in
      let h = at_work_of rules.is_cover old inv c before a in
      let at = member_place (λ k. k.serial) c old.cursors before a in
      subst (λ k. Serves rules rule old e r new c before k) same
      (untouched e r new c before none (λ items f.
      rw made (same_fits rules rule lawful old.search.tree (after_sweep old.search.tree p horizon) old.commits before items
      (sweep_find (wants rules rule before) before.opened old.search.tree before.stack h.stack rules.is_cover old.search.fan inv.tree.sound p l horizon (horizon_below (length old.commits) old.cursors horizon at.0 before is at.1)) f)))

  -- a step that writes back one cursor d
  pub served_by_put : (e : Event K A) (r : Reply K E) (d : ℕ) (was later : OpenCursor K A) (new : State K A) → new ≡ with_cursor old later → cursor_at old d ≡ Some was → later.serial ≡ was.serial
      → ((c : ℕ) → c ≢ d → taken_by c (e, r) ≡ None) → Serves rules rule old e r new d was later → (c : ℕ) (before after : OpenCursor K A) → cursor_at old c ≡ Some before → cursor_at new c ≡ Some after → Serves rules rule old e r new c before after
  served_by_put e r d was later new made is_open same others here c before after a b =
      let number : later.serial ≡ d = same ∙ member_serial (λ k. k.serial) d old.cursors was is_open in
      elim (same_or_not c d) [
        | inl eq ↦
            let put : cursor_at new d ≡ Some later = ap (λ s. cursor_at s d) made ∙ put_same (λ k. k.serial) d later was old.cursors number is_open in
            let x : Some was ≡ Some before = sym is_open ∙ ap (λ n. cursor_at old n) (sym eq) ∙ a in
            let y : Some later ≡ Some after = sym put ∙ ap (λ n. cursor_at new n) (sym eq) ∙ b in
            let f : was ≡ before = cc in
            let g : later ≡ after = cc in
            subst (λ n. Serves rules rule old e r new n before after) (sym eq) (subst (λ k. Serves rules rule old e r new d k after) f (subst (λ k. Serves rules rule old e r new d was k) g here))
        | inr apart ↦
            let put : cursor_at new c ≡ cursor_at old c = ap (λ s. cursor_at s c) made ∙ put_other (λ k. k.serial) c later old.cursors (λ eq. apart (eq ∙ number)) in
            let s : Some before ≡ Some after = sym a ∙ sym put ∙ b in
            let f : before ≡ after = cc in
            subst (λ k. Serves rules rule old e r new c before k) f
            (untouched e r new c before (others c apart) (λ items f. rw made f))
      ]

  -- a turn
  sends_as : (e : Event K A) (r : Reply K E) (d : ℕ) (was later : OpenCursor K A) (sent : List (Item K)) → was.position ≤ length old.commits → SendsItems old.commits was sent later → SendsAtMostOne rules rule old e r d was sent later
  sends_as e r d was later [] within h = inl h
  sends_as e r d was later (item.Row row ∷ []) within h = inl h
  sends_as e r d was later (item.Inserted row ∷ []) within h = inl h
  sends_as e r d was later (item.Deleted n row ∷ []) within h = inl h
  sends_as e r d was later (item.Moved row other ∷ []) within h = inl h
  sends_as e r d was later (item.Mark n ∷ []) within h = (h.0, omega (arith, h.1, h.2, within), h.3)
  sends_as e r d was later (x ∷ y ∷ items) within h = absurd h

  pub turn_serves : (e : Event K A) (r : Reply K E) (d : ℕ) (was later : OpenCursor K A) (how : Result Turned Refusal) (new : State K A) → taken_by d (e, r) ≡ None → new ≡ with_cursor old later → cursor_at old d ≡ Some was
      → Turns rules rule old.search.tree old.commits was how later → Serves rules rule old e r new d was later
  turn_serves e r d was later how new none made is_open turn =
      let h = at_work_of rules.is_cover old inv d was is_open in
      let t = turn_sends rules rule old.commits old.search.tree was later how turn in
      record {
        query = t.query;
        follows = t.follows;
        opened = t.opened;
        sent = t.offered;
        mailbox = ap (λ o. option_to_list o ++ later.unread) none ∙ t.unread;
        one = sends_as e r d was later t.offered h.within t.one;
        fits = λ items f. rw made (turn_fits rules rule lawful old.search.fan old.search.tree inv.tree.sound old.commits was later h.stack how turn items t.offered t.unread f);
      }
