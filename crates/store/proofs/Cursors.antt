-- The cursor with a serial, after it was put back changed, after another was, and after a new one came.
use Rattle.std.proofs.Common.{◌≡◌, ◌≢◌, ◌<◌, ℕ, Bool, true, false, cond, ◌||◌, List, [], ◌∷◌, ◌++◌, Option, Some, None, Ok, Err, refl, sym, ap, ◌∙◌, arith, subst}
use Rattle.std.specs.Prelude.{nat_eq, nat_lt, if◌then◌else◌}
use Rattle.change_list.specs.declared.item.Item.{Item}
use Rattle.change_list.specs.Cursors.{CursorState, work}
use Rattle.key_class.specs.declared.refusal.Refusal.TheVariants as refusal
use Rattle.store.specs.States.{StoreState, cursor_of, open_or_closed, find_cursor, put_cursor, with_open_cursor, work_of, work_at, Nexts, Gave}
use Rattle.store.specs.Worlds.{HasCursor}

module _ {K A : Type 0} where
  pub found_serial : (c : ℕ) (ks : List (CursorState K A)) (k : CursorState K A) → find_cursor c ks ≡ Some k → nat_eq k.serial c ≡ true
  found_serial c [] k h = absurd (cc)
  found_serial c (x ∷ ks) k h = go (λ e. found_serial c ks k e) (nat_eq x.serial c) refl h
    where
      go : (find_cursor c ks ≡ Some k → nat_eq k.serial c ≡ true) → (b : Bool) → nat_eq x.serial c ≡ b → find_cursor c (x ∷ ks) ≡ Some k → nat_eq k.serial c ≡ true
      go r true e h = let f : Some x ≡ Some k = rw e at h in let s : x ≡ k = cc in subst (λ (y : CursorState K A). nat_eq y.serial c ≡ true) s e
      go r false e h = r (rw e at h)

  pub found_replaced : (c : ℕ) (ks : List (CursorState K A)) (k after : CursorState K A) → after.serial ≡ c → find_cursor c ks ≡ Some k → find_cursor c (put_cursor after ks) ≡ Some after
  found_replaced c [] k after s h = absurd (cc)
  found_replaced c (x ∷ ks) k after s h = go (λ e. found_replaced c ks k after s e) (nat_eq x.serial c) refl h
    where
      same : nat_eq after.serial c ≡ true
      same = search (arith, s)

      go : (find_cursor c ks ≡ Some k → find_cursor c (put_cursor after ks) ≡ Some after) → (b : Bool) → nat_eq x.serial c ≡ b → find_cursor c (x ∷ ks) ≡ Some k → find_cursor c (put_cursor after (x ∷ ks)) ≡ Some after
      go r true e h = let q : nat_eq x.serial after.serial ≡ true = subst (λ n. nat_eq x.serial n ≡ true) (sym s) e in rw (q, same) refl
      go r false e h = let q : nat_eq x.serial after.serial ≡ false = subst (λ n. nat_eq x.serial n ≡ false) (sym s) e in rw (q, e) (r (rw e at h))

  -- a cursor put back as it was changes nothing
  pub replaced_same : (c : ℕ) (ks : List (CursorState K A)) (k : CursorState K A) → k.serial ≡ c → find_cursor c ks ≡ Some k → put_cursor k ks ≡ ks
  replaced_same c [] k s h = refl
  replaced_same c (x ∷ ks) k s h = go (λ e. replaced_same c ks k s e) (nat_eq x.serial c) refl h
    where
      go : (find_cursor c ks ≡ Some k → put_cursor k ks ≡ ks) → (b : Bool) → nat_eq x.serial c ≡ b → find_cursor c (x ∷ ks) ≡ Some k → put_cursor k (x ∷ ks) ≡ x ∷ ks
      go r true e h =
          let q : nat_eq x.serial k.serial ≡ true = subst (λ n. nat_eq x.serial n ≡ true) (sym s) e in
          let f : Some x ≡ Some k = rw e at h in
          let p : x ≡ k = cc in
          rw q (ap (λ y. y ∷ ks) (sym p))
      go r false e h = let q : nat_eq x.serial k.serial ≡ false = subst (λ n. nat_eq x.serial n ≡ false) (sym s) e in rw q (ap (λ l. x ∷ l) (r (rw e at h)))

  -- another serial finds what it found
  pub found_other : (c : ℕ) (ks : List (CursorState K A)) (after : CursorState K A) → nat_eq after.serial c ≡ false → find_cursor c (put_cursor after ks) ≡ find_cursor c ks
  found_other c [] after s = refl
  found_other c (x ∷ ks) after s = go (found_other c ks after s) (nat_eq x.serial after.serial) refl
    where
      go : find_cursor c (put_cursor after ks) ≡ find_cursor c ks → (b : Bool) → nat_eq x.serial after.serial ≡ b → find_cursor c (put_cursor after (x ∷ ks)) ≡ find_cursor c (x ∷ ks)
      go r true e =
          let p : x.serial ≡ after.serial = search (arith, e) in
          let q : nat_eq x.serial c ≡ false = subst (λ n. nat_eq n c ≡ false) (sym p) s in
          rw (e, s, q) refl
      go r false e = rw e (ap (λ o. cond (nat_eq x.serial c) (Some x) o) r)

  ok_found : (o : Option (CursorState K A)) (k : CursorState K A) → open_or_closed o ≡ Ok k → o ≡ Some k
  ok_found (Some x) k h = cc
  ok_found None k h = absurd (cc)

  -- an open cursor is found among the open ones, under a serial that was given
  pub record IsFoundAs (state : StoreState K A) (c : ℕ) (k : CursorState K A) : Type 0 where
    pub given : (nat_eq c 0 || nat_lt state.last c) ≡ false
    pub found : find_cursor c state.cursors ≡ Some k
    pub serial : k.serial ≡ c

  pub found_as : (state : StoreState K A) (c : ℕ) (k : CursorState K A) → cursor_of state c ≡ Ok k → IsFoundAs state c k
  found_as state c k h = go (nat_eq c 0 || nat_lt state.last c) refl h
    where
      go : (b : Bool) → (nat_eq c 0 || nat_lt state.last c) ≡ b → (if b then Err refusal.NoSuchCursor else open_or_closed (find_cursor c state.cursors)) ≡ Ok k → IsFoundAs state c k
      go true e h = absurd (cc)
      go false e h =
          let f = ok_found (find_cursor c state.cursors) k h in
          record { given = e; found = f; serial = search (arith, found_serial c state.cursors k f) }

  pub cursor_with : (state : StoreState K A) (c : ℕ) (before after : CursorState K A) → cursor_of state c ≡ Ok before → after.serial ≡ before.serial → cursor_of (with_open_cursor state after) c ≡ Ok after
  cursor_with state c before after h s =
      let f = found_as state c before h in
      rw (f.given, found_replaced c state.cursors before after (s ∙ f.serial) f.found) refl

  pub cursor_with_other : (state : StoreState K A) (c d : ℕ) (before after : CursorState K A) → cursor_of state c ≡ Ok before → after.serial ≡ before.serial → c ≢ d
      → cursor_of (with_open_cursor state after) d ≡ cursor_of state d
  cursor_with_other state c d before after h s n =
      let f = found_as state c before h in
      let q : nat_eq after.serial d ≡ false = search (arith, s, f.serial, n) in
      rw (found_other d state.cursors after q) refl

  pub with_same : (state : StoreState K A) (c : ℕ) (k : CursorState K A) → cursor_of state c ≡ Ok k → state ≡ with_open_cursor state k
  with_same state c k h =
      let f = found_as state c k h in
      ap (λ (ks : List (CursorState K A)). let s : StoreState K A = record state { cursors = ks } in s) (sym (replaced_same c state.cursors k f.serial f.found))

  module _ (matching : A → K → Bool) where
    -- a given item leaves less work
    pub nexts_less : (old new : StoreState K A) (c : ℕ) (item : Item K) → Nexts matching old c (Some item) new → work_at new c < work_at old c
    nexts_less old new c item n =
        let w = cursor_with old c n.before n.after n.is_open n.gives.serial in
        let a : work_at new c ≡ work old.commits n.after = ap (λ s. work_at s c) n.is ∙ ap (work_of old.commits) w in
        let b : work_at old c ≡ work old.commits n.before = ap (work_of old.commits) n.is_open in
        rw (a, b) n.gives.less_work

    -- and its cursor open
    pub nexts_open : (old new : StoreState K A) (c : ℕ) (item : Item K) → Nexts matching old c (Some item) new → HasCursor new c
    nexts_open old new c item n = (n.after, ap (λ s. cursor_of s c) n.is ∙ cursor_with old c n.before n.after n.is_open n.gives.serial)

    pub gave_push : (old mid new : StoreState K A) (c : ℕ) (items : List (Item K)) (item : Item K) → Gave matching old c items mid → Nexts matching mid c (Some item) new → Gave matching old c (items ++ item ∷ []) new
    gave_push old mid new c [] item g n = (new, subst (λ s. Nexts matching s c (Some item) new) g n, refl)
    gave_push old mid new c (x ∷ items) item g n = (g.0, g.1, gave_push g.0 mid new c items item g.2 n)
