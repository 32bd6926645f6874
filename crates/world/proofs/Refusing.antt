-- Why events are refused.
use Rattle.std.proofs.Common.{◌≡◌, ◌<◌, ◌≤◌, ℕ, Bool, true, false, ◌||◌, List, [], ◌∷◌, ◌++◌, length, Option, Some, None, ◌⊎◌, inl, inr, refl, sym, ◌∙◌, arith}
use Rattle.std.specs.Prelude.{nat_eq, nat_lt, nat_le, is_none}
use Rattle.key_class.specs.Queries.{query_of, depth_of}
use Rattle.key_class.specs.declared.pred.Pred.{Pred}
use Rattle.key_class.specs.declared.refusal.Refusal.{Refusal}
use Rattle.key_class.specs.declared.refusal.Refusal.TheVariants as refusal
use Rattle.split.specs.Tests.{first_failing, IsRefusedBy}
use Rattle.cursor.specs.OpenCursors.{OpenCursor}
use Rattle.world.specs.States.{State, cursor_at}
use Rattle.world.specs.Steps.{cursor_tests, open_tests, follow_tests, is_bad_opening, is_full_of_cursors}

-- a longer table of tests
pub failing_first : (tests more : List (Bool × Refusal)) (why : Refusal) → first_failing tests ≡ Some why → first_failing (tests ++ more) ≡ Some why
failing_first [] more why h = absurd (cc)
failing_first ((true, x) ∷ tests) more why h = h
failing_first ((false, x) ∷ tests) more why h = failing_first tests more why h

pub failing_later : (tests more : List (Bool × Refusal)) → first_failing tests ≡ None → first_failing (tests ++ more) ≡ first_failing more
failing_later [] more h = refl
failing_later ((true, x) ∷ tests) more h = absurd (cc)
failing_later ((false, x) ∷ tests) more h = failing_later tests more h

-- where all tests of a longer table pass, those before pass
pub passed_first : (tests more : List (Bool × Refusal)) → first_failing (tests ++ more) ≡ None → first_failing tests ≡ None
passed_first [] more h = refl
passed_first ((true, x) ∷ tests) more h = absurd (cc)
passed_first ((false, x) ∷ tests) more h = passed_first tests more h

-- a table whose tests passed refuses for want of memory alone
pub only_memory : (tests : List (Bool × Refusal)) (why : Refusal) → first_failing tests ≡ None → IsRefusedBy tests why → why ≡ refusal.OutOfMemory
only_memory tests why h (inl e) = absurd (let a : None ≡ Some why = sym h ∙ e in cc)
only_memory tests why h (inr p) = p.1

pub fails_at : (test : Bool) (why : Refusal) (more : List (Bool × Refusal)) → test ≡ true → first_failing ((test, why) ∷ more) ≡ Some why
fails_at true why more h = refl
fails_at false why more h = absurd (cc)

pub passes_at : (test : Bool) (why : Refusal) (more : List (Bool × Refusal)) → test ≡ false → first_failing ((test, why) ∷ more) ≡ first_failing more
passes_at false why more h = refl
passes_at true why more h = absurd (cc)

pub passed_at : (test : Bool) (why : Refusal) (more : List (Bool × Refusal)) → first_failing ((test, why) ∷ more) ≡ None → (test ≡ false) × (first_failing more ≡ None)
passed_at false why more h = (refl, h)
passed_at true why more h = absurd (cc)

module _ {K A : Type 0} (s : State K A) (c : ℕ) where
  -- the cursor of a serial that passes the tests
  pub record IsOpenAt : Type 0 where
    pub cursor : OpenCursor K A
    pub is_open : cursor_at s c ≡ Some cursor
    pub positive : 0 < c
    pub given : c ≤ s.last

  pub open_from_tests : first_failing (cursor_tests s c) ≡ None → IsOpenAt
  open_from_tests h =
      let first = passed_at (nat_eq c 0 || nat_lt s.last c) refusal.NoSuchCursor ((is_none (cursor_at s c), refusal.CursorClosed) ∷ []) h in
      let second = passed_at (is_none (cursor_at s c)) refusal.CursorClosed [] first.1 in
      let given : (0 < c) × (c ≤ s.last) = (search (arith, first.0), search (arith, first.0)) in
      go (cursor_at s c) refl second.0 given
    where
      go : (o : Option (OpenCursor K A)) → cursor_at s c ≡ o → is_none o ≡ false → (0 < c) × (c ≤ s.last) → IsOpenAt
      go (Some k) e f given = record { cursor = k; is_open = e; positive = given.0; given = given.1 }
      go None e f given = absurd (cc)

  pub open_passes : (k : OpenCursor K A) → cursor_at s c ≡ Some k → 0 < c → c ≤ s.last → first_failing (cursor_tests s c) ≡ None
  open_passes k e p l =
      let given : (nat_eq c 0 || nat_lt s.last c) ≡ false = search (arith, p, l) in
      rw (given, e) refl

  pub closed_fails : 0 < c → c ≤ s.last → cursor_at s c ≡ None → first_failing (cursor_tests s c) ≡ Some refusal.CursorClosed
  closed_fails p l e =
      let given : (nat_eq c 0 || nat_lt s.last c) ≡ false = search (arith, p, l) in
      rw (given, e) refl

-- the tests of an opening
pub open_full : {K A : Type 0} (s : State K A) (query : Pred A) (room : ℕ) → (room ≡ 0 → ⊥) → room ≤ 4096 → depth_of (query_of query) ≤ 32 → (256 ≤ length s.cursors) ⊎ (4294967295 ≤ s.last)
    → first_failing (open_tests s query room) ≡ Some refusal.CursorsFull
open_full s query room positive small low full =
    let first : (nat_eq room 0 || (nat_lt 4096 room || nat_lt 32 (depth_of (query_of query)))) ≡ false = search (arith, positive, small, low) in
    let second : (nat_le 256 (length s.cursors) || nat_le 4294967295 s.last) ≡ true = search (arith, full) in
    rw (first, second) refl

pub open_passed : {K A : Type 0} (s : State K A) (query : Pred A) (room : ℕ) → (room ≡ 0 → ⊥) → room ≤ 4096 → depth_of (query_of query) ≤ 32 → length s.cursors < 256 → s.last < 4294967295
    → first_failing (open_tests s query room) ≡ None
open_passed s query room positive small low few given =
    let first : (nat_eq room 0 || (nat_lt 4096 room || nat_lt 32 (depth_of (query_of query)))) ≡ false = search (arith, positive, small, low) in
    let second : (nat_le 256 (length s.cursors) || nat_le 4294967295 s.last) ≡ false = search (arith, few, given) in
    rw (first, second) refl

-- where the tests of an opening pass there is a place and a serial
pub full_leaves_room : {K A : Type 0} (s : State K A) → is_full_of_cursors s ≡ false → (length s.cursors < 256) × (s.last < 4294967295)
full_leaves_room s h = (search (arith, h), search (arith, h))

pub open_leaves_room : {K A : Type 0} (s : State K A) (query : Pred A) (room : ℕ) → first_failing (open_tests s query room) ≡ None → (length s.cursors < 256) × (s.last < 4294967295)
open_leaves_room s query room h =
    let first = passed_at (is_bad_opening query room) refusal.BadConfig ((is_full_of_cursors s, refusal.CursorsFull) ∷ []) h in
    full_leaves_room s (passed_at (is_full_of_cursors s) refusal.CursorsFull [] first.1).0

-- a commit that is followed is one that there is
pub follow_leaves_room : {K A : Type 0} (s : State K A) (query : Pred A) (room n : ℕ) → first_failing (follow_tests s query room n) ≡ None → (n ≤ length s.commits) × (length s.cursors < 256) × (s.last < 4294967295)
follow_leaves_room s query room n h =
    let first = passed_at (is_bad_opening query room) refusal.BadConfig ((nat_lt (length s.commits) n, refusal.FromFuture) ∷ (is_full_of_cursors s, refusal.CursorsFull) ∷ []) h in
    let second = passed_at (nat_lt (length s.commits) n) refusal.FromFuture ((is_full_of_cursors s, refusal.CursorsFull) ∷ []) first.1 in
    let room = full_leaves_room s (passed_at (is_full_of_cursors s) refusal.CursorsFull [] second.1).0 in
    (search (arith, second.0), room.0, room.1)
