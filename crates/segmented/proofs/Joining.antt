-- Segments as one list, before and after one of them changes.
use Rattle.std.proofs.Common.{◌≡◌, ◌∙◌, ◌+◌, ◌*◌, ◌/◌, ◌%◌, ◌<◌, ◌≤◌, ℕ, zero, suc, List, [], ◌∷◌, ◌++◌, length, get_or, refl, sym, ap, subst, arith, append_assoc, length-append, length-set, vec_items, vec_len, vec_capacity}
use Rattle.std.specs.Prelude.{Some, None, flat_map, slice_get, slice_set, option_and_then}
use Rattle.std.specs.declared.alloc.Global.{Global}
use Rattle.std.specs.declared.vec.Vec.{Vec}
use Rattle.std.proofs.lemmas.List.{append-nil}
use Rattle.std.proofs.lemmas.Option.{slice_get_past, slice_get_read}
use Rattle.segmented.specs.Segments.{AreSegments, IsSegmented, joined}

module _ {X : Type 0} where
  at_behind : (xs ys : List X) (n i : ℕ) → n ≡ length xs + i → slice_get (xs ++ ys) n ≡ slice_get ys i
  at_behind [] ys n i e = ap (slice_get ys) (let same : n ≡ i = omega (arith, e) in same)
  at_behind (x ∷ xs) ys zero i e = absurd (omega (arith, e))
  at_behind (x ∷ xs) ys (suc n) i e = at_behind xs ys n i (omega (arith, e))

  at_before : (xs ys : List X) (i : ℕ) → i < length xs → slice_get (xs ++ ys) i ≡ slice_get xs i
  at_before [] ys i h = absurd (omega (arith, h))
  at_before (x ∷ xs) ys zero h = refl
  at_before (x ∷ xs) ys (suc i) h = at_before xs ys i (omega (arith, h))

  set_behind : (xs ys : List X) (n i : ℕ) (x : X) → n ≡ length xs + i → slice_set (xs ++ ys) n x ≡ xs ++ slice_set ys i x
  set_behind [] ys n i x e = ap (λ m. slice_set ys m x) (let same : n ≡ i = omega (arith, e) in same)
  set_behind (y ∷ xs) ys zero i x e = absurd (omega (arith, e))
  set_behind (y ∷ xs) ys (suc n) i x e = ap (λ l. y ∷ l) (set_behind xs ys n i x (omega (arith, e)))

  set_before : (xs ys : List X) (i : ℕ) (x : X) → i < length xs → slice_set (xs ++ ys) i x ≡ slice_set xs i x ++ ys
  set_before [] ys i x h = absurd (omega (arith, h))
  set_before (y ∷ xs) ys zero x h = refl
  set_before (y ∷ xs) ys (suc i) x h = ap (λ l. y ∷ l) (set_before xs ys i x (omega (arith, h)))

  -- the element at a place is that of a segment
  at_place : (segments : List (Vec X Global)) → AreSegments segments → (q r place : ℕ) → r < 4096 → place ≡ q * 4096 + r
      → slice_get (joined segments) place ≡ option_and_then (λ segment. slice_get (vec_items segment) r) (slice_get segments q)
  at_place [] are q r place within is = refl
  at_place (s ∷ []) are zero r place within is = ap (λ l. slice_get l place) (append-nil s.items) ∙ ap (slice_get s.items) (let same : place ≡ r = omega (arith, is) in same)
  at_place (s ∷ t ∷ segments) are zero r place within is =
      let same : place ≡ r = omega (arith, is) in
      let full : vec_len s ≡ 4096 = are.1 (omega arith) in
      at_before s.items (joined (t ∷ segments)) place (omega (arith, is, within, full, s.ok.0)) ∙ ap (slice_get s.items) same
  at_place (s ∷ []) are (suc q) r place within is =
      ap (λ l. slice_get l place) (append-nil s.items) ∙ slice_get_past s.items place (omega (arith, is, within, are.0, s.ok.0, s.ok.1))
  at_place (s ∷ t ∷ segments) are (suc q) r place within is =
      let full : vec_len s ≡ 4096 = are.1 (omega arith) in
      at_behind s.items (joined (t ∷ segments)) place (q * 4096 + r) (omega (arith, is, full, s.ok.0))
      ∙ at_place (t ∷ segments) are.2 q r (q * 4096 + r) within refl

  joined_length : (segments : List (Vec X Global)) → AreSegments segments → length (joined segments) ≤ 4096 * length segments
  joined_length [] are = omega arith
  joined_length (s ∷ segments) are = omega (arith, are.0, s.ok.0, s.ok.1, joined_length segments are.2, length-append s.items (joined segments))

  capacity_at : (segments : List (Vec X Global)) → AreSegments segments → (q : ℕ) (s : Vec X Global) → slice_get segments q ≡ Some s → vec_capacity s ≡ 4096
  capacity_at [] are q s at = absurd (cc)
  capacity_at (t ∷ segments) are zero s at = let same : t ≡ s = cc in ap vec_capacity (sym same) ∙ are.0
  capacity_at (t ∷ segments) are (suc q) s at = capacity_at segments are.2 q s at

  some_left : (segments : List (Vec X Global)) (q : ℕ) (s : Vec X Global) → slice_get segments q ≡ Some s → 0 < length segments
  some_left [] q s at = absurd (cc)
  some_left (t ∷ segments) q s at = omega arith

  within_segment : (segments : List (Vec X Global)) → AreSegments segments → (q r place : ℕ) (s : Vec X Global) → slice_get segments q ≡ Some s → r < 4096 → place ≡ q * 4096 + r
      → place < length (joined segments) → r < vec_len s
  within_segment [] are q r place s at within is less = absurd (cc)
  within_segment (t ∷ []) are zero r place s at within is less =
      let same : t ≡ s = cc in
      omega (arith, is, less, ap vec_len same, t.ok.0, length-append t.items [])
  within_segment (t ∷ u ∷ segments) are zero r place s at within is less =
      let same : t ≡ s = cc in
      let full : vec_len t ≡ 4096 = are.1 (omega arith) in
      omega (arith, within, ap vec_len same, full)
  within_segment (t ∷ segments) are (suc q) r place s at within is less =
      let full : vec_len t ≡ 4096 = are.1 (some_left segments q s at) in
      within_segment segments are.2 q r (q * 4096 + r) s at within refl (omega (arith, is, less, full, t.ok.0, length-append t.items (joined segments)))

  -- an element of a segment is replaced
  are-set : (segments : List (Vec X Global)) → AreSegments segments → (q : ℕ) (s new : Vec X Global) → slice_get segments q ≡ Some s → vec_len new ≡ vec_len s → vec_capacity new ≡ vec_capacity s
      → AreSegments (slice_set segments q new)
  are-set [] are q s new at len capacity = tt
  are-set (t ∷ segments) are zero s new at len capacity =
      let same : t ≡ s = cc in
      (capacity ∙ ap vec_capacity (sym same) ∙ are.0, (λ more. len ∙ ap vec_len (sym same) ∙ are.1 more), are.2)
  are-set (t ∷ segments) are (suc q) s new at len capacity =
      (are.0, (λ more. are.1 (omega (arith, more, length-set segments q new))), are-set segments are.2 q s new at len capacity)

  joined-set : (segments : List (Vec X Global)) → AreSegments segments → (q r place : ℕ) (x : X) (s new : Vec X Global) → slice_get segments q ≡ Some s → place ≡ q * 4096 + r → r < vec_len s
      → vec_items new ≡ slice_set (vec_items s) r x → joined (slice_set segments q new) ≡ slice_set (joined segments) place x
  joined-set [] are q r place x s new at is within items = refl
  joined-set (t ∷ segments) are zero r place x s new at is within items =
      let same : t ≡ s = cc in
      let here : r ≡ place = omega (arith, is) in
      ap (λ l. l ++ joined segments) (items ∙ ap (λ v. slice_set (vec_items v) r x) (sym same) ∙ ap (λ i. slice_set (vec_items t) i x) here)
      ∙ sym (set_before (vec_items t) (joined segments) place x (omega (arith, here, within, ap vec_len same, t.ok.0)))
  joined-set (t ∷ segments) are (suc q) r place x s new at is within items =
      let full : vec_len t ≡ 4096 = are.1 (some_left segments q s at) in
      ap (λ l. vec_items t ++ l) (joined-set segments are.2 q r (q * 4096 + r) x s new at refl within items)
      ∙ sym (set_behind (vec_items t) (joined segments) place (q * 4096 + r) x (omega (arith, is, full, t.ok.0)))

  -- the last segment gets an element
  last_length : (segments : List (Vec X Global)) → AreSegments segments → (q r : ℕ) (s : Vec X Global) → slice_get segments q ≡ Some s → length (joined segments) ≡ q * 4096 + r → r < 4096 → vec_len s ≡ r
  last_length [] are q r s at is within = absurd (cc)
  last_length (t ∷ []) are zero r s at is within =
      let same : t ≡ s = cc in
      omega (arith, is, ap vec_len same, t.ok.0, length-append t.items [])
  last_length (t ∷ u ∷ segments) are zero r s at is within =
      let full : vec_len t ≡ 4096 = are.1 (omega arith) in
      absurd (omega (arith, is, within, full, t.ok.0, length-append t.items (joined (u ∷ segments))))
  last_length (t ∷ segments) are (suc q) r s at is within =
      let full : vec_len t ≡ 4096 = are.1 (some_left segments q s at) in
      last_length segments are.2 q r s at (omega (arith, is, full, t.ok.0, length-append t.items (joined segments))) within

  are-pushed : (segments : List (Vec X Global)) → AreSegments segments → (q r : ℕ) (s new : Vec X Global) → slice_get segments q ≡ Some s → length (joined segments) ≡ q * 4096 + r → r < 4096
      → vec_capacity new ≡ vec_capacity s → AreSegments (slice_set segments q new)
  are-pushed [] are q r s new at is within capacity = tt
  are-pushed (t ∷ []) are zero r s new at is within capacity =
      let same : t ≡ s = cc in
      (capacity ∙ ap vec_capacity (sym same) ∙ are.0, (λ more. absurd (omega (arith, more))), tt)
  are-pushed (t ∷ u ∷ segments) are zero r s new at is within capacity =
      let full : vec_len t ≡ 4096 = are.1 (omega arith) in
      absurd (omega (arith, is, within, full, t.ok.0, length-append t.items (joined (u ∷ segments))))
  are-pushed (t ∷ segments) are (suc q) r s new at is within capacity =
      let full : vec_len t ≡ 4096 = are.1 (some_left segments q s at) in
      (are.0, (λ more. full), are-pushed segments are.2 q r s new at (omega (arith, is, full, t.ok.0, length-append t.items (joined segments))) within capacity)

  joined-pushed : (segments : List (Vec X Global)) → AreSegments segments → (q r : ℕ) (x : X) (s new : Vec X Global) → slice_get segments q ≡ Some s → length (joined segments) ≡ q * 4096 + r → r < 4096
      → vec_items new ≡ vec_items s ++ x ∷ [] → joined (slice_set segments q new) ≡ joined segments ++ x ∷ []
  joined-pushed [] are q r x s new at is within items = absurd (cc)
  joined-pushed (t ∷ []) are zero r x s new at is within items =
      let same : t ≡ s = cc in
      append-nil (vec_items new) ∙ items ∙ ap (λ v. vec_items v ++ x ∷ []) (sym same) ∙ ap (λ l. l ++ x ∷ []) (sym (append-nil (vec_items t)))
  joined-pushed (t ∷ u ∷ segments) are zero r x s new at is within items =
      let full : vec_len t ≡ 4096 = are.1 (omega arith) in
      absurd (omega (arith, is, within, full, t.ok.0, length-append t.items (joined (u ∷ segments))))
  joined-pushed (t ∷ segments) are (suc q) r x s new at is within items =
      let full : vec_len t ≡ 4096 = are.1 (some_left segments q s at) in
      ap (λ l. vec_items t ++ l) (joined-pushed segments are.2 q r x s new at (omega (arith, is, full, t.ok.0, length-append t.items (joined segments))) within items)
      ∙ sym (append_assoc (vec_items t) (joined segments) (x ∷ []))

  -- a segment without elements is added to full ones
  are-added : (segments : List (Vec X Global)) → AreSegments segments → (new : Vec X Global) → 4096 * length segments ≤ length (joined segments) → vec_capacity new ≡ 4096 → AreSegments (segments ++ new ∷ [])
  are-added [] are new full capacity = (capacity, (λ more. absurd (omega (arith, more))), tt)
  are-added (t ∷ segments) are new full capacity =
      let all : length (vec_items t ++ joined segments) ≡ length (vec_items t) + length (joined segments) = length-append (vec_items t) (joined segments) in
      let rest : length (joined segments) ≤ 4096 * length segments = joined_length segments are.2 in (
        are.0,
        (λ more. omega (arith, full, all, rest, are.0, t.ok.0, t.ok.1)),
        are-added segments are.2 new (omega (arith, full, all, are.0, t.ok.0, t.ok.1)) capacity,
      )

  joined-added : (segments : List (Vec X Global)) (new : Vec X Global) → vec_items new ≡ [] → joined (segments ++ new ∷ []) ≡ joined segments
  joined-added [] new none = ap (λ l. l ++ []) none
  joined-added (t ∷ segments) new none = ap (λ l. vec_items t ++ l) (joined-added segments new none)

module _ {X : Type 0} (segments : List (Vec X Global)) (len : ℕ) (is : IsSegmented segments len) where
  pub segment_read : (q : ℕ) (s : Vec X Global) → q < length segments → s ≡ get_or segments q s → slice_get segments q ≡ Some s
  segment_read q s within read = slice_get_read segments (length segments) q s refl within read

  module _ (place : ℕ) where
    parts : place ≡ (place / 4096) * 4096 + place % 4096
    parts = omega arith

    pub nothing_at : length segments ≤ place / 4096 → slice_get (joined segments) place ≡ None
    nothing_at past =
        at_place segments is.are (place / 4096) (place % 4096) place (omega arith) parts
        ∙ ap (option_and_then (λ s. slice_get (vec_items s) (place % 4096))) (slice_get_past segments (place / 4096) past)

    pub found_at : (s : Vec X Global) → slice_get segments (place / 4096) ≡ Some s → slice_get (joined segments) place ≡ slice_get (vec_items s) (place % 4096)
    found_at s at =
        at_place segments is.are (place / 4096) (place % 4096) place (omega arith) parts
        ∙ ap (option_and_then (λ s. slice_get (vec_items s) (place % 4096))) at

    module _ (within : place < length (joined segments)) where
      pub segment_exists : place / 4096 < length segments
      segment_exists = omega (arith, within, joined_length segments is.are)

      module _ (s : Vec X Global) (read : s ≡ get_or segments (place / 4096) s) where
        at : slice_get segments (place / 4096) ≡ Some s
        at = segment_read (place / 4096) s segment_exists read

        pub place_within : place % 4096 < vec_len s
        place_within = within_segment segments is.are (place / 4096) (place % 4096) place s at (omega arith) parts within

        module _ (new : Vec X Global) (x : X) (items : vec_items new ≡ slice_set (vec_items s) (place % 4096) x) where
          pub items-set : joined (slice_set segments (place / 4096) new) ≡ slice_set (joined segments) place x
          items-set = joined-set segments is.are (place / 4096) (place % 4096) place x s new at parts place_within items

          pub segmented-set : vec_len new ≡ vec_len s → vec_capacity new ≡ vec_capacity s → IsSegmented (slice_set segments (place / 4096) new) len
          segmented-set len_kept capacity_kept = record {
            are = are-set segments is.are (place / 4096) s new at len_kept capacity_kept;
            counted = is.counted ∙ sym (ap length items-set ∙ length-set (joined segments) place x);
            few = omega (arith, is.few, length-set segments (place / 4096) new);
          }

  -- with an element more
  whole : length (joined segments) ≡ (len / 4096) * 4096 + len % 4096
  whole = omega (arith, is.counted)

  module _ (room : length (joined segments) < 4096 * length segments) (s : Vec X Global) (read : s ≡ get_or segments (len / 4096) s) where
    last : slice_get segments (len / 4096) ≡ Some s
    last = segment_read (len / 4096) s (omega (arith, room, is.counted)) read

    pub segment_has_room : vec_len s < vec_capacity s
    segment_has_room =
        omega (arith, last_length segments is.are (len / 4096) (len % 4096) s last whole (omega arith), capacity_at segments is.are (len / 4096) s last)

    module _ (new : Vec X Global) (x : X) (items : vec_items new ≡ vec_items s ++ x ∷ []) where
      pub items-pushed : joined (slice_set segments (len / 4096) new) ≡ joined segments ++ x ∷ []
      items-pushed = joined-pushed segments is.are (len / 4096) (len % 4096) x s new last whole (omega arith) items

      pub segmented-pushed : vec_capacity new ≡ vec_capacity s → IsSegmented (slice_set segments (len / 4096) new) (len + 1)
      segmented-pushed capacity_kept = record {
        are = are-pushed segments is.are (len / 4096) (len % 4096) s new last whole (omega arith) capacity_kept;
        counted = omega (arith, is.counted, ap length items-pushed, length-append (joined segments) (x ∷ []));
        few = omega (arith, is.few, length-set segments (len / 4096) new);
      }

  -- with a segment more
  module _ (new : Vec X Global) (all : List (Vec X Global)) (added : all ≡ segments ++ new ∷ []) (none : vec_items new ≡ []) where
    same_items : joined all ≡ joined segments
    same_items = ap joined added ∙ joined-added segments new none

    one_more : length all ≡ length segments + 1
    one_more = omega (arith, ap length added, length-append segments (new ∷ []))

    pub segmented-added : vec_capacity new ≡ 4096 → 4096 * length segments ≤ len → length segments < 1048576 → IsSegmented all len
    segmented-added capacity full few = record {
      are = subst (λ l. AreSegments l) (sym added) (are-added segments is.are new (omega (arith, full, is.counted)) capacity);
      counted = is.counted ∙ ap length (sym same_items);
      few = omega (arith, few, one_more);
    }

    pub room-added : length (joined all) < 4096 * length all
    room-added = omega (arith, ap length same_items, one_more, joined_length segments is.are)
