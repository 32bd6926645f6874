-- Full segments with a tail, as one list.
use Rattle.std.proofs.Common.{◌≡◌, ◌+◌, ◌*◌, ◌-◌, ◌/◌, ◌%◌, ◌<◌, ◌≤◌, ℕ, zero, suc, List, [], ◌∷◌, ◌++◌, length, Some, refl, sym, ap, subst, ◌∙◌, arith, drop, slice_get, append_assoc, length-append}
use Rattle.std.specs.List.{flat_map, AllByRecursion}
use Rattle.std.proofs.lemmas.List.{append-nil, length-drop}
use Rattle.change_list.specs.Segments.{joined, IsRun, IsSegmented, Fills}

module _ {X : Type 0} where
  at_behind : (xs ys : List X) (i : ℕ) → slice_get (xs ++ ys) (length xs + i) ≡ slice_get ys i
  at_behind [] ys i = ap (λ n. slice_get ys n) (let e : 0 + i ≡ i = omega arith in e)
  at_behind (x ∷ xs) ys i = ap (λ n. slice_get (x ∷ xs ++ ys) n) (let e : length (x ∷ xs) + i ≡ suc (length xs + i) = omega arith in e) ∙ at_behind xs ys i

  at_before : (xs ys : List X) (i : ℕ) → i < length xs → slice_get (xs ++ ys) i ≡ slice_get xs i
  at_before [] ys i h = absurd (omega (arith, h))
  at_before (x ∷ xs) ys zero h = refl
  at_before (x ∷ xs) ys (suc i) h = at_before xs ys i (omega (arith, h))

  slice_get-drop : (n : ℕ) (xs : List X) (i : ℕ) → slice_get (drop n xs) i ≡ slice_get xs (n + i)
  slice_get-drop zero xs i = ap (slice_get xs) (let same : i ≡ zero + i = omega arith in same)
  slice_get-drop (suc n) [] i = refl
  slice_get-drop (suc n) (x ∷ xs) i = slice_get-drop n xs i ∙ ap (slice_get (x ∷ xs)) (let same : suc (n + i) ≡ suc n + i = omega arith in same)

  abbrev together : List (List X) → List X
  together segments = flat_map (λ segment. segment) segments

  together_length : (segments : List (List X)) → AllByRecursion (λ s. length s ≡ 256) segments → length (together segments) ≡ 256 * length segments
  together_length [] all = refl
  together_length (s ∷ segments) all = omega (arith, all.0, together_length segments all.1, length-append s (together segments))

  place_in : (segments : List (List X)) (tail : List X) → AllByRecursion (λ s. length s ≡ 256) segments → (q r : ℕ) (s : List X) → slice_get segments q ≡ Some s → r < 256
      → slice_get (joined segments tail) (q * 256 + r) ≡ slice_get s r
  place_in [] tail all q r s h l = absurd (cc)
  place_in (x ∷ xs) tail all zero r s h l =
      let same : x ≡ s = cc in
      ap (λ n. slice_get ((x ++ together xs) ++ tail) n) (let e : zero * 256 + r ≡ r = omega arith in e) ∙ ap (λ l. slice_get l r) (append_assoc x (together xs) tail) ∙ at_before x (together xs ++ tail) r (omega (arith, l, all.0)) ∙ ap (λ l. slice_get l r) same
  place_in (x ∷ xs) tail all (suc q) r s h l =
      let place : suc q * 256 + r ≡ length x + (q * 256 + r) = omega (arith, all.0) in
      ap (λ i. slice_get ((x ++ together xs) ++ tail) i) place ∙ ap (λ l. slice_get l (length x + (q * 256 + r))) (append_assoc x (together xs) tail)
      ∙ at_behind x (together xs ++ tail) (q * 256 + r) ∙ place_in xs tail all.1 q r s h l

  pub full_at : (segments : List (List X)) → AllByRecursion (λ s. length s ≡ 256) segments → (q : ℕ) (s : List X) → slice_get segments q ≡ Some s → length s ≡ 256
  full_at [] all q s h = absurd (cc)
  full_at (x ∷ xs) all zero s h = let same : x ≡ s = cc in ap length (sym same) ∙ all.0
  full_at (x ∷ xs) all (suc q) s h = full_at xs all.1 q s h

  all_push : (segments : List (List X)) (s : List X) → AllByRecursion (λ s. length s ≡ 256) segments → length s ≡ 256 → AllByRecursion (λ s. length s ≡ 256) (segments ++ s ∷ [])
  all_push [] s all p = (p, tt)
  all_push (x ∷ xs) s all p = (all.0, all_push xs s all.1 p)

  together_push : (segments : List (List X)) (s : List X) → together (segments ++ s ∷ []) ≡ together segments ++ s
  together_push [] s = append-nil s
  together_push (x ∷ xs) s = ap (λ r. x ++ r) (together_push xs s) ∙ sym (append_assoc x (together xs) s)

module _ {X : Type 0} (segments : List (List X)) (tail : List X) (is : IsSegmented segments tail) where
  pub at_segment : (i : ℕ) (s : List X) → slice_get segments (i / 256) ≡ Some s → slice_get (joined segments tail) i ≡ slice_get s (i % 256)
  at_segment i s h =
      let parts : i ≡ (i / 256) * 256 + i % 256 = omega arith in
      ap (λ n. slice_get (joined segments tail) n) parts ∙ place_in segments tail is.each_full (i / 256) (i % 256) s h (omega arith)

  pub at_tail : (i : ℕ) → length segments ≤ i / 256 → slice_get (joined segments tail) i ≡ slice_get tail (i - length segments * 256)
  at_tail i h =
      let l = together_length segments is.each_full in
      let place : i ≡ length (together segments) + (i - length segments * 256) = omega (arith, l, h) in
      ap (λ n. slice_get (joined segments tail) n) place ∙ at_behind (together segments) tail (i - length segments * 256)

  -- what stands behind a place of a segment, or of the tail
  pub run_at_segment : (place : ℕ) (s : List X) → slice_get segments (place / 256) ≡ Some s → (run : List X) → run ≡ drop (place % 256) s → IsRun (joined segments tail) place run
  run_at_segment place s h run behind i l =
      let long : length run ≡ length s - place % 256 = ap length behind ∙ length-drop (place % 256) s in
      let within : place % 256 + i < 256 = omega (arith, l, long, full_at segments is.each_full (place / 256) s h) in
      let there : slice_get (joined segments tail) (place + i) ≡ slice_get s ((place + i) % 256) =
      at_segment (place + i) s (ap (slice_get segments) (let same : (place + i) / 256 ≡ place / 256 = omega (arith, within) in same) ∙ h) in
      there ∙ ap (slice_get s) (let same : (place + i) % 256 ≡ place % 256 + i = omega (arith, within) in same) ∙ sym (ap (λ zs. slice_get zs i) behind ∙ slice_get-drop (place % 256) s i)

  pub run_at_tail : (place : ℕ) → length segments ≤ place / 256 → (run : List X) → run ≡ drop (place - length segments * 256) tail → IsRun (joined segments tail) place run
  run_at_tail place h run behind i l =
      let start = place - length segments * 256 in
      at_tail (place + i) (omega (arith, h)) ∙ ap (slice_get tail) (let same : place + i - length segments * 256 ≡ start + i = omega (arith, h) in same) ∙ sym (ap (λ zs. slice_get zs i) behind ∙ slice_get-drop start tail i)

  pub whole_length : length (joined segments tail) ≡ 256 * length segments + length tail
  whole_length = omega (arith, length-append (together segments) tail, together_length segments is.each_full)

  pub full_segments : length segments ≡ length (joined segments tail) / 256
  full_segments = omega (arith, whole_length, is.short)

  pub rest_length : length tail ≡ length (joined segments tail) % 256
  rest_length = omega (arith, whole_length, is.short)

  -- with one more element the tail becomes a segment, or is longer by one
  pub joined_filled : (x : X) (filled : List (List X)) → Fills segments tail x filled → joined filled [] ≡ joined segments tail ++ x ∷ []
  joined_filled x filled f =
      ap (λ all. joined all []) f.is ∙ append-nil (together (segments ++ (tail ++ x ∷ []) ∷ [])) ∙ together_push segments (tail ++ x ∷ []) ∙ sym (append_assoc (together segments) tail (x ∷ []))

  pub segmented_filled : (x : X) (filled : List (List X)) → Fills segments tail x filled → IsSegmented filled []
  segmented_filled x filled f = record {
    each_full = subst (λ all. AllByRecursion (λ s. length s ≡ 256) all) (sym f.is) (all_push segments (tail ++ x ∷ []) is.each_full (omega (arith, f.lacks_one, length-append tail (x ∷ []))));
    short = omega arith;
  }

  pub joined_longer : (x : X) → joined segments (tail ++ x ∷ []) ≡ joined segments tail ++ x ∷ []
  joined_longer x = sym (append_assoc (together segments) tail (x ∷ []))

  pub segmented_longer : (x : X) → length tail < 255 → IsSegmented segments (tail ++ x ∷ [])
  segmented_longer x h = record { each_full = is.each_full; short = omega (arith, h, length-append tail (x ∷ [])) }
