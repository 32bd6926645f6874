-- Searches for many keys: a block of rows that is written into a buffer, and one more list.
use Rattle.std.proofs.Common.{◌≡◌, ℕ, zero, suc, ◌+◌, ◌<◌, ◌≤◌, List, [], ◌∷◌, ◌++◌, length, map, take, drop, set, ap, refl, sym, subst, ◌∙◌, arith}
use Rattle.std.specs.Prelude.{Result, Ok, Some, slice_get, ◌⊎◌, min}
use Rattle.libgist.specs.declared.denied.Denied.{Denied}
use Rattle.std.proofs.lemmas.List.{append-nil, append_assoc, drop-drop, length-append, length-map, map-append}
use Rattle.std.proofs.Math.Seq.{drop-append-add, take-append_seam}
use Rattle.search.specs.Fills.{written_over}
use Rattle.libgist.specs.ManyFinds.{joined, ends_from, AskFor, StopsAt, ShowsFirst}
use Rattle.libgist.proofs.Writing.{written_more, push_more}

module _ {X : Type 0} where
  -- the next item of a block that begins at a place
  pub put_next : (at : ℕ) (items buffer : List X) (i : ℕ) (x : X) → slice_get items i ≡ Some x → at + i < length buffer
      → set (take at buffer ++ (take i items ++ drop (at + i) buffer)) (at + i) x ≡ take at buffer ++ (take (i + 1) items ++ drop (at + (i + 1)) buffer)
  put_next zero items buffer i x found inside =
      let e : zero + i ≡ i = omega arith in
      let f : zero + (i + 1) ≡ i + 1 = omega arith in
      rw (e, f) (written_more items buffer i x found (omega (arith, inside)))
  put_next (suc at) items [] i x found inside = absurd (omega (arith, inside))
  put_next (suc at) items (b ∷ buffer) i x found inside =
      let e : suc at + i ≡ suc (at + i) = omega arith in
      let f : suc at + (i + 1) ≡ suc (at + (i + 1)) = omega arith in
      rw (e, f) (ap (λ (rest : List X). b ∷ rest) (put_next at items buffer i x found (omega (arith, inside))))

  -- a block after the items in a buffer's first places
  pub put_behind : (items more buffer : List X) (n k : ℕ) → length items ≡ n → length more ≡ k
      → take n (items ++ drop n buffer) ++ (more ++ drop (n + k) (items ++ drop n buffer)) ≡ (items ++ more) ++ drop (n + k) buffer
  put_behind items more buffer n k e f =
      subst (λ (m : ℕ). take m (items ++ drop m buffer) ++ (more ++ drop (m + k) (items ++ drop m buffer)) ≡ (items ++ more) ++ drop (m + k) buffer) e
      (let kept : take (length items) (items ++ drop (length items) buffer) ≡ items = take-append_seam items (drop (length items) buffer) in
      let rest : drop (length items + k) (items ++ drop (length items) buffer) ≡ drop (length items + k) buffer = drop-append-add items (drop (length items) buffer) k ∙ drop-drop k (length items) buffer in
      rw (kept, rest) (sym (append_assoc items more (drop (length items + k) buffer))))

  pub joined_push : (xss : List (List X)) (xs : List X) → joined (xss ++ xs ∷ []) ≡ joined xss ++ xs
  joined_push [] xs = append-nil xs
  joined_push (ys ∷ xss) xs = ap (λ (rest : List X). ys ++ rest) (joined_push xss xs) ∙ sym (append_assoc ys (joined xss) xs)

  pub ends_push : (place : ℕ) (xss : List (List X)) (xs : List X) → ends_from place (xss ++ xs ∷ []) ≡ ends_from place xss ++ (place + length (joined xss) + length xs) ∷ []
  ends_push place [] xs = ap (λ (n : ℕ). (n + length xs) ∷ []) (omega arith)
  ends_push place (ys ∷ xss) xs =
      let e : (place + length ys) + length (joined xss) ≡ place + length (ys ++ joined xss) = let l = length-append ys (joined xss) in omega (arith, l) in
      ap (λ (rest : List ℕ). (place + length ys) ∷ rest) (ends_push (place + length ys) xss xs ∙ ap (λ (n : ℕ). ends_from (place + length ys) xss ++ (n + length xs) ∷ []) e)

  pub ends_count : (place : ℕ) (xss : List (List X)) → length (ends_from place xss) ≡ length xss
  ends_count place [] = refl
  ends_count place (xs ∷ xss) = ap suc (ends_count (place + length xs) xss)

  -- where the next list ends, after the ends of the others
  pub ends_step : (xss : List (List X)) (xs : List X) (ends buffer : List ℕ) (place end n : ℕ) → length xss ≡ place → length (joined xss) ≡ end → n ≡ length xs → place < length buffer
      → ends ≡ ends_from 0 xss ++ drop place buffer → set ends place (end + n) ≡ ends_from 0 (xss ++ xs ∷ []) ++ drop (place + 1) buffer
  ends_step xss xs ends buffer place end n count used more inside is =
      let e : 0 + length (joined xss) + length xs ≡ end + n = omega (arith, used, more) in
      rw (is, ends_push 0 xss xs, e) (push_more (ends_from 0 xss) buffer (end + n) place (ends_count 0 xss ∙ count) inside)

  -- what fits stands over the first places of a buffer
  take_all : (items : List X) (m : ℕ) → length items ≤ m → take m items ≡ items
  take_all [] zero fits = refl
  take_all [] (suc m) fits = refl
  take_all (x ∷ items) zero fits = absurd (omega (arith, fits))
  take_all (x ∷ items) (suc m) fits = ap (λ (rest : List X). x ∷ rest) (take_all items m (omega (arith, fits)))

  pub over_is : (items buffer : List X) (n : ℕ) → length items ≡ n → n ≤ length buffer → items ++ drop n buffer ≡ written_over items buffer
  over_is items buffer n count fits = rw (← count, take_all items (length buffer) (omega (arith, count, fits))) refl

-- rows after the others in a buffer
pub rows_step : {X R : Type 0} (f : X → R) (xss : List (List X)) (xs : List X) (first rows new : List R) (end n : ℕ) → n ≡ length xs → length (joined xss) ≡ end
    → rows ≡ map f (joined xss) ++ drop end first → new ≡ take end rows ++ (map f xs ++ drop (end + length xs) rows) → new ≡ map f (joined (xss ++ xs ∷ [])) ++ drop (end + n) first
rows_step f xss xs first rows new end n more used is written =
    rw (more, joined_push xss xs, map-append f (joined xss) xs, written, is)
    (put_behind (map f (joined xss)) (map f xs) first end (length xs) (length-map (joined xss) f ∙ used) (length-map xs f))

module _ {E X : Type 0} (live : E → Result (List X) Denied) where
  pub ask_push : (keys : List E) (xss : List (List X)) (key : E) (xs : List X) → AskFor live keys xss → live key ≡ Ok xs → AskFor live (keys ++ key ∷ []) (xss ++ xs ∷ [])
  ask_push [] [] key xs asked found = (found, tt)
  ask_push [] (ys ∷ xss) key xs asked found = absurd asked
  ask_push (k ∷ keys) [] key xs asked found = absurd asked
  ask_push (k ∷ keys) (ys ∷ xss) key xs asked found = (asked.0, ask_push keys xss key xs asked.1 found)

  pub shows_first : {R : Type 0} (f : X → R) (keys : List E) (first rows : List R) (before ends : List ℕ) (found : List (List X)) (end place : ℕ)
      → length found ≡ place → length (joined found) ≡ end → end ≤ length first → place ≤ length before → AskFor live (take place keys) found
      → rows ≡ map f (joined found) ++ drop end first → ends ≡ ends_from 0 found ++ drop place before
      → (place ≡ min (length keys) (length before)) ⊎ StopsAt live keys place (length (joined found)) (length first) → ShowsFirst live f keys before ends first rows place
  shows_first f keys first rows before ends found end place count used fits room asked rows_are ends_are ended = record {
    found = found;
    asked = asked;
    fits = omega (arith, used, fits);
    written = rows_are ∙ over_is (map f (joined found)) first end (length-map (joined found) f ∙ used) fits;
    ends = ends_are ∙ over_is (ends_from 0 found) before place (ends_count 0 found ∙ count) room;
    ended = ended;
  }
