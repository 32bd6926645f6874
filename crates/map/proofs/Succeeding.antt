-- A generation that is to follow the present one, step by step.
use Rattle.std.proofs.Common.{◌≡◌, ◌≢◌, ◌+◌, ◌-◌, ◌<◌, ◌≤◌, ℕ, zero, suc, Bool, true, false, ◌||◌, List, [], ◌∷◌, ◌++◌, length, take, drop, Option, Some, None, refl, sym, ap, ◌∙◌, arith, subst, min, append_assoc}
use Rattle.std.specs.Prelude.{Result, Ok, Err, OnOk, OnErr, slice_get}
use Rattle.std.specs.List.{list_any}
use Rattle.std.proofs.lemmas.List.{append-nil, drop-append-le, drop-drop, length-append, length-drop, length-take, length-take-le, take-append-le, take_all, take_more, drop_more}
use Rattle.std.proofs.lemmas.List.Folds.{list_any-append}
use Rattle.std.proofs.lemmas.Option.{get_or_from_slice_get}
use Rattle.change_list.proofs.Lists.{slice_get_within}
use Rattle.revisions.specs.declared.change.MapChange.{MapChange}
use Rattle.revisions.specs.declared.entry.MapEntry.{MapEntry}
use Rattle.revisions.specs.Maps.{AreApart, AreReal, MapState, MayChange, changes_since, empty_map, entries_after, entries_at, entries_of, forgotten, has_id, is_of, restored, revision_of, with_change}
use Rattle.revisions.proofs.Forgetting.{after_append, taken_twice}
use Rattle.map.specs.declared.offer.Offer.{Offer}
use Rattle.map.specs.declared.offer.Offer.TheVariants.{Pass, Give, Over}
use Rattle.map.specs.Rolls.{Advances, Skips, Offers, RollState, given_by}
use Rattle.map.specs.Successors.{IsReady, IsSuccessor}

-- a place further on in a list
slice_get_dropped : {X : Type 0} (xs : List X) (a n : ℕ) → slice_get (drop a xs) n ≡ slice_get xs (a + n)
slice_get_dropped xs zero n = let e : zero + n ≡ n = omega arith in ap (slice_get xs) (sym e)
slice_get_dropped [] (suc a) n = let e : suc a + n ≡ suc (a + n) = omega arith in none n ∙ ap (slice_get []) (sym e)
  where
    none : {X : Type 0} (n : ℕ) → ◌≡◌ {A = Option X} (slice_get [] n) (slice_get [] (suc (a + n)))
    none zero = refl
    none (suc n) = refl
slice_get_dropped (x ∷ xs) (suc a) n = let e : suc a + n ≡ suc (a + n) = omega arith in slice_get_dropped xs a n ∙ ap (slice_get (x ∷ xs)) (sym e)

-- one more of a list
taken_one_more : {X : Type 0} (xs : List X) (n : ℕ) (x : X) → slice_get xs n ≡ Some x → take (n + 1) xs ≡ take n xs ++ x ∷ []
taken_one_more xs n x at = let l = slice_get_within xs n x at in take_more xs n x l ∙ ap (λ y. take n xs ++ y ∷ []) (get_or_from_slice_get xs n x x at)

within_taken : {X : Type 0} (n : ℕ) (xs ys : List X) → ys ≡ take n xs → n ≡ length ys → n ≤ length xs
within_taken n xs ys is e = omega (arith, ap length is, length-take n xs, e)

-- no id of an entry to come is among those before
none_before : {K : Type 0} (given : List (MapEntry K)) (e : MapEntry K) (rest : List (MapEntry K)) → AreApart (given ++ e ∷ rest) → has_id e.id given ≡ false
none_before [] e rest a = refl
none_before (g ∷ given) e rest a = by_test (none_before given e rest a.1) (is_of e.id g) refl
  where
    by_test : has_id e.id given ≡ false → (b : Bool) → is_of e.id g ≡ b → has_id e.id (g ∷ given) ≡ false
    by_test later false f = rw f later
    by_test later true f =
        let same : g.id ≡ e.id = search (arith, f) in
        let there : is_of g.id e ≡ true = search (arith, sym same) in
        let here : has_id g.id (e ∷ rest) ≡ true = rw there refl in
        let any : has_id g.id (given ++ e ∷ rest) ≡ true = list_any-append (is_of g.id) given (e ∷ rest) ∙ or_later (has_id g.id given) (has_id g.id (e ∷ rest)) here in
        absurd (let c : true ≡ false = sym any ∙ a.0 in cc)
      where
        or_later : (x y : Bool) → y ≡ true → (x || y) ≡ true
        or_later true y h = refl
        or_later false y h = h

module _ {K : Type 0} where
  -- a map that makes a change
  pub successor_push : (map : MapState K) (roll : RollState K) (next : MapState K) (c : MapChange K) → IsSuccessor map roll next → IsSuccessor (with_change c map) roll next
  successor_push map roll next c is =
      let k = next.oldest - map.oldest in
      let l : next.oldest - map.oldest ≤ length map.changes = omega (arith, is.known, is.within) in
      let longer : length (map.changes ++ c ∷ []) ≡ length map.changes + 1 = length-append map.changes (c ∷ []) in
      let kept : length next.changes ≤ length (changes_since next.oldest map) = within_taken (length next.changes) (changes_since next.oldest map) next.changes is.changes refl in
      record {
        known = is.known;
        within = omega (arith, is.within, longer);
        all = is.all ∙ ap (entries_after map.first) (sym (take-append-le (next.oldest - map.oldest) map.changes (c ∷ []) l));
        apart = is.apart;
        first = is.first;
        changes = is.changes ∙ sym (ap (take (length next.changes)) (drop-append-le (next.oldest - map.oldest) map.changes (c ∷ []) l) ∙ take-append-le (length next.changes) (changes_since next.oldest map) (c ∷ []) kept);
        later = is.later;
      }

  -- at the beginning
  pub successor_begun : (map : MapState K) (roll : RollState K) (next : MapState K) → AreApart (entries_of map) → roll.all ≡ entries_of map → roll.given ≡ [] → next ≡ empty_map (revision_of map) → IsSuccessor map roll next
  successor_begun map roll next apart all none is =
      let oldest : next.oldest ≡ revision_of map = ap (λ (m : MapState K). m.oldest) is in
      let begun : next.changes ≡ [] = ap (λ (m : MapState K). m.changes) is in
      let count : next.oldest - map.oldest ≡ length map.changes = omega (arith, oldest) in
      record {
        known = omega (arith, oldest);
        within = omega (arith, oldest);
        all = all ∙ ap (entries_after map.first) (sym (ap (λ n. take n map.changes) count ∙ take_all (length map.changes) map.changes (omega arith)));
        apart = subst (λ es. AreApart es) (sym all) apart;
        first = ap (λ (m : MapState K). m.first) is ∙ sym none;
        changes = begun ∙ sym (ap (λ l. take (length l) (changes_since next.oldest map)) begun);
        later = λ more. begun;
      }

  -- commits were passed
  pub successor_skipped : (map : MapState K) (roll : RollState K) (next : MapState K) → IsSuccessor map roll next → (further : RollState K) → Skips roll further → roll.offer ≡ Pass → IsSuccessor map further next
  successor_skipped map roll next is further skips pass = record {
    known = is.known;
    within = is.within;
    all = skips.all ∙ is.all;
    apart = subst (λ es. AreApart es) (sym skips.all) is.apart;
    first = is.first ∙ sym skips.given;
    changes = is.changes;
    later = λ more. is.later (λ over. let e : Pass ≡ Over = sym pass ∙ over in absurd (cc));
  }

  module _ (map : MapState K) (roll : RollState K) (next : MapState K) (is : IsSuccessor map roll next) (further : RollState K) (advances : Advances roll further) where
    -- an entry was given
    pub successor_given : (e : MapEntry K) → roll.offer ≡ Give e → (new : MapState K) → new ≡ restored next.oldest (next.first ++ e ∷ []) → IsSuccessor map further new
    successor_given e give new made =
        let oldest : new.oldest ≡ next.oldest = ap (λ (m : MapState K). m.oldest) made in
        let none : new.changes ≡ [] = ap (λ (m : MapState K). m.changes) made in
        record {
          known = omega (arith, oldest, is.known);
          within = omega (arith, oldest, is.within);
          all = advances.all ∙ is.all ∙ ap (λ n. entries_at n map) (sym oldest);
          apart = subst (λ es. AreApart es) (sym advances.all) is.apart;
          first = ap (λ (m : MapState K). m.first) made ∙ ap (λ es. es ++ e ∷ []) is.first ∙ sym (advances.given ∙ ap (λ o. roll.given ++ given_by o) give);
          changes = none ∙ sym (ap (λ l. take (length l) (changes_since new.oldest map)) none);
          later = λ more. none;
        }

  module _ (map : MapState K) (roll : RollState K) (next : MapState K) (is : IsSuccessor map roll next) where
    -- an entry that is to be added isn't there
    pub absent : Offers roll → (e : MapEntry K) → roll.offer ≡ Give e → (next.changes ≡ []) × (has_id e.id next.first ≡ false)
    absent offers e give = (
      is.later (λ over. let c : Give e ≡ Over = sym give ∙ over in absurd (cc)),
      (let whole : roll.all ≡ roll.given ++ e ∷ offers.rest = offers.is ∙ ap (λ o. roll.given ++ given_by o ++ offers.rest) give ∙ append_assoc roll.given (e ∷ []) offers.rest in
          ap (has_id e.id) is.first ∙ none_before roll.given e offers.rest (subst (λ es. AreApart es) whole is.apart)),
    )

    module _ (offers : Offers roll) (over : roll.offer ≡ Over) where
      whole : next.first ≡ entries_at next.oldest map
      whole =
          let none = offers.over over in
          is.first ∙ sym (sym is.all ∙ offers.is ∙ ap (λ l. roll.given ++ given_by roll.offer ++ l) none ∙ ap (λ o. roll.given ++ given_by o ++ []) over ∙ append-nil (roll.given ++ []) ∙ append-nil roll.given)

      count : ℕ
      count = length next.changes

      -- how far it has come
      counted : length next.changes ≤ length (changes_since next.oldest map)
      counted = within_taken (length next.changes) (changes_since next.oldest map) next.changes is.changes refl

      module _ (c : MapChange K) (at : slice_get map.changes (revision_of next - map.oldest) ≡ Some c) where
        place : (next.oldest - map.oldest) + length next.changes ≡ revision_of next - map.oldest
        place = omega (arith, is.known)

        there : slice_get (changes_since next.oldest map) (length next.changes) ≡ Some c
        there = slice_get_dropped map.changes (next.oldest - map.oldest) (length next.changes) ∙ ap (slice_get map.changes) place ∙ at

        -- a change was repeated
        pub successor_repeated : (new : MapState K) → new ≡ with_change c next → IsSuccessor map roll new
        successor_repeated new made = subst (λ m. IsSuccessor map roll m) (sym made) (record {
          known = is.known;
          within = is.within;
          all = is.all;
          apart = is.apart;
          first = is.first;
          changes =
              let n : length (next.changes ++ c ∷ []) ≡ length next.changes + 1 = length-append next.changes (c ∷ []) in
              ap (λ l. l ++ c ∷ []) is.changes ∙ sym (ap (λ k. take k (changes_since next.oldest map)) n ∙ taken_one_more (changes_since next.oldest map) (length next.changes) c there);
          later = λ more. absurd (more over);
        })

        -- or the attempt was refused
        pub repeated_or_not : (new : MapState K) → {X Y : Type 0} (r : Result X Y) → OnOk r (new ≡ with_change c next) → OnErr r (new ≡ next) → IsSuccessor map roll new
        repeated_or_not new (Ok x) made kept = successor_repeated new made
        repeated_or_not new (Err y) made kept = subst (λ m. IsSuccessor map roll m) (sym kept) is

        -- and it may be
        pub may_repeat : AreReal map → MayChange (entries_of next) c
        may_repeat real =
            let e : (next.oldest - map.oldest) + length next.changes ≡ revision_of next - map.oldest = place in
            let same : entries_of next ≡ entries_after map.first (take (revision_of next - map.oldest) map.changes) =
            ap (λ es. entries_after es next.changes) whole ∙ ap (entries_after (entries_at next.oldest map)) is.changes
            ∙ sym (after_append map.first (take (next.oldest - map.oldest) map.changes) (take (length next.changes) (drop (next.oldest - map.oldest) map.changes)))
            ∙ ap (entries_after map.first) (taken_twice (next.oldest - map.oldest) (length next.changes) map.changes ∙ ap (λ k. take k map.changes) e) in
            subst (λ es. MayChange es c) (sym same) (real (revision_of next - map.oldest) c at)

      -- it has caught up
      pub successor_ready : (history : ℕ) → revision_of next ≡ revision_of map → next.oldest + history ≤ revision_of map → IsReady map history next
      successor_ready history caught keeps =
          let n : length next.changes ≡ length (changes_since next.oldest map) = omega (arith, caught, is.known, is.within, length-drop (next.oldest - map.oldest) map.changes) in
          let all : next.changes ≡ changes_since next.oldest map = is.changes ∙ take_all (length next.changes) (changes_since next.oldest map) (omega (arith, n)) in
          record {
            known = is.known;
            keeps = keeps;
            is = ap (λ f. record { oldest = next.oldest; first = f; changes = next.changes }) whole ∙ ap (λ cs. record { oldest = next.oldest; first = entries_at next.oldest map; changes = cs }) all;
          }
