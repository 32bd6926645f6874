-- A map that forgets changes tells the same of later revisions.
use Rattle.std.proofs.Common.{◌≡◌, ◌+◌, ◌-◌, ◌≤◌, ℕ, zero, suc, Bool, List, [], ◌∷◌, ◌++◌, take, drop, refl, sym, ap, ◌∙◌, arith}
use Rattle.std.proofs.lemmas.List.{drop-drop, length-drop, take-append-drop}
use Rattle.revisions.specs.declared.change.MapChange.{MapChange}
use Rattle.revisions.specs.declared.entry.MapEntry.{MapEntry}
use Rattle.revisions.specs.Items.{items_after, items_between}
use Rattle.revisions.specs.Maps.{MapState, changed, changes_since, entries_after, entries_at, entries_of, forgotten, restored, revision_of, with_change, with_changes}

-- the first changes, and then as many as are left of a number
pub taken_twice : {X : Type 0} → (a b : ℕ) (xs : List X) → take a xs ++ take b (drop a xs) ≡ take (a + b) xs
taken_twice zero b xs = let e : zero + b ≡ b = omega arith in ap (λ n. take n xs) (sym e)
taken_twice (suc a) b [] = none b
  where
    none : {X : Type 0} (b : ℕ) → ◌≡◌ {A = List X} (take b []) (take (suc a + b) [])
    none zero = let e : suc a + zero ≡ suc a = omega arith in ap (λ n. take n []) (sym e)
    none (suc b) = let e : suc a + suc b ≡ suc (a + suc b) = omega arith in ap (λ n. take n []) (sym e)
taken_twice (suc a) b (x ∷ xs) = let e : suc a + b ≡ suc (a + b) = omega arith in ap (λ l. x ∷ l) (taken_twice a b xs) ∙ ap (λ n. take n (x ∷ xs)) (sym e)

module _ {K : Type 0} where
  -- some changes and then others
  pub after_append : (entries : List (MapEntry K)) (first more : List (MapChange K)) → entries_after entries (first ++ more) ≡ entries_after (entries_after entries first) more
  after_append entries [] more = refl
  after_append entries (c ∷ cs) more = after_append (changed entries c) cs more

  pub revision_kept : (map : MapState K) (n : ℕ) → map.oldest ≤ n → n ≤ revision_of map → revision_of (forgotten n map) ≡ revision_of map
  revision_kept map n known within = omega (arith, known, within, length-drop (n - map.oldest) map.changes)

  pub entries_kept : (map : MapState K) (n later : ℕ) → map.oldest ≤ n → n ≤ later → entries_at later (forgotten n map) ≡ entries_at later map
  entries_kept map n later known l =
      let e : (n - map.oldest) + (later - n) ≡ later - map.oldest = omega arith in
      sym (after_append map.first (take (n - map.oldest) map.changes) (take (later - n) (drop (n - map.oldest) map.changes)))
      ∙ ap (entries_after map.first) (taken_twice (n - map.oldest) (later - n) map.changes ∙ ap (λ k. take k map.changes) e)

  pub since_kept : (map : MapState K) (n from : ℕ) → map.oldest ≤ n → n ≤ from → changes_since from (forgotten n map) ≡ changes_since from map
  since_kept map n from known l =
      let e : (n - map.oldest) + (from - n) ≡ from - map.oldest = omega arith in
      drop-drop (from - n) (n - map.oldest) map.changes ∙ ap (λ k. drop k map.changes) e

  pub items_kept : (wanted : K → Bool) (map : MapState K) (n from upto : ℕ) → map.oldest ≤ n → n ≤ from → items_between wanted from upto (forgotten n map) ≡ items_between wanted from upto map
  items_kept wanted map n from upto known l =
      ap (λ es. items_after wanted from es (take (upto - from) (changes_since from (forgotten n map)))) (entries_kept map n from known l)
      ∙ ap (λ cs. items_after wanted from (entries_at from map) (take (upto - from) cs)) (since_kept map n from known l)

  -- further changes follow those that a map knows
  changes_appended : (cs : List (MapChange K)) (map : MapState K) → entries_of (with_changes cs map) ≡ entries_after (entries_of map) cs
  changes_appended [] map = refl
  changes_appended (c ∷ cs) map = changes_appended cs (with_change c map) ∙ ap (λ es. entries_after es cs) (after_append map.first map.changes (c ∷ []))

  pub entries_restored : (map : MapState K) (n : ℕ) → map.oldest ≤ n → n ≤ revision_of map → entries_of (with_changes (changes_since n map) (restored n (entries_at n map))) ≡ entries_of map
  entries_restored map n known within =
      let d = n - map.oldest in
      changes_appended (changes_since n map) (restored n (entries_at n map))
      ∙ sym (after_append map.first (take (n - map.oldest) map.changes) (drop (n - map.oldest) map.changes))
      ∙ ap (entries_after map.first) (take-append-drop (n - map.oldest) map.changes)
