-- The items up to a revision, and those after it.
use Rattle.std.proofs.Common.{◌≡◌, ◌+◌, ◌-◌, ◌≤◌, ℕ, Bool, List, [], ◌∷◌, ◌++◌, length, take, drop, sym, ap, ◌∙◌, arith, append_assoc}
use Rattle.std.specs.Prelude.{option_to_list}
use Rattle.std.proofs.lemmas.List.{drop-drop, length-drop, length-take}
use Rattle.revisions.specs.declared.change.MapChange.{MapChange}
use Rattle.revisions.specs.declared.entry.MapEntry.{MapEntry}
use Rattle.revisions.specs.declared.item.MapItem.{MapItem}
use Rattle.revisions.specs.Items.{AreItems, item_of, items_after, items_between}
use Rattle.revisions.specs.Maps.{MapState, changed, changes_since, entries_after, entries_at, revision_of}
use Rattle.revisions.proofs.Forgetting.{after_append, taken_twice}

module _ {K : Type 0} (wanted : K → Bool) where
  pub items_append : (n : ℕ) (entries : List (MapEntry K)) (first more : List (MapChange K)) → items_after wanted n entries (first ++ more) ≡ items_after wanted n entries first ++ items_after wanted (n + length first) (entries_after entries first) more
  items_append n entries [] more = let e : n + 0 ≡ n = omega arith in ap (λ k. items_after wanted k entries more) (sym e)
  items_append n entries (c ∷ cs) more =
      let e : n + 1 + length cs ≡ n + length (c ∷ cs) = omega arith in
      let own = option_to_list (item_of wanted (n + 1) entries c) in
      ap (λ l. own ++ l) (items_append (n + 1) (changed entries c) cs more ∙ ap (λ k. items_after wanted (n + 1) (changed entries c) cs ++ items_after wanted k (entries_after (changed entries c) cs) more) e)
      ∙ sym (append_assoc own _ _)

  module _ (map : MapState K) (from n upto : ℕ) (known : map.oldest ≤ from) (first : from ≤ n) (later : n ≤ upto) (within : upto ≤ revision_of map) where
    a : ℕ
    a = from - map.oldest

    counted : length (take (n - from) (changes_since from map)) ≡ n - from
    unfolding a
    counted = omega (arith, length-take (n - from) (drop (from - map.oldest) map.changes), length-drop (from - map.oldest) map.changes)

    halves : take (n - from) (changes_since from map) ++ take (upto - n) (changes_since n map) ≡ take (upto - from) (changes_since from map)
    halves =
        let there : changes_since n map ≡ drop (n - from) (changes_since from map) =
        (let e : (from - map.oldest) + (n - from) ≡ n - map.oldest = omega arith in ap (λ k. drop k map.changes) (sym e) ∙ sym (drop-drop (n - from) (from - map.oldest) map.changes)) in
        let e : (n - from) + (upto - n) ≡ upto - from = omega arith in
        ap (λ cs. take (n - from) (changes_since from map) ++ take (upto - n) cs) there ∙ taken_twice (n - from) (upto - n) (changes_since from map) ∙ ap (λ k. take k (changes_since from map)) e

    entries_there : entries_after (entries_at from map) (take (n - from) (changes_since from map)) ≡ entries_at n map
    entries_there =
        let e : (from - map.oldest) + (n - from) ≡ n - map.oldest = omega arith in
        sym (after_append map.first (take (from - map.oldest) map.changes) (take (n - from) (drop (from - map.oldest) map.changes)))
        ∙ ap (entries_after map.first) (taken_twice (from - map.oldest) (n - from) map.changes ∙ ap (λ k. take k map.changes) e)

    pub between_goes_on : items_between wanted from n map ++ items_between wanted n upto map ≡ items_between wanted from upto map
    between_goes_on =
        let e : from + length (take (n - from) (changes_since from map)) ≡ n = omega (arith, counted) in
        sym (ap (items_after wanted from (entries_at from map)) (sym halves) ∙ items_append from (entries_at from map) (take (n - from) (changes_since from map)) (take (upto - n) (changes_since n map))
        ∙ ap (λ k. items_between wanted from n map ++ items_after wanted k (entries_after (entries_at from map) (take (n - from) (changes_since from map))) (take (upto - n) (changes_since n map))) e
        ∙ ap (λ es. items_between wanted from n map ++ items_after wanted n es (take (upto - n) (changes_since n map))) entries_there)

  pub goes_on : (map : MapState K) (from n upto : ℕ) (given further : List (MapItem K)) → AreItems wanted from n map given → AreItems wanted n upto map further → AreItems wanted from upto map (given ++ further)
  goes_on map from n upto given further g f = record {
    known = g.known;
    from_before = omega (arith, g.from_before, f.from_before);
    within = f.within;
    is = ap (λ l. l ++ further) g.is ∙ ap (λ l. items_between wanted from n map ++ l) f.is ∙ between_goes_on map from n upto g.known g.from_before f.from_before f.within;
  }
