-- The topics that a commit has to test.
use Rattle.std.proofs.Common.{◌≡◌, ◌⊎◌, ℕ, true, List, ◌++◌, map, Option, Some, None, refl, sym, ap, ◌∙◌, subst, inl, inr}
use Rattle.std.specs.Prelude.{Contains, IsPermutation, option_map, slice_index_or}
use Rattle.std.proofs.lemmas.List.Elements.{All-contains, Contains-append_left, Contains-append_right}
use Rattle.std.proofs.lemmas.List.Sorted.{Contains-permutation, IsPermutation-sym}
use Rattle.key_class.specs.Queries.{Query, query_of}
use Rattle.key_class.specs.Rules.{Rules, satisfies}
use Rattle.key_class.specs.declared.pred.Pred.TheVariants.{Atom}
use Rattle.change_list.specs.declared.item.Item.{Item}
use Rattle.change_list.specs.declared.item.Row.{Row}
use Rattle.change_list.specs.declared.write.Write.{Write}
use Rattle.change_list.specs.Changes.{item_at}
use Rattle.feed.specs.QueryLaws.{satisfied_overlap}
use Rattle.feed.specs.Reaches.{MatchesOverlap}
use Rattle.feed.specs.declared.change.Change.{Change}
use Rattle.feed.specs.declared.topics.Topic.{Topic}
use Rattle.feed.specs.Changing.{IsChangeOf}
use Rattle.feed.specs.Asking.{AreAllConcerned, item_for}
use Rattle.feed.specs.Hearing.{TopicState}
use Rattle.feed.specs.Holding.{AreEnrolled, IsPlantedIn, topic_state}
use Rattle.feed.specs.Planting.{HasRow, tags_at}
use Rattle.feed.proofs.Concerning.{item_concerns}
use Rattle.feed.proofs.Hearing.{topic_shown}
use Rattle.feed.proofs.Members.{some_passes}
use Rattle.feed.proofs.Tending.{tag_found}

module _ {K A : Type 0} (rules : Rules K A) (reach_of : A → Option K) (overlap_with : K → A) (law : MatchesOverlap rules.is_match reach_of overlap_with) where
  -- a planted topic is found by each key that satisfies its query
  pub planted_found : (tree : List (Write K)) (query : Query A) (number : ℕ) (row : Row K) → IsPlantedIn reach_of rules.size_of tree query number → satisfies rules query row.key ≡ true → Contains (tags_at rules overlap_with tree (Some row)) number
  planted_found tree query number row p wanted =
      let some = some_passes (rules.is_match (overlap_with row.key)) p.keys (satisfied_overlap rules.is_match reach_of overlap_with rules.size_of law query p.keys row.key p.reaches wanted) in
      tag_found rules (Atom (overlap_with row.key)) tree number some.0 some.2 (All-contains (HasRow tree number) p.keys some.0 p.rows some.1)

  module _ (commits tree : List (Write K)) (place : ℕ) (always numbers : List ℕ) (topics : List (Option (Topic A))) (change : Change K) (of : IsChangeOf commits place change) (h : AreEnrolled reach_of rules.size_of tree always topics)
      (are : IsPermutation numbers ((always ++ tags_at rules overlap_with tree change.ended) ++ tags_at rules overlap_with tree change.made)) where
    among : (number : ℕ) → Contains ((always ++ tags_at rules overlap_with tree change.ended) ++ tags_at rules overlap_with tree change.made) number → Contains numbers number
    among number c = Contains-permutation _ numbers number (IsPermutation-sym numbers _ are) c

    asked : (number : ℕ) → Contains always number → Contains numbers number
    asked number c =
        among number (Contains-append_left (always ++ tags_at rules overlap_with tree change.ended) _ number (Contains-append_left always _ number c))

    ended : (row : Row K) → change.ended ≡ Some row → (number : ℕ) → Contains (tags_at rules overlap_with tree (Some row)) number → Contains numbers number
    ended row e number c =
        among number (Contains-append_left (always ++ tags_at rules overlap_with tree change.ended) _ number
        (Contains-append_right always _ number (subst (λ o. Contains (tags_at rules overlap_with tree o) number) (sym e) c)))

    made : (row : Row K) → change.made ≡ Some row → (number : ℕ) → Contains (tags_at rules overlap_with tree (Some row)) number → Contains numbers number
    made row e number c =
        among number (Contains-append_right (always ++ tags_at rules overlap_with tree change.ended) _ number
        (subst (λ o. Contains (tags_at rules overlap_with tree o) number) (sym e) c))

    -- the topic whose query has the number
    shown_from : (number : ℕ) (query : Query A) (o : Option (Topic A)) → slice_index_or topics number None ≡ o → option_map (λ t. t.query) (option_map topic_state o) ≡ Some query
        → (t : Topic A) × (slice_index_or topics number None ≡ Some t) × (query_of t.query ≡ query)
    shown_from number query None e is = absurd (cc)
    shown_from number query (Some t) e is = (t, e, (cc))

    -- each query for which the commit has an item is among those that are tested
    pub all_concerned : AreAllConcerned rules commits (map (option_map topic_state) topics) place numbers
    all_concerned number query found =
        let f = shown_from number query (slice_index_or topics number None) refl (sym (ap (option_map (λ (t : TopicState A). t.query)) (topic_shown topics number)) ∙ found) in
        subst (λ q. (item_for rules commits q place ≡ None) ⊎ Contains numbers number) f.2 (by_item f.0 f.1 (item_at (satisfies rules (query_of f.0.query)) commits place) refl)
      where
        by_way : (t : Topic A) → slice_index_or topics number None ≡ Some t → (item : Item K) → item_at (satisfies rules (query_of t.query)) commits place ≡ Some item → Contains always number ⊎ IsPlantedIn reach_of rules.size_of tree (query_of t.query) number → Contains numbers number
        by_way t is item e (inl c) = asked number c
        by_way t is item e (inr p) =
            let k = item_concerns (satisfies rules (query_of t.query)) commits place change of item e in
            let here = planted_found tree (query_of t.query) number k.row p k.is_wanted in
            elim k.touched [ inl touched ↦ ended k.row touched number here | inr touched ↦ made k.row touched number here ]

        by_item : (t : Topic A) → slice_index_or topics number None ≡ Some t → (o : Option (Item K)) → item_at (satisfies rules (query_of t.query)) commits place ≡ o
            → (item_for rules commits (query_of t.query) place ≡ None) ⊎ Contains numbers number
        by_item t is None e = inl e
        by_item t is (Some item) e = inr (by_way t is item e (h.asked number t is))

module _ {K A : Type 0} (rules : Rules K A) (commits : List (Write K)) (topics : List (Option (TopicState A))) (place : ℕ) where
  -- other numbers, which include the same ones
  pub concerned_among : (numbers others : List ℕ) → ((number : ℕ) → Contains numbers number → Contains others number) → AreAllConcerned rules commits topics place numbers → AreAllConcerned rules commits topics place others
  concerned_among numbers others stays all number query found = elim (all number query found) [ inl none ↦ inl none | inr c ↦ inr (stays number c) ]
