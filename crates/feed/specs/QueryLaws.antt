-- A key that satisfies a query overlaps one of the keys under which the query is looked for.
use Rattle.std.specs.Prelude.{◌≡◌, ℕ, Bool, true, false, ◌||◌, List, [], ◌∷◌, ◌++◌, nat_le, Option, Some, None, option_map, if◌then◌else◌, refl}
use Rattle.std.specs.List.{list_any}
use Rattle.std.proofs.Common.{◌∙◌, ◌⊎◌, ⊎_elim, ap, subst, inl, inr}
use Rattle.std.proofs.lemmas.Bool.{and_parts, or_cases, or_left, or_right}
use Rattle.std.proofs.lemmas.List.Folds.{list_any-append}
use Rattle.key_class.specs.Queries.{Query, atom, both, either, never, matches_query}
use Rattle.feed.specs.Reaches.{MatchesOverlap, SatisfiedOverlap, narrower, reaches_of, together, total_size}

module _ {K A : Type 0} (is_match : A → K → Bool) (reach_of : A → Option K) (overlap_with : K → A) (size_of : K → ℕ) where
  list_any-one : (p : K → Bool) (k : K) → p k ≡ true → list_any p (k ∷ []) ≡ true
  list_any-one p k h = rw h refl

  -- what the narrower of two lists has, one of the two has
  one_of_two : (left right : Option (List K)) (keys : List K) → narrower size_of left right ≡ Some keys → (left ≡ Some keys) ⊎ (right ≡ Some keys)
  one_of_two (Some left) (Some right) keys is = by_test (nat_le (total_size size_of left) (total_size size_of right)) is
    where
      by_test : (b : Bool) → (if b then Some left else Some right) ≡ Some keys → (Some left ≡ Some keys) ⊎ (Some right ≡ Some keys)
      by_test true e = inl e
      by_test false e = inr e
  one_of_two (Some left) None keys is = inl is
  one_of_two None right keys is = inr is

  -- what two lists have together, one of them has
  both_of_two : (left right : Option (List K)) (keys : List K) → together left right ≡ Some keys
      → (l : List K) × (r : List K) × (left ≡ Some l) × (right ≡ Some r) × (keys ≡ l ++ r)
  both_of_two (Some left) (Some right) keys is = (left, right, refl, refl, (cc))
  both_of_two (Some left) None keys is = absurd (cc)
  both_of_two None right keys is = absurd (cc)

  module _ (law : MatchesOverlap is_match reach_of overlap_with) where
    atom_reached : (a : A) (o : Option K) → reach_of a ≡ o → (keys : List K) (key : K) → option_map (λ k. k ∷ []) o ≡ Some keys → is_match a key ≡ true → list_any (is_match (overlap_with key)) keys ≡ true
    atom_reached a (Some reach) e keys key is h =
        let one : reach ∷ [] ≡ keys = cc in
        subst (λ ks. list_any (is_match (overlap_with key)) ks ≡ true) one (list_any-one (is_match (overlap_with key)) reach (law a key reach e h))
    atom_reached a None e keys key is h = absurd (cc)

    pub satisfied_overlap : SatisfiedOverlap is_match reach_of overlap_with size_of
    satisfied_overlap (atom a) keys key is h = atom_reached a (reach_of a) refl keys key is h
    satisfied_overlap (both left right) keys key is h =
        let p = and_parts (matches_query is_match left key) (matches_query is_match right key) h in
        ⊎_elim (λ e. satisfied_overlap left keys key e p.0) (λ e. satisfied_overlap right keys key e p.1) (one_of_two (reaches_of reach_of size_of left) (reaches_of reach_of size_of right) keys is)
    satisfied_overlap (either left right) keys key is h =
        let w = both_of_two (reaches_of reach_of size_of left) (reaches_of reach_of size_of right) keys is in
        let found = is_match (overlap_with key) in
        let joined : list_any found keys ≡ (list_any found w.0 || list_any found w.1) = ap (list_any found) w.4 ∙ list_any-append found w.0 w.1 in
        joined
        ∙ ⊎_elim (λ x. or_left _ _ (satisfied_overlap left w.0 key w.2 x)) (λ x. or_right _ _ (satisfied_overlap right w.1 key w.3 x))
        (or_cases (matches_query is_match left key) (matches_query is_match right key) h)
    satisfied_overlap (never part) keys key is h = absurd (cc)
