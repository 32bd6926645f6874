use Rattle.std.proofs.Common.{◌≡◌, ◌≢◌, ℕ, ◌<◌, ◌+◌, ◌-◌, ◌≤◌, ◌++◌, false, List, [], ◌∷◌, length, slice_index_or, Option, Some, None, All, AllPairs, take, drop, arith, ap, subst, sym, ◌∙◌, ◌⊎◌, inl, inr, ⊎_elim, length-append, refl}
use Rattle.std.proofs.lemmas.Bool.{cases_lt, cases_eq}
use Rattle.std.proofs.lemmas.List.{get_or_default, take_all, take-append-le}
use Rattle.std.proofs.lemmas.List.Elements.{All-push}
use Rattle.std.proofs.lemmas.List.Quantifiers.{all_pairs_push}
use Rattle.std.proofs.lemmas.List.Sums.{count_by_more_no, count_by_more_yes}
use Rattle.std.proofs.lemmas.Option.{slice_get_within, get_or_from_slice_get, slice_get-get_or}
use Rattle.key_class.specs.declared.sides.Side.{Side}
use Rattle.key_class.specs.declared.sides.Side.TheVariants.{Left, Right}
use Rattle.key_class.specs.Groupings.{IsOpenAt, opens_of, is_unput}
use Rattle.box_class.specs.OpenPlaces.{AreOpenPlaces}

-- the open places below n, rising
pub record AreOpenBelow (sides : List (Option Side)) (n : ℕ) (places : List ℕ) : Type 0 where
  pub all : length places ≡ opens_of (take n sides)
  pub each : All (IsOpenAt sides) places
  pub rising : AllPairs (λ p q. p < q) places
  pub below : All (λ p. p < n) places

pub places_pushed : (sides : List (Option Side)) (n : ℕ) (old new : List ℕ) → new ≡ old ++ n ∷ [] → IsOpenAt sides n → AreOpenBelow sides n old → AreOpenBelow sides (n + 1) new
places_pushed sides n old new e o h =
    let l = slice_get_within sides n None o in
    let grown : AreOpenBelow sides (n + 1) (old ++ n ∷ []) = record {
      all = omega (arith, h.all, length-append old (n ∷ []), count_by_more_yes is_unput sides n None l (ap is_unput (get_or_from_slice_get sides n None None o)));
      each = All-push (IsOpenAt sides) old n h.each o;
      rising = all_pairs_push (λ p q. p < q) old n h.rising h.below;
      below = All-push (λ p. p < n + 1) old n (λ k d m. let t = h.below k d m in omega (arith, t)) (omega arith);
    } in
    subst (AreOpenBelow sides (n + 1)) (sym e) grown

closed_from : (s : Option Side) → s ≢ None → is_unput s ≡ false
closed_from None n = absurd (n refl)
closed_from (Some Left) n = refl
closed_from (Some Right) n = refl

pub places_kept : (sides : List (Option Side)) (n : ℕ) (places : List ℕ) → n < length sides → (IsOpenAt sides n → ⊥) → AreOpenBelow sides n places → AreOpenBelow sides (n + 1) places
places_kept sides n places l o h = record {
  all = omega (arith, h.all, count_by_more_no is_unput sides n None l (closed_from _ (λ e. o (slice_get-get_or sides n None l ∙ ap Some e))));
  each = h.each;
  rising = h.rising;
  below = λ k d m. let t = h.below k d m in omega (arith, t);
}

pub places_all : (sides : List (Option Side)) (n : ℕ) (places : List ℕ) → length sides ≤ n → AreOpenBelow sides n places → AreOpenPlaces sides places
places_all sides n places l h = record {
  all = h.all ∙ ap opens_of (take_all n sides l);
  each = h.each;
  apart = λ i j d b m e. let t = h.rising i j d b m in let f : ⊥ = omega (arith, t, e) in f;
}

-- places at different indices differ
apart_at : (places : List ℕ) (i j d : ℕ) → AllPairs (λ p q. p ≢ q) places → i < length places → j < length places → i ≢ j → slice_index_or places i d ≢ slice_index_or places j d
apart_at places i j d h l m ne e =
    ⊎_elim
    (λ (b : i < j). h i j d b m e)
    (λ (b : j ≤ i). h j i d (omega (arith, b, ne)) l (sym e))
    (cases_lt i j)

-- where each element stood before the n-th was taken out and the last took its place
record Source (before after : List ℕ) (n k : ℕ) : Type 0 where
  at : ℕ
  within : at < length before
  other : at ≢ n
  same : (d : ℕ) → slice_index_or after k d ≡ slice_index_or before at d
  kind : ((k ≡ n) × (at + 1 ≡ length before)) ⊎ ((k ≢ n) × (at ≡ k))

abbrev pub IsMoved : List ℕ → List ℕ → ℕ → Type 0
IsMoved before after n = ((d : ℕ) → n + 1 < length before → slice_index_or after n d ≡ slice_index_or before (length before - 1) d) × ((k d : ℕ) → k ≢ n → k + 1 < length before → slice_index_or after k d ≡ slice_index_or before k d)

source : (before after : List ℕ) (n k : ℕ) → length after + 1 ≡ length before → IsMoved before after n → k < length after → Source before after n k
source before after n k e by m =
    ⊎_elim
    (λ (q : k ≡ n). let r : Source before after n k = record {
      at = length before - 1;
      within = omega (arith, m, e);
      other = λ p. let t : ⊥ = omega (arith, m, e, p, q) in t;
      same = λ d. subst (λ x. slice_index_or after x d ≡ slice_index_or before (length before - 1) d) (sym q) (by.0 d (omega (arith, m, e, q)));
      kind = inl (q, omega (arith, m, e));
    } in r)
    (λ (q : k ≡ n → ⊥). let r : Source before after n k = record {
      at = k;
      within = omega (arith, m, e);
      other = q;
      same = λ d. by.1 k d q (omega (arith, m, e));
      kind = inr (q, refl);
    } in r)
    (cases_eq k n)

sources_apart : (before after : List ℕ) (n i j : ℕ) (s : Source before after n i) (t : Source before after n j) → length after + 1 ≡ length before → i < length after → j < length after → i ≢ j → s.at ≢ t.at
sources_apart before after n i j s t e l m ne q =
    ⊎_elim
    (λ (a : (i ≡ n) × (s.at + 1 ≡ length before)).
    ⊎_elim
    (λ (b : (j ≡ n) × (t.at + 1 ≡ length before)). ne (a.0 ∙ sym b.0))
    (λ (b : (j ≢ n) × (t.at ≡ j)). let f : ⊥ = omega (arith, a.1, b.1, q, m, e) in f)
    t.kind)
    (λ (a : (i ≢ n) × (s.at ≡ i)).
    ⊎_elim
    (λ (b : (j ≡ n) × (t.at + 1 ≡ length before)). let f : ⊥ = omega (arith, a.1, b.1, q, l, e) in f)
    (λ (b : (j ≢ n) × (t.at ≡ j)). ne (sym a.1 ∙ q ∙ b.1))
    t.kind)
    s.kind

-- what is left once one of them is put on a side
pub places_left : (old new : List (Option Side)) (before after : List ℕ) (n place : ℕ) → AreOpenPlaces old before → n < length before → place ≡ slice_index_or before n place → length after + 1 ≡ length before → IsMoved before after n → ((k : ℕ) → k ≢ place → IsOpenAt old k → IsOpenAt new k) → opens_of new + 1 ≡ opens_of old → AreOpenPlaces new after
places_left old new before after n place h l r e by others fewer = record {
  all = omega (arith, h.all, e, fewer);
  each = λ k d m.
      let s = source before after n k e by m in
      subst (IsOpenAt new) (sym (s.same d))
      (others _ (λ p. apart_at before s.at n d h.apart s.within l s.other (p ∙ r ∙ get_or_default before n place d l)) (h.each s.at d s.within));
  apart = λ i j d b m p.
      let i_within : i < length after = omega (arith, b, m) in
      let s = source before after n i e by i_within in
      let t = source before after n j e by m in
      apart_at before s.at t.at d h.apart s.within t.within
      (sources_apart before after n i j s t e i_within m (λ q. let f : ⊥ = omega (arith, b, q) in f))
      (sym (s.same d) ∙ p ∙ t.same d);
}

-- a list that was written over whole is as long
pub written_length : {X : Type 0} (xs ys : List X) (n : ℕ) → n ≡ length xs → length (take n (xs ++ drop (length xs) ys)) ≡ n
written_length xs ys n e = ap length (take-append-le n xs (drop (length xs) ys) (omega (arith, e)) ∙ take_all n xs (omega (arith, e))) ∙ sym e
