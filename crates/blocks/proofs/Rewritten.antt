-- A loop that changes the values that pass, one after the other.
use Rattle.std.proofs.Common.{◌≡◌, ◌∙◌, ◌+◌, ◌<◌, ◌≤◌, ℕ, suc, Bool, true, false, List, [], ◌∷◌, length, get_or, set, refl, sym, subst, ap, arith, ⊎_elim}
use Rattle.std.specs.List.{AllZip}
use Rattle.std.proofs.lemmas.Bool.{cases_eq, cases_lt}
use Rattle.std.proofs.lemmas.List.{get_or-map, get_or-set_other, get_or-set_same, get_or_default, length-set}
use Rattle.blocks.specs.Firsts.{passes_at, IsFirstFrom, NonePassFrom}
use Rattle.blocks.specs.Rewriting.{Becomes}
use Rattle.blocks.proofs.Passing.{not_both}

zip_by_places : {X : Type 0} (R : X → X → Type 0) (xs ys : List X) → length ys ≡ length xs → ((k : ℕ) (d : X) → k < length xs → R (get_or xs k d) (get_or ys k d)) → AllZip R xs ys
zip_by_places R [] [] e each = tt
zip_by_places R [] (y ∷ ys) e each = absurd (omega (arith, e))
zip_by_places R (x ∷ xs) [] e each = absurd (omega (arith, e))
zip_by_places R (x ∷ xs) (y ∷ ys) e each = (each 0 x (omega arith), zip_by_places R xs ys (omega (arith, e)) (λ k d l. each (suc k) d (omega (arith, l))))

module _ {X : Type 0} (test : X → Bool) (change : X → X → Type 0) where
  -- the values before a place are changed, and the others are as they were
  pub record IsRewrittenTo (old new : List X) (from : ℕ) : Type 0 where
    pub len : length new ≡ length old
    pub done : (k : ℕ) (d : X) → k < from → k < length old → Becomes test change (get_or old k d) (get_or new k d)
    pub left : (k : ℕ) (d : X) → from ≤ k → get_or new k d ≡ get_or old k d

  pub none_rewritten : (xs : List X) → IsRewrittenTo xs xs 0
  none_rewritten xs = record {
    len = refl;
    done = λ k d l. absurd (omega (arith, l));
    left = λ k d l. refl;
  }

  module _ (old new : List X) (from : ℕ) (is : IsRewrittenTo old new from) where
    told : (k : ℕ) (d : X) (answer : Bool) → from ≤ k → k < length old → passes_at test new k ≡ answer → test (get_or old k d) ≡ answer
    told k d answer l h e = ap test (sym (is.left k d l)) ∙ sym (get_or-map test new k d false (omega (arith, h, is.len))) ∙ e

    -- a value that doesn't pass, and is left as it was
    passed_by : (k : ℕ) (d : X) → from ≤ k → k < length old → passes_at test new k ≡ false → Becomes test change (get_or old k d) (get_or new k d)
    passed_by k d l h fails = record {
      changed = λ passes. absurd (not_both _ passes (told k d false l h fails));
      same = λ no. is.left k d l;
    }

    one_rewritten : (place : ℕ) → IsFirstFrom test new from place → (x y : X) → x ≡ get_or new place x → change x y → IsRewrittenTo old (set new place y) (place + 1)
    one_rewritten place first x y e given = record {
      len = length-set new place y ∙ is.len;
      done = λ k d l h.
          ⊎_elim
          (λ (same : k ≡ place). subst (λ n. Becomes test change (get_or old n d) (get_or (set new place y) n d)) (sym same) (here d))
          (λ (other : k ≡ place → ⊥).
          subst (Becomes test change (get_or old k d)) (sym (get_or-set_other new place k y d other))
          (⊎_elim (λ (b : k < from). is.done k d b h) (λ (b : from ≤ k). passed_by k d b h (first.none_before k b (omega (arith, l, other)))) (cases_lt k from)))
          (cases_eq k place);
      left = λ k d l. get_or-set_other new place k y d (λ (same : k ≡ place). omega (arith, l, same)) ∙ is.left k d (omega (arith, l, first.behind));
    }
      where
        here : (d : X) → Becomes test change (get_or old place d) (get_or (set new place y) place d)
        here d =
            let was : x ≡ get_or old place d = e ∙ get_or_default new place x d first.within ∙ is.left place d first.behind in
            subst (Becomes test change (get_or old place d)) (sym (get_or-set_same new place y d first.within))
            (record {
              changed = λ passes. subst (λ z. change z y) was given;
              same = λ fails. absurd (not_both _ (told place d true first.behind (omega (arith, first.within, is.len)) first.passes) fails);
            })

    pub rewritten_by_set : (place : ℕ) → IsFirstFrom test new from place → (x y : X) → x ≡ get_or new place x → change x y → (after : List X) → after ≡ set new place y → IsRewrittenTo old after (place + 1)
    rewritten_by_set place first x y e given after is_set = subst (λ xs. IsRewrittenTo old xs (place + 1)) (sym is_set) (one_rewritten place first x y e given)

    pub all_rewritten : NonePassFrom test new from → AllZip (Becomes test change) old new
    all_rewritten none =
        zip_by_places (Becomes test change) old new is.len
        (λ k d l. ⊎_elim (λ (b : k < from). is.done k d b l) (λ (b : from ≤ k). passed_by k d b l (none k b)) (cases_lt k from))
