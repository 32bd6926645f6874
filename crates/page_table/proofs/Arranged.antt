-- From equal weights to an arrangement, where equality of members is decided.
use Rattle.std.proofs.Common.{◌≡◌, ◌↔◌, ◌+◌, ◌≤◌, ℕ, Bool, true, cond, List, [], ◌∷◌, ◌++◌, inl, inr, refl, sym, ap, ◌∙◌, arith, subst}
use Rattle.std.specs.Prelude.{IsPermutation}
use Rattle.std.proofs.lemmas.Bool.{cases_Bool}
use Rattle.std.proofs.lemmas.List.Sorted.{IsPermutation-refl, IsPermutation-cons, IsPermutation-middle, IsPermutation-trans, IsPermutation-sym}
use Rattle.page_table.proofs.Weights.{weigh-append}
use Rattle.page_table.specs.Weights.{Same, weigh}

module _ {A : Type 0} (same : A → A → Bool) (exact : (x y : A) → (same x y ≡ true) ↔ (x ≡ y)) where
  abbrev is_it : A → A → ℕ
  is_it x y = cond (same x y) 1 0

  it_is : (x : A) → is_it x x ≡ 1
  it_is x = let f : Bool → ℕ = λ b. cond b 1 0 in ap f ((exact x x).1 refl)

  -- a member that weighs is somewhere in the list
  member : (x : A) (ys : List A) → 1 ≤ weigh (is_it x) ys → (front : List A) × (back : List A) × (ys ≡ front ++ x ∷ back)
  member x [] h = absurd (omega arith)
  member x (y ∷ ys) h = elim (cases_Bool (same x y)) [
    | inl e ↦ ([], ys, ap (λ z. z ∷ ys) (sym ((exact x y).0 e)))
    | inr e ↦
        let f : Bool → ℕ = λ b. cond b 1 0 in
        let zero_here : is_it x y ≡ 0 = ap f e in
        let m = member x ys (omega (arith, h, zero_here)) in
        (y ∷ m.0, m.1, ap (λ zs. y ∷ zs) m.2)
  ]

  pub arranged : (xs ys : List A) → Same xs ys → IsPermutation xs ys
  arranged [] [] h = IsPermutation-refl []
  arranged [] (y ∷ ys) h = absurd (let e : weigh (λ (x : A). 1) [] ≡ weigh (λ (x : A). 1) (y ∷ ys) = h (λ x. 1) in omega (arith, e))
  arranged (x ∷ xs) ys h =
      let m = member x ys (omega (arith, it_is x, h (is_it x))) in
      let rest : Same xs (m.0 ++ m.1) = λ f.
      let e : weigh f (x ∷ xs) ≡ weigh f (m.0 ++ x ∷ m.1) = h f ∙ ap (weigh f) m.2 in
      let a : weigh f (m.0 ++ x ∷ m.1) ≡ weigh f m.0 + (f x + weigh f m.1) = weigh-append f m.0 (x ∷ m.1) in
      omega (arith, e, a, weigh-append f m.0 m.1) in
      IsPermutation-trans (x ∷ xs) (x ∷ (m.0 ++ m.1)) ys (IsPermutation-cons x xs (m.0 ++ m.1) (arranged xs (m.0 ++ m.1) rest))
      (subst (λ zs. IsPermutation (x ∷ (m.0 ++ m.1)) zs) (sym m.2) (IsPermutation-sym (m.0 ++ x ∷ m.1) (x ∷ (m.0 ++ m.1)) (IsPermutation-middle m.0 x m.1)))
