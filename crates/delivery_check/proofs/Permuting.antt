-- What two arrangements with a common front have behind it, where equality of elements is decided.
use Rattle.std.proofs.Common.{◌≡◌, ◌<◌, ℕ, Bool, true, false, cond, ◌&&◌, ◌↔◌, List, [], ◌∷◌, ◌++◌, refl, sym, ap, arith, subst}
use Rattle.std.specs.Prelude.{nat_eq, sum_by, Contains, IsPermutation}
use Rattle.std.proofs.lemmas.Bool.{and_from, and_parts, eq-eqb, eqb-true}
use Rattle.std.proofs.lemmas.List.Elements.{Contains-append_right}
use Rattle.std.proofs.lemmas.List.Sums.{sum_by-append, sum_by-cons}
use Rattle.std.proofs.lemmas.List.Sorted.{sum_by-IsPermutation}
use Rattle.change_list.specs.declared.item.Row.{Row}

module _ {X : Type 0} (same : X → X → Bool) (decides : (x y : X) → (same x y ≡ true) ↔ (x ≡ y)) where
  contained : (x : X) (ys : List X) → 0 < sum_by (λ y. cond (same x y) 1 0) ys → Contains ys x
  contained x [] h = absurd (omega (arith, h))
  contained x (y ∷ ys) h = by_test (same x y) refl (λ l. contained x ys l)
    where
      by_test : (b : Bool) → same x y ≡ b → (0 < sum_by (λ y. cond (same x y) 1 0) ys → Contains ys x) → Contains (y ∷ ys) x
      by_test true e r = (0, omega arith, sym ((decides x y).0 e))
      by_test false e r =
          let w : cond {A = ℕ} (same x y) 1 0 ≡ 0 = rw e refl in
          Contains-append_right (y ∷ []) ys x (r (omega (arith, h, w, sum_by-cons (λ y. cond (same x y) 1 0) y ys)))

  -- an element behind the front of one arrangement stands behind that of the other
  pub behind_front : (all front xs ys : List X) (x : X) → IsPermutation all (front ++ xs) → IsPermutation all (front ++ x ∷ ys) → Contains xs x
  behind_front all front xs ys x p q =
      let w : X → ℕ = λ y. cond (same x y) 1 0 in
      let one : ℕ = 1 in
      let here : w x ≡ 1 = ap (λ b. cond b one 0) ((decides x x).1 refl) in
      contained x xs (omega (
        arith,
        sum_by-IsPermutation w all (front ++ xs) p,
        sum_by-IsPermutation w all (front ++ x ∷ ys) q,
        sum_by-append w front xs,
        sum_by-append w front (x ∷ ys),
        sum_by-cons w x ys,
        here,
      ))

module _ {K : Type 0} (eq : K → K → Bool) (exact : (a b : K) → (eq a b ≡ true) ↔ (a ≡ b)) where
  -- rows are equal where their numbers, keys and tags are
  abbrev same_row : Row K → Row K → Bool
  same_row r q = nat_eq r.row q.row && (eq r.key q.key && nat_eq r.tag q.tag)

  same_row-exact : (r q : Row K) → (same_row r q ≡ true) ↔ (r ≡ q)
  same_row-exact r q = (there, λ e. subst (λ x. same_row r x ≡ true) e (and_from _ _ (eq-eqb r.row r.row refl) (and_from _ _ ((exact r.key r.key).1 refl) (eq-eqb r.tag r.tag refl))))
    where
      there : same_row r q ≡ true → r ≡ q
      there h =
          let a = and_parts (nat_eq r.row q.row) (eq r.key q.key && nat_eq r.tag q.tag) h in
          let b = and_parts (eq r.key q.key) (nat_eq r.tag q.tag) a.1 in
          let n : r.row ≡ q.row = eqb-true r.row q.row a.0 in
          let k : r.key ≡ q.key = (exact r.key q.key).0 b.0 in
          let g : r.tag ≡ q.tag = eqb-true r.tag q.tag b.1 in
          λ i. record { row = n i; key = k i; tag = g i }

  pub row_behind : (all front xs ys : List (Row K)) (row : Row K) → IsPermutation all (front ++ xs) → IsPermutation all (front ++ row ∷ ys) → Contains xs row
  row_behind = behind_front same_row same_row-exact
