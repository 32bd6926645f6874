-- Ones that count links, and small facts.
use Rattle.std.proofs.Common.{ℕ, ◌+◌, ◌<◌, ◌≤◌, ◌≡◌, List, [], ◌∷◌, All, ap, arith, sym, ◌∙◌, subst, cond, Bool, true, false, inl, inr}
use Rattle.std.proofs.lemmas.Bool.{eq-eqb, ne_eqb}
use Rattle.std.proofs.lemmas.List.Elements.{All-head, All-tail, All-nil, All-cons}
use Rattle.std.proofs.lemmas.Bool.{cases_eq}
use Rattle.node.specs.declared.branch.Branch.{Branch}
use Rattle.page_table.proofs.PageLists.{is_or_not}
use Rattle.page_table.specs.Trees.{naming}
use Rattle.page_table.specs.Weights.{one_if_equal, weigh}

pub false_true : (b : Bool) → b ≡ false → b ≡ true → ⊥
false_true b e f = cc

pub one-equal : (x c : ℕ) → x ≡ c → one_if_equal x c ≡ 1
one-equal x c e = let f : Bool → ℕ = λ b. cond b 1 0 in ap f (eq-eqb x c e)

pub one-different : (x c : ℕ) → ((x ≡ c) → ⊥) → one_if_equal x c ≡ 0
one-different x c n = let f : Bool → ℕ = λ b. cond b 1 0 in ap f (ne_eqb x c n)

-- a child that is named has what all children have
pub named-All : {K : Type 0} (P : ℕ → Type 0) (c : ℕ) (bs : List (Branch K)) → 0 < naming c bs → All (λ b. P b.child) bs → P c
named-All P c [] l h = absurd (omega arith)
named-All {K} P c (b ∷ bs) l h = elim (is_or_not b.child c) [
  | inl e ↦ subst P e (All-head (λ (b : Branch K). P b.child) b bs h)
  | inr n ↦ named-All P c bs (omega (arith, one-different b.child c n)) (All-tail (λ (b : Branch K). P b.child) b bs h)
]

-- the entry that names c
pub named_branch : {K : Type 0} (Q : Branch K → Type 0) (c : ℕ) (bs : List (Branch K)) → 0 < naming c bs → All Q bs → (b : Branch K) × (b.child ≡ c) × Q b
named_branch Q c [] l h = absurd (omega arith)
named_branch {K} Q c (b ∷ bs) l h = elim (is_or_not b.child c) [
  | inl e ↦ (b, e, All-head Q b bs h)
  | inr n ↦ named_branch Q c bs (omega (arith, one-different b.child c n)) (All-tail Q b bs h)
]

pub not_named : {K : Type 0} (c : ℕ) (bs : List (Branch K)) → naming c bs ≡ 0 → All (λ b. (b.child ≡ c) → ⊥) bs
not_named c [] e = All-nil (λ b. (b.child ≡ c) → ⊥)
not_named {K} c (b ∷ bs) e = All-cons (λ (b : Branch K). (b.child ≡ c) → ⊥) b bs (λ f. let k : one_if_equal b.child c ≡ 1 = one-equal b.child c f in absurd (omega arith)) (not_named c bs (omega arith))

-- weights of two different members
pub found_one : (h : ℕ → ℕ) (p : ℕ) (xs : List ℕ) → 1 ≤ weigh (λ x. one_if_equal x p) xs → h p ≤ weigh h xs
found_one h p [] a = absurd (omega arith)
found_one h p (x ∷ xs) a = elim (cases_eq x p) [
  | inl e ↦ omega (arith, ap h e)
  | inr d ↦ omega (arith, found_one h p xs (omega (arith, a, one-different x p d)))
]

pub found_two : (h : ℕ → ℕ) (p q : ℕ) → ((p ≡ q) → ⊥) → (xs : List ℕ) → 1 ≤ weigh (λ x. one_if_equal x p) xs → 1 ≤ weigh (λ x. one_if_equal x q) xs → h p + h q ≤ weigh h xs
found_two h p q d [] a b = absurd (omega arith)
found_two h p q d (x ∷ xs) a b = elim (cases_eq x p) [
  | inl e ↦ omega (arith, ap h e, found_one h q xs (omega (arith, b, one-different x q (λ f. d (sym e ∙ f)))))
  | inr n ↦ elim (cases_eq x q) [
    | inl f ↦ omega (arith, ap h f, found_one h p xs (omega (arith, a, one-different x p n)))
    | inr m ↦ omega (arith, found_two h p q d xs (omega (arith, a, one-different x p n)) (omega (arith, b, one-different x q m)))
  ]
]
