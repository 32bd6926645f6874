-- The numbers of all ids after a change.
use Rattle.std.proofs.Common.{◌≡◌, ◌∙◌, ℕ, cond, List, [], ◌∷◌, Some, None, refl, ap, arith}
use Rattle.std.proofs.lemmas.Bool.Decides.{nat_tests}
use Rattle.std.specs.Prelude.{nat_eq}
use Rattle.std.specs.Cmp.{nat_cmp_total}
use Rattle.std.specs.FinMap.{FinMap, empty, find, get, get-empty, insert, get-insert, remove, get-remove}
use Rattle.std.specs.Map.{lookup}
use Rattle.std.specs.Ordering.{eq_by_cmp, nat_cmp}

-- finite maps compare numbers as hash maps do
pub eq_by_nat_cmp : (id other : ℕ) → eq_by_cmp nat_cmp other id ≡ nat_eq id other
eq_by_nat_cmp id other = grind (arith, nat_tests)

same_test : (id other : ℕ) → eq_by_cmp nat_cmp id other ≡ nat_eq id other
same_test id other = grind (arith, nat_tests)

-- finite maps find numbers as hash maps do
pub find-lookup : (id : ℕ) (entries : List (ℕ × ℕ)) → find nat_cmp id entries ≡ lookup (nat_eq id) entries
find-lookup id [] = refl
find-lookup id (e ∷ entries) = rw (same_test id e.0, find-lookup id entries) refl

module _ (numbers : FinMap nat_cmp ℕ) (id : ℕ) where
  pub number-inserted : (number other : ℕ) → get (insert numbers id number) other ≡ cond (nat_eq id other) (Some number) (get numbers other)
  number-inserted number other =
      get-insert nat_cmp_total numbers id number other ∙ ap (λ b. cond b (Some number) (get numbers other)) (eq_by_nat_cmp id other)

  pub number-removed : (other : ℕ) → get (remove numbers id) other ≡ cond (nat_eq id other) None (get numbers other)
  number-removed other =
      get-remove nat_cmp_total numbers id other ∙ ap (λ b. cond b None (get numbers other)) (eq_by_nat_cmp id other)

pub number-empty : (id : ℕ) → get (empty {X = ℕ} {R = nat_cmp}) id ≡ None
number-empty id = get-empty nat_cmp id

pub ruleset numbers = (number-empty, number-inserted, number-removed)
