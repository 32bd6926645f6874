-- A page that names a child, and a cover that is there.
use Rattle.std.proofs.Common.{◌≡◌, ℕ, ◌+◌, ◌<◌, Bool, true, false, ◌||◌, cond, eqb, List, [], ◌∷◌, Option, Some, None, arith}
use Rattle.std.specs.List.{list_any}
use Rattle.node.specs.declared.branch.Branch.{Branch}
use Rattle.node.specs.Pages.{is_within}
use Rattle.page_table.specs.Trees.{naming}
use Rattle.page_table.specs.Soundness.{IsWithin}

one_or_more : (x y : Bool) (n : ℕ) → (y ≡ true → 0 < n) → (x || y) ≡ true → 0 < cond x 1 0 + n
one_or_more true y n h e = omega arith
one_or_more false y n h e = omega (arith, h e)

pub names_naming : {K : Type 0} (c : ℕ) (bs : List (Branch K)) → list_any (λ b. eqb b.child c) bs ≡ true → 0 < naming c bs
names_naming c [] e = cc
names_naming c (b ∷ bs) e = one_or_more (eqb b.child c) (list_any (λ b. eqb b.child c) bs) (naming c bs) (names_naming c bs) e

pub within_is : {K : Type 0} (is_cover : K → K → Bool) (o : Option K) (k : K) → is_within is_cover o k ≡ true → IsWithin is_cover o k
within_is is_cover None k e = tt
within_is is_cover (Some bound) k e = e
