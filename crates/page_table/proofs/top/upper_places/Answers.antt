use Rattle.std.proofs.Common.{rules, ◌≡◌, ◌∙◌, ◌<◌, ℕ, List, All, IfOk, ap, arith, get_or, refl, subst}
use Rattle.std.proofs.Math.ListN.{replicate}
use Rattle.std.proofs.lemmas.List.{get_or-replicate}
use Rattle.std.specs.Prelude.{Result, Ok, Err}
use Rattle.std.specs.Array.{AllZipBelow}
use Rattle.page_table.proofs.top.upper_places.Goals as goal

-- made from n times the same, each in the same way
all_made : {A B E : Type 0} (R : A → B → Type 0) {xs : List A} (n : ℕ) (x : A) (made : B) (r : Result (List B) E)
    → IfOk r (λ ys. AllZipBelow R xs ys n) → xs ≡ replicate n x → ((y : B) → R x y → y ≡ made) → IfOk r (All (λ y. y ≡ made))
all_made R n x made (Ok ys) zipped same is = λ k d l.
    let within : k < n = omega (arith, zipped.long, l) in
    is (get_or ys k d) (subst (λ w. R w (get_or ys k d)) (ap (λ zs. get_or zs k x) same ∙ get_or-replicate n k x x within) (zipped.at k x d within))
all_made R n x made (Err e) zipped same is = tt

pub returns-clause-each : goal.returns-clause-each
returns-clause-each g c = all_made _ 64 c.args.child c.args.child.now c.try_map.result c.try_map.ensures.ok refl (λ y made. search rules)
