use Rattle.std.proofs.Common.{◌≡◌, ◌∙◌, ◌+◌, ◌*◌, ◌<◌, ℕ, suc, List, [], ◌∷◌, ap, arith, cond, false, get_or, nat_eq, refl, sym}
use Rattle.key_class.specs.Bits.{bits_of}
use Rattle.node.proofs.entry_tests.equal_children.Goals as goal

none_so_high : (xs : List ℕ) (n : ℕ) → ((k : ℕ) → get_or xs k 0 < n) → 0 ≡ bits_of (λ x. nat_eq x n) xs
none_so_high [] n low = refl
none_so_high (x ∷ xs) n low =
    let here : x < n = low 0 in
    let other : nat_eq x n ≡ false = grind (arith, here) in
    let rest = none_so_high xs n (λ k. low (suc k)) in
    let same : 0 ≡ 0 + 2 * bits_of (λ y. nat_eq y n) xs = omega (arith, rest) in
    same ∙ ap (λ b. cond b 1 0 + 2 * bits_of (λ y. nat_eq y n) xs) (sym other)

pub returns-in-Err : goal.returns-in-Err
returns-in-Err c = none_so_high c.args.children.now c.args.number (λ k. omega (arith, c.fits-children k, c.in-Err.ensures))
