-- How the bits of answers are made.
use Rattle.std.specs.Prelude.{◌≡◌, ◌+◌, ◌*◌, ◌^◌, ◌<◌, ◌&&◌, refl, ℕ, Bool, true, false, cond, List, [], ◌∷◌, bit_and}
use Rattle.std.proofs.Common.{ap₂, ◌∙◌, sym, arith}
use Rattle.std.proofs.lemmas.Nat.{and_block}
use Rattle.key_class.specs.Bits.{bits_of}

one_bit : (p q : Bool) → bit_and (cond p 1 0) (cond q 1 0) ≡ cond (p && q) 1 0
one_bit true true = refl
one_bit true false = refl
one_bit false true = refl
one_bit false false = refl

below_two : (p : Bool) → cond p 1 0 < 2 ^ 1
below_two true = omega arith
below_two false = omega arith

turned : (b m : ℕ) → b + 2 * m ≡ m * 2 ^ 1 + b
turned b m = omega arith

-- what two tests tell together
pub both_tell : {X : Type 0} (p q : X → Bool) (xs : List X) → bit_and (bits_of p xs) (bits_of q xs) ≡ bits_of (λ x. p x && q x) xs
both_tell p q [] = refl
both_tell p q (x ∷ xs) =
    ap₂ bit_and (turned (cond (p x) 1 0) (bits_of p xs)) (turned (cond (q x) 1 0) (bits_of q xs))
    ∙ (and_block 1 (bits_of p xs) (bits_of q xs) (cond (p x) 1 0) (cond (q x) 1 0) (below_two (p x)) (below_two (q x))
    ∙ (ap₂ (λ m b. m * 2 ^ 1 + b) (both_tell p q xs) (one_bit (p x) (q x))
    ∙ sym (turned (cond (p x && q x) 1 0) (bits_of (λ x. p x && q x) xs))))
