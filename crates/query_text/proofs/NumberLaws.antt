-- What digits write grows with each digit.
use Rattle.std.proofs.Common.{◌≡◌, ℕ, suc, ◌+◌, ◌-◌, ◌*◌, ◌^◌, ◌<◌, ◌≤◌, List, [], ◌∷◌, drop, length, get_or, arith}
use Rattle.std.proofs.Math.Nat.{pow-le-pow_right}
use Rattle.std.proofs.Math.Seq.{drop-cons}
use Rattle.query_text.specs.Tokens.{decimal_value_after}

pub le-decimal_value_after : (n : ℕ) (bs : List ℕ) → n ≤ decimal_value_after n bs
le-decimal_value_after n [] = omega arith
le-decimal_value_after n (b ∷ bs) = omega (arith, le-decimal_value_after (n * 10 + (b - 48)) bs)

-- a number that is too large stays so
pub large_stays : (n i most : ℕ) (bs : List ℕ) → i < length bs → most ≤ n * 10 + (get_or bs i 0 - 48) → most ≤ decimal_value_after n (drop i bs)
large_stays n i most bs h k =
    let next : drop i bs ≡ get_or bs i 0 ∷ drop (suc i) bs = drop-cons bs i 0 h in
    rw next (omega (arith, le-decimal_value_after (n * 10 + (get_or bs i 0 - 48)) (drop (suc i) bs), k))

-- a number that i digits may write stays below 2^64 with one more, where these are 17 at most
pub few_stay_small : (n i last : ℕ) → i < 17 → n + 23 ≤ 23 * 10 ^ i → last ≤ 207 → n * 10 + last < 2 ^ 64
few_stay_small n i last few small digit =
    let within : i ≤ 16 = omega (arith, few) in
    let most : 10 ^ i ≤ 10 ^ 16 = pow-le-pow_right {n = 10} (omega arith) within in
    omega (arith, most, small, digit)
