-- How long the digits of numbers are.
use Rattle.std.proofs.Common.{ℕ, ◌<◌, ◌≤◌, ◌^◌, length, arith}
use Rattle.std.specs.Fmt.{decimal}
use Rattle.std.proofs.lemmas.Fmt.{length-decimal-le}

-- 64 bits have at most 20 digits
pub digits_short : (n : ℕ) → n < 2 ^ 64 → length (decimal n) ≤ 20
digits_short n h = length-decimal-le 20 n (omega arith) (omega (arith, h)) h

-- and where one is the sign's, at most 19
pub size_short : (n : ℕ) → n ≤ 2 ^ 63 → length (decimal n) ≤ 19
size_short n h = length-decimal-le 19 n (omega arith) (omega (arith, h)) (omega (arith, h))
