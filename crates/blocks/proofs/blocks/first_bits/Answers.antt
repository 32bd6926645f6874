use Rattle.std.proofs.Common.{◌≤◌, arith, sym, mod-eq_of_lt, lt_of_lt_of_le}
use Rattle.std.proofs.Math.Nat.{pow-le-pow_right}
use Rattle.blocks.proofs.blocks.first_bits.Goals as goal

pub returns-else-count-lt64 : goal.returns-else-count-lt64
returns-else-count-lt64 c =
    let many : 64 ≤ c.args.count = omega (arith, c.if-count-lt64.false) in
    sym (mod-eq_of_lt (lt_of_lt_of_le c.ranges.bits.fits (pow-le-pow_right (omega arith) many)))
