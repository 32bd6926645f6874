use Rattle.std.proofs.Common.{◌^◌}
use Rattle.query_text.proofs.NumberLaws.{large_stays}
use Rattle.query_text.proofs.numbers.magnitude.Goals as goal

pub returns-in_default : goal.returns-in_default
returns-in_default c =
    rw (← c.loop-digit.invariant) (large_stays c.loop-digit.value c.loop-digit.digit-index (2 ^ 64) c.args.digits.now c.loop-digit-test.true c.in_default.ensures)
