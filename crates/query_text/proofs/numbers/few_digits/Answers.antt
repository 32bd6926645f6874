use Rattle.std.proofs.Common.{◌<◌, arith}
use Rattle.query_text.proofs.NumberLaws.{few_stay_small}
use Rattle.query_text.proofs.numbers.few_digits.Goals as goal

pub overflow_mul-value : goal.overflow_mul-value
overflow_mul-value c =
    let few : c.loop-digit.digit-index < 17 = omega (arith, c.loop-digit-test.true, c.requires.few) in
    omega (arith, few_stay_small c.loop-digit.value c.loop-digit.digit-index 0 few c.loop-digit.invariant.small (omega arith))

pub overflow_add-value : goal.overflow_add-value
overflow_add-value c =
    let few : c.loop-digit.digit-index < 17 = omega (arith, c.loop-digit-test.true, c.requires.few) in
    omega (arith, few_stay_small c.loop-digit.value c.loop-digit.digit-index c.digit_value.result few c.loop-digit.invariant.small c.digit_value.ensures.small)
