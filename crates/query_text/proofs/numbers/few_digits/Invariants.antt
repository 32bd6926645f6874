use Rattle.std.proofs.Common.{◌≡◌, ◌+◌, ◌*◌, ◌^◌, ◌≤◌, drop}
use Rattle.query_text.specs.Tokens.{decimal_value_after}
use Rattle.query_text.proofs.numbers.few_digits.Given as goal

abbrev pub invariant-loop-digit : goal.invariant-loop-digit
invariant-loop-digit l = record {
  written : decimal_value_after l.value (drop l.digit-index l.digits) ≡ decimal_value_after 0 l.digits;
  small : l.value + 23 ≤ 23 * 10 ^ l.digit-index;
}
