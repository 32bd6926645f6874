use Rattle.std.proofs.Common.{◌≡◌, drop}
use Rattle.query_text.specs.Tokens.{decimal_value_after}
use Rattle.query_text.proofs.numbers.magnitude.Given as goal

abbrev pub invariant-loop-digit : goal.invariant-loop-digit
invariant-loop-digit l = decimal_value_after l.value (drop l.digit-index l.digits) ≡ decimal_value_after 0 l.digits
