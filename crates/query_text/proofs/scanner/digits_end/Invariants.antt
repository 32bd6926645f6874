use Rattle.std.proofs.Common.{◌≡◌, ◌+◌, ◌-◌, ◌≤◌, length, take_while, drop}
use Rattle.query_text.specs.Tokens.{is_digit}
use Rattle.query_text.proofs.scanner.digits_end.Given as goal

abbrev pub invariant-digits : goal.invariant-digits
invariant-digits l = record {
  within : l.end ≤ length l.text;
  counted : l.end + length (take_while is_digit (drop l.end l.text)) ≡ l.start + length (take_while is_digit (drop l.start l.text));
}

abbrev pub decreases-digits : goal.decreases-digits
decreases-digits l = length l.text - l.end
