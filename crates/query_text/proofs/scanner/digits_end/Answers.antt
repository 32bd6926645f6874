use Rattle.std.proofs.Common.{◌≡◌, true, sym, arith, drop}
use Rattle.query_text.specs.Tokens.{starts_with_digit}
use Rattle.query_text.proofs.NumberCuts.{digit_within, one_more_digit}
use Rattle.query_text.proofs.scanner.digits_end.Goals as goal

pub digits-preserved : goal.digits-preserved
digits-preserved c =
    let digit : starts_with_digit (drop c.digits.end c.args.text.now) ≡ true = rw c.behind.ensures at (sym c.digits-test.ensures) in
    record {
      within = omega (arith, digit_within c.digits.end c.args.text.now digit);
      counted = omega (arith, one_more_digit c.digits.end c.args.text.now digit, c.digits.invariant.counted);
    }
