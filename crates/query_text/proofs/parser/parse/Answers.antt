use Rattle.std.proofs.Common.{◌≡◌}
use Rattle.key_class.specs.Limits.{most_bytes}
use Rattle.query_text.specs.Grammar.{too_long, refuses_tokens}
use Rattle.query_text.proofs.parser.parse.Goals as goal

pub returns-then-text-gt-MAX_LINE-clause-refuses : goal.returns-then-text-gt-MAX_LINE-clause-refuses
returns-then-text-gt-MAX_LINE-clause-refuses g c = λ place e.
    let same : most_bytes ≡ place = cc in
    rw (← same) (too_long c.if-text-gt-MAX_LINE.true)

pub returns-clause-refuses : goal.returns-clause-refuses
returns-clause-refuses g c = λ place e.
    refuses_tokens c.if-text-gt-MAX_LINE.false c.in_ok-scan.ensures.cut (rw c.deref.ensures.value at (c.parse_tokens.ensures.refuses place e))
