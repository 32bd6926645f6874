use Rattle.std.proofs.Common.{length, rules, w64, FitsSigned}
use Rattle.std.proofs.lemmas.Int.{to_z-of_z}
use Rattle.query_text.specs.Tokens.{placed}
use Rattle.query_text.proofs.IntervalLaws.{interval_at_is}
use Rattle.query_text.proofs.intervals.IntervalsClassText.read_key.Goals as goal

pub returns-in-Ok-clause-gives : goal.returns-in-Ok-clause-gives
returns-in-Ok-clause-gives c =
    let seen = placed c.args.text.now in
    let lo : FitsSigned w64 c.in_ok-lo.lo = search rules in
    let hi : FitsSigned w64 c.in_ok-hi.hi = search rules in
    interval_at_is (length c.args.text.now) (seen c.args.lexemes.now) _ _ _ _ _ _ c.in_ok-lo.lo c.in_ok-hi.hi c.in-Ok.key c.in_ok-place.ensures.gives c.in_ok-lo.ensures.gives c.in_ok-hi.ensures.gives c.in_ok-rest.ensures.gives (simp to_z-of_z at c.in-Ok.ensures.ends.0) (simp to_z-of_z at c.in-Ok.ensures.ends.1)
