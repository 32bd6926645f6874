use Rattle.std.proofs.Common.{rules, w64, FitsSigned}
use Rattle.query_text.proofs.IntervalLaws.{interval_reads_back}
use Rattle.query_text.proofs.intervals.IntervalsClassText.put_text.Goals as goal

pub returns-clause-read_back : goal.returns-clause-read_back
returns-clause-read_back c =
    let lo : FitsSigned w64 c.args.key.lo = search rules in
    let hi : FitsSigned w64 c.args.key.hi = search rules in
    interval_reads_back c.args.key lo hi
