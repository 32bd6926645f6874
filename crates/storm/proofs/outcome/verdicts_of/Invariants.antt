use Rattle.std.proofs.Common.{List, drop, ◌++◌}
use Rattle.key_class.specs.Queries.{query_of}
use Rattle.interval_class.specs.Intervals.{interval_rules}
use Rattle.storm.specs.Judging.{TellsFates}
use Rattle.storm.specs.declared.judge.Verdict.{Verdict}
use Rattle.storm.proofs.outcome.verdicts_of.Given as goal

-- with verdicts on the readers that are left, the verdicts tell of all
abbrev pub invariant-loop-reading : goal.invariant-loop-reading
invariant-loop-reading l = (rest : List Verdict) → TellsFates interval_rules (query_of l.query) l.commits (drop l.reading-index l.readings) rest → TellsFates interval_rules (query_of l.query) l.commits l.readings (l.verdicts.items ++ rest)
