use Rattle.std.proofs.Common.{List, drop, ◌++◌}
use Rattle.key_class.specs.Queries.{query_of}
use Rattle.interval_class.specs.Intervals.{interval_rules}
use Rattle.storm.specs.Looking.{TellsSights}
use Rattle.storm.specs.declared.judge.Verdict.{Verdict}
use Rattle.storm.proofs.outcome.sights_of.Given as goal

-- with verdicts on the lookers that are left, the verdicts tell of all
abbrev pub invariant-loop-looks : goal.invariant-loop-looks
invariant-loop-looks l = (rest : List Verdict) → TellsSights interval_rules (query_of l.query) l.commits (drop l.looks-index l.lookers) rest → TellsSights interval_rules (query_of l.query) l.commits l.lookers (l.verdicts.items ++ rest)
