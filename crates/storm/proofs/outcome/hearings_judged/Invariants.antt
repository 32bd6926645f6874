use Rattle.std.proofs.Common.{List, drop, ◌++◌}
use Rattle.storm.specs.Hearing.{TellsHearings}
use Rattle.storm.specs.declared.judge.Verdict.{Verdict}
use Rattle.storm.proofs.outcome.hearings_judged.Given as goal

-- with verdicts on the subscribers that are left, the verdicts tell of all
abbrev pub invariant-loop-hearing : goal.invariant-loop-hearing
invariant-loop-hearing l = (rest : List Verdict) → TellsHearings l.commits (drop l.hearing-index l.hearings) rest → TellsHearings l.commits l.hearings (l.verdicts.items ++ rest)
