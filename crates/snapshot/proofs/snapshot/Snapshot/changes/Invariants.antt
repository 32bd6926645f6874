use Rattle.std.proofs.Common.{◌-◌}
use Rattle.key_class.specs.Queries.{query_of}
use Rattle.key_class.specs.Rules.{satisfies}
use Rattle.snapshot.proofs.Passing.{IsPassing}
use Rattle.snapshot.proofs.snapshot.Snapshot.changes.Given as goal

abbrev pub invariant-passing : goal.invariant-passing
invariant-passing g l = IsPassing (satisfies g.C.KeyClass.rules (query_of l.query)) l.from l.most l.self l.initial.into.items l.into.items l.upto

abbrev pub decreases-passing : goal.decreases-passing
decreases-passing g l = l.count - l.upto
