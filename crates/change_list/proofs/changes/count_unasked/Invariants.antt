use Rattle.std.proofs.Common.{◌-◌, length}
use Rattle.key_class.specs.Queries.{query_of}
use Rattle.key_class.specs.Rules.{satisfies}
use Rattle.change_list.specs.Records.{BeginsUnasked}
use Rattle.change_list.proofs.changes.count_unasked.Given as goal

abbrev pub invariant-loop-passed : goal.invariant-loop-passed
invariant-loop-passed g l = BeginsUnasked (satisfies g.C.KeyClass.rules (query_of l.query)) l.commits l.passed

abbrev pub decreases-loop-passed : goal.decreases-loop-passed
decreases-loop-passed g l = length l.commits - l.passed
