use Rattle.std.proofs.Common.{◌≡◌}
use Rattle.snapshot.proofs.Ending.{living}
use Rattle.snapshot.proofs.all_rows.all_rows.Given as goal

abbrev pub invariant-loop-place : goal.invariant-loop-place
invariant-loop-place g l = l.found.items ≡ living l.list l.place
