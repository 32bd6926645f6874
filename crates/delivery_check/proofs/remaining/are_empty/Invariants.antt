use Rattle.std.proofs.Common.{◌≡◌, drop}
use Rattle.delivery_check.specs.Remaining.{rows_in}
use Rattle.delivery_check.proofs.remaining.are_empty.Given as goal

abbrev pub invariant-loop-slot : goal.invariant-loop-slot
invariant-loop-slot g l = rows_in l.slots ≡ rows_in (drop l.slot-index l.slots)
