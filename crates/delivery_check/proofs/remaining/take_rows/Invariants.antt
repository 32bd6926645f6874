use Rattle.delivery_check.specs.Remaining.{IsTaken}
use Rattle.delivery_check.proofs.remaining.take_rows.Given as goal

abbrev pub invariant-loop-place : goal.invariant-loop-place
invariant-loop-place g l = IsTaken l.initial.remaining l.items l.place l.remaining
