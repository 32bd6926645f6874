use Rattle.std.proofs.Common.{◌≡◌, length}
use Rattle.storm.specs.Outcomes.{AreStampsOf}
use Rattle.storm.proofs.outcome.stamps_of.Given as goal

abbrev pub invariant-loop-seat : goal.invariant-loop-seat
invariant-loop-seat g l = AreStampsOf l.yielded l.stamps.items × (length l.stamps.items ≡ length l.yielded)
