use Rattle.std.proofs.Common.{◌≡◌, length}
use Rattle.storm.proofs.outcome.publishers_of.Given as goal

abbrev pub invariant-loop-seat : goal.invariant-loop-seat
invariant-loop-seat g l = length l.publishers.items ≡ length l.yielded
