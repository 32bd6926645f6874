use Rattle.std.proofs.Common.{◌≡◌, ◌+◌, length}
use Rattle.storm.proofs.outcome.take_seats.Given as goal

abbrev pub invariant-loop-publisher : goal.invariant-loop-publisher
invariant-loop-publisher g l = length l.seats.items ≡ length l.initial.seats.items + length l.yielded
