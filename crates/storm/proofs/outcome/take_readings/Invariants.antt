use Rattle.std.proofs.Common.{◌≡◌, ◌+◌, length}
use Rattle.storm.proofs.outcome.take_readings.Given as goal

abbrev pub invariant-loop-reader : goal.invariant-loop-reader
invariant-loop-reader g l = length l.seats.items ≡ length l.initial.seats.items + length l.yielded
