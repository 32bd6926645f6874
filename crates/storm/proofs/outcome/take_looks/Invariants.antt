use Rattle.std.proofs.Common.{◌≡◌, ◌+◌, length}
use Rattle.storm.proofs.outcome.take_looks.Given as goal

abbrev pub invariant-loop-looker : goal.invariant-loop-looker
invariant-loop-looker g l = length l.seats.items ≡ length l.initial.seats.items + length l.yielded
