use Rattle.std.proofs.Common.{◌-◌}
use Rattle.world.proofs.Searching.{IsBetween}
use Rattle.world.proofs.places.place_of.Given as goal

abbrev pub invariant-loop-low : goal.invariant-loop-low
invariant-loop-low g l = IsBetween g.T.Numbered.serial_of l.fn.members l.fn.serial l.low l.high

abbrev pub decreases-loop-low : goal.decreases-loop-low
decreases-loop-low g l = l.high - l.low
