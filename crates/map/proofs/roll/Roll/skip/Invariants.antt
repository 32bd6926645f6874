use Rattle.map.specs.Rolls.{Skips}
use Rattle.map.proofs.roll.Roll.skip.Given as goal

abbrev pub invariant-skipping : goal.invariant-skipping
invariant-skipping g l = Skips l.initial.self l.self
