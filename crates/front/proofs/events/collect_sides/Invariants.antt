use Rattle.std.proofs.Common.{◌≡◌, map, take}
use Rattle.front.specs.EventLines.{side_of}
use Rattle.front.proofs.events.collect_sides.Given as goal

abbrev pub invariant-loop-letter : goal.invariant-loop-letter
invariant-loop-letter l = l.sides ≡ map side_of (take l.letter-index l.letters)
