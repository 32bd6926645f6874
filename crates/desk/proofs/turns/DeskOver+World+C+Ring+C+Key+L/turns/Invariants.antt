use Rattle.desk.specs.Turns.{TurnsInARow}
use Rattle.desk.proofs.turns.DeskOver+World+C+Ring+C+Key+L.turns.Given as goal

abbrev pub invariant-loop-made : goal.invariant-loop-made
invariant-loop-made g l = TurnsInARow g.C.KeyClass.rules l.cursor l.made l.last
