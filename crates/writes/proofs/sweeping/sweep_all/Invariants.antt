use Rattle.writes.proofs.Swept.{HasSwept}
use Rattle.writes.proofs.sweeping.sweep_all.Given as goal

abbrev pub invariant-loop-page : goal.invariant-loop-page
invariant-loop-page g l = HasSwept g.C.KeyClass.rules g.O.Outlet.rule l.fn.world 0 l.page l.number l.world
