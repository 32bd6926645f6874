use Rattle.world.proofs.HandingOut.{hands_none}
use Rattle.world.proofs.world.World.answer.Goals as goal

pub returns-in-Enlarge-clause-fresh : goal.returns-in-Enlarge-clause-fresh
returns-in-Enlarge-clause-fresh g c = hands_none g.C.KeyClass.rules g.O.Outlet.rule g.O.Outlet.fresh 0 _ _ _ _ tt (c.enlarge.ensures 0)

pub returns-in-Split-clause-fresh : goal.returns-in-Split-clause-fresh
returns-in-Split-clause-fresh g c = hands_none g.C.KeyClass.rules g.O.Outlet.rule g.O.Outlet.fresh 0 _ _ _ _ tt (c.split.ensures 0)

pub returns-in-Post-clause-fresh : goal.returns-in-Post-clause-fresh
returns-in-Post-clause-fresh g c = hands_none g.C.KeyClass.rules g.O.Outlet.rule g.O.Outlet.fresh 0 _ _ _ _ tt (c.post.ensures 0)

pub returns-in-Grow-clause-fresh : goal.returns-in-Grow-clause-fresh
returns-in-Grow-clause-fresh g c = hands_none g.C.KeyClass.rules g.O.Outlet.rule g.O.Outlet.fresh 0 _ _ _ _ tt (c.grow.ensures 0)

pub returns-in-Find-clause-fresh : goal.returns-in-Find-clause-fresh
returns-in-Find-clause-fresh g c = rw c.of_finder.ensures (hands_none g.C.KeyClass.rules g.O.Outlet.rule g.O.Outlet.fresh 0 _ _ _ _ tt (c.find.ensures 0))

pub returns-in-Unfind-clause-fresh : goal.returns-in-Unfind-clause-fresh
returns-in-Unfind-clause-fresh g c = hands_none g.C.KeyClass.rules g.O.Outlet.rule g.O.Outlet.fresh 0 _ _ _ _ tt (c.unfind.ensures 0)

pub returns-in-Sweep-clause-fresh : goal.returns-in-Sweep-clause-fresh
returns-in-Sweep-clause-fresh g c = rw c.of_sweep.ensures (hands_none g.C.KeyClass.rules g.O.Outlet.rule g.O.Outlet.fresh 0 _ _ _ _ tt (c.sweep.ensures 0))

pub returns-in-Turn-clause-fresh : goal.returns-in-Turn-clause-fresh
returns-in-Turn-clause-fresh g c = rw c.of_turn.ensures (hands_none g.C.KeyClass.rules g.O.Outlet.rule g.O.Outlet.fresh 0 _ _ _ _ tt (c.turn.ensures 0))

pub returns-in-AskMark-clause-fresh : goal.returns-in-AskMark-clause-fresh
returns-in-AskMark-clause-fresh g c = rw c.of_asking.ensures (hands_none g.C.KeyClass.rules g.O.Outlet.rule g.O.Outlet.fresh 0 _ _ _ _ tt (c.ask_mark.ensures 0))

pub returns-in-Take-clause-fresh : goal.returns-in-Take-clause-fresh
returns-in-Take-clause-fresh g c = rw c.of_taking.ensures (hands_none g.C.KeyClass.rules g.O.Outlet.rule g.O.Outlet.fresh 0 _ _ _ _ tt (c.take.ensures 0))

pub returns-in-Close-clause-fresh : goal.returns-in-Close-clause-fresh
returns-in-Close-clause-fresh g c = rw c.of_closing.ensures (hands_none g.C.KeyClass.rules g.O.Outlet.rule g.O.Outlet.fresh 0 _ _ _ _ tt (c.close.ensures 0))
