use Rattle.writes.proofs.UnderWay.{IsUnderWay, pages_to_seek}
use Rattle.writes.proofs.ending.end_row.Given as goal

abbrev pub invariant-seeking : goal.invariant-seeking
invariant-seeking g l = IsUnderWay g.C.KeyClass.rules g.O.Outlet.rule l.fn.world l.fn.row l.finder l.world

abbrev pub decreases-seeking : goal.decreases-seeking
decreases-seeking g l = pages_to_seek l.finder l.world
