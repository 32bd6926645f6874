use Rattle.writes.specs.Ways.{HasCome}
use Rattle.writes.proofs.OnWay.{IsOnWay, way_left}
use Rattle.writes.proofs.way_down.make_way.Given as goal

abbrev pub invariant-descending : goal.invariant-descending
invariant-descending g l = record {
  on : IsOnWay g.C.KeyClass.rules g.O.Outlet.rule l.key l.initial.world l.world l.page;
  come : HasCome g.C.KeyClass.rules l.key l.initial.world l.world l.page;
}

abbrev pub decreases-descending : goal.decreases-descending
decreases-descending g l = way_left l.world.search l.page
