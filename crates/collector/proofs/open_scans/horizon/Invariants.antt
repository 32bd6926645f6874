use Rattle.std.proofs.Common.{take}
use Rattle.collector.specs.Horizons.{IsHorizon}
use Rattle.collector.proofs.open_scans.horizon.Given as goal

abbrev pub invariant-loop-cursor : goal.invariant-loop-cursor
invariant-loop-cursor g l = IsHorizon l.commits (take l.cursor-index l.cursors) l.least
