use Rattle.std.proofs.Common.{rules}
use Rattle.collector.proofs.Horizons.{horizon_next}
use Rattle.collector.proofs.open_scans.horizon.Goals as goal

pub loop-cursor-preserved : goal.loop-cursor-preserved
loop-cursor-preserved g c =
    rw c.min-least.ensures (horizon_next c.args.commits c.args.cursors.now c.loop-cursor.cursor-index c.cursor-item.result c.loop-cursor.least c.needed_from.result (search rules) c.cursor-item.is c.needed_from.ensures c.loop-cursor.invariant)
