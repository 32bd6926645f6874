use Rattle.std.proofs.Common.{rules, arith}
use Rattle.box_class.proofs.Bounds.{across_within, along_within, covered_read, extent_read, larger_below}
use Rattle.box_class.proofs.extent.Extent.of_keys.Goals as goal

pub loop-key-preserved : goal.loop-key-preserved
loop-key-preserved c =
    let key = c.key-item.result in
    let covered = covered_read c.args.bound key c.args.keys.now c.loop-key.key-index c.requires (omega arith) c.key-item.is in
    let across = extent_read key.x1 key.x2 c.distance.result (search rules) (search rules) c.distance.ensures in
    let along = extent_read key.y1 key.y2 c.distance-in-loop-key.result (search rules) (search rules) c.distance-in-loop-key.ensures in record {
      across = omega (arith, larger_below c.loop-key.across c.distance.result _ c.loop-key.invariant.across (omega (arith, across_within c.args.bound key covered, across)), c.max-across.ensures);
      along = omega (arith, larger_below c.loop-key.along c.distance-in-loop-key.result _ c.loop-key.invariant.along (omega (arith, along_within c.args.bound key covered, along)), c.max-along.ensures);
    }
