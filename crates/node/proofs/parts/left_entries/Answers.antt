use Rattle.std.proofs.Common.{arith}
use Rattle.node.proofs.PartEnds.{left_part_whole}
use Rattle.node.proofs.parts.left_entries.Goals as goal

pub returns : goal.returns
returns g c = left_part_whole c.args.sides.now c.args.entries.now c.loop-place.place _ _ (omega (arith, c.loop-place-test.false, c.len-place-end.ensures)) c.loop-place.invariant.taken
