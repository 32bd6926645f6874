use Rattle.std.proofs.Common.{arith}
use Rattle.box_class.proofs.Bounds.{gain_within}
use Rattle.box_class.proofs.quadratic.most_waste.Goals as goal

pub waste-requires : goal.waste-requires
waste-requires g c =
    gain_within g.A.Area.limit c.args.key c.other-item.result c.args.others.now c.loop-other.other-index c.requires.small (omega arith) c.other-item.is
