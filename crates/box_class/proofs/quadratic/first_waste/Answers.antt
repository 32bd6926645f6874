use Rattle.std.proofs.Common.{arith}
use Rattle.box_class.proofs.Bounds.{gain_within}
use Rattle.box_class.proofs.quadratic.first_waste.Goals as goal

pub waste-requires : goal.waste-requires
waste-requires g c =
    gain_within g.A.Area.limit c.args.key c.index-others-place.result c.args.others.now c.loop-place.place c.requires.small (omega arith) c.index-others-place.is
