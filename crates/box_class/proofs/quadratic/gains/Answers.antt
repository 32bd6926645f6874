use Rattle.box_class.proofs.Bounds.{bound_within}
use Rattle.box_class.proofs.quadratic.gains.Goals as goal

pub of-requires : goal.of-requires
of-requires g c = bound_within g.A.Area.limit c.args.bound c.args.keys.now c.requires
