use Rattle.std.proofs.Common.{arith}
use Rattle.box_class.proofs.Bounds.{gain_within}
use Rattle.box_class.proofs.quadratic.gain_anew.Goals as goal

pub gain-requires : goal.gain-requires
gain-requires g c =
    gain_within g.A.Area.limit c.args.bound c.index-keys-i.result c.args.keys.now c.loop-i.i c.requires.small (omega arith) c.index-keys-i.is
