use Rattle.std.proofs.Common.{arith}
use Rattle.set_class.proofs.Halves.{cover_by_halves}
use Rattle.set_class.proofs.methods.covers.Goals as goal

pub returns : goal.returns
returns c =
    rw (c.halves.ensures, c.halves-2.ensures) (cover_by_halves c.args.bound c.args.key (omega arith) (omega arith))
