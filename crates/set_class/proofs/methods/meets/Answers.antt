use Rattle.std.proofs.Common.{not, ap}
use Rattle.set_class.proofs.Halves.{meeting_by_halves}
use Rattle.set_class.proofs.methods.meets.Goals as goal

pub returns : goal.returns
returns c =
    rw (c.halves.ensures, c.halves-2.ensures) (ap not (meeting_by_halves c.args.a.mask c.args.b.mask))
