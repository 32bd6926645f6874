use Rattle.std.proofs.Common.{arith}
use Rattle.box_class.specs.BoxLaws.{mul-mono, size_of-le}
use Rattle.box_class.proofs.extent.Extent.most_beside.Goals as goal

pub beside-requires-clause-small : goal.beside-requires-clause-small
beside-requires-clause-small g c =
    omega (arith, mul-mono _ _ _ _ c.columns.ensures c.rows.ensures, c.requires.small)

pub beside-requires-clause-key : goal.beside-requires-clause-key
beside-requires-clause-key g c =
    omega (arith, size_of-le c.args.self.bound c.args.key c.requires.covered, c.requires.small)
