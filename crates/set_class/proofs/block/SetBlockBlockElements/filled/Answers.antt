use Rattle.std.proofs.Common.{ap}
use Rattle.std.specs.Prelude.{replicate}
use Rattle.set_class.proofs.Columns.{filled}
use Rattle.set_class.proofs.block.SetBlockBlockElements.filled.Goals as goal

pub returns : goal.returns
returns c =
    let lowers = ap (replicate 8) c.lower.ensures in
    let uppers = ap (replicate 8) c.upper.ensures in
    search (filled, lowers, uppers)
