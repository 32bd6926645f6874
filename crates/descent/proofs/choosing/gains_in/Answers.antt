use Rattle.std.proofs.Common.{sym, subst}
use Rattle.descent.specs.Choosing.{AreGainsIn}
use Rattle.descent.proofs.Gains.{gains_of_block}
use Rattle.descent.proofs.choosing.gains_in.Goals as goal

pub returns : goal.returns
returns g c =
    let rules = g.C.KeyClass.rules in
    let block = c.block.result.now in
    subst (AreGainsIn rules.union_of rules.size_of c.args.key c.args.branches.now c.args.number) (sym c.gains_block.ensures)
    (gains_of_block rules.union_of rules.size_of c.args.key c.args.branches.now c.args.number (g.C.Key.Block.Block.items block.keys) block.children (g.met.C.Key.Block.Block.eight block.keys) c.block.ensures)
