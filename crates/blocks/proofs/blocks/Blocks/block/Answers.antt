use Rattle.std.proofs.Common.{subst}
use Rattle.blocks.specs.Values.{IsBlockOf}
use Rattle.blocks.proofs.Eights.{block_of}
use Rattle.blocks.proofs.blocks.Blocks.block.Goals as goal

pub returns : goal.returns
returns g c =
    let l = c.self.inside in
    subst (λ xs. IsBlockOf xs c.args.number (g.B.Block.items c.index.result.now)) c.self.view_is (block_of g.B.Block.items g.met.B.Block.eight l.blocks.items l.count c.self.invariant c.args.number c.index.result.now c.index.ensures)
