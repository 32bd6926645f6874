use Rattle.std.proofs.Common.{◌∙◌, sym}
use Rattle.node.specs.EntryBlocks.{branches_by_keys}
use Rattle.search.proofs.picks.ByBoundsBlockTestBranchKeyBranchBlockBlock.tested.Goals as goal

pub returns : goal.returns
returns g c =
    let b = c.args.block.now in
    c.wanted_block.ensures ∙ sym (branches_by_keys (g.T.BranchTest.wants c.args.self.now.test.now) (g.C.Key.Block.Block.items b.keys) b.children (g.met.C.Key.Block.Block.eight b.keys))
