use Rattle.std.proofs.Common.{◌∙◌}
use Rattle.key_class.specs.BlockLaws.{eight_told}
use Rattle.search.proofs.branch_test.BranchTest.wanted_block.Goals as goal

pub returns : goal.returns
returns g c =
    let keys = g.C.Key.Block.Block.items c.args.bounds.now in
    c.eight_bits.ensures
    ∙ eight_told keys (g.met.C.Key.Block.Block.eight c.args.bounds.now) c.get.ensures c.get-2.ensures c.get-3.ensures c.get-4.ensures c.get-5.ensures c.get-6.ensures c.get-7.ensures c.get-8.ensures
    (g.Self.BranchTest.wants c.args.self.now) c.is_wanted.ensures c.is_wanted-2.ensures c.is_wanted-3.ensures c.is_wanted-4.ensures c.is_wanted-5.ensures c.is_wanted-6.ensures c.is_wanted-7.ensures c.is_wanted-8.ensures
