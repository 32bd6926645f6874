use Rattle.std.proofs.Common.{◌∙◌}
use Rattle.key_class.specs.BlockLaws.{eight_told}
use Rattle.search.proofs.key_test.KeyTest.accepted_block.Goals as goal

pub returns : goal.returns
returns g c =
    let keys = g.C.Key.Block.Block.items c.args.keys.now in
    c.eight_bits.ensures
    ∙ eight_told keys (g.met.C.Key.Block.Block.eight c.args.keys.now) c.get.ensures c.get-2.ensures c.get-3.ensures c.get-4.ensures c.get-5.ensures c.get-6.ensures c.get-7.ensures c.get-8.ensures
    (g.Self.KeyTest.accepts c.args.self.now) c.is_accepted.ensures c.is_accepted-2.ensures c.is_accepted-3.ensures c.is_accepted-4.ensures c.is_accepted-5.ensures c.is_accepted-6.ensures c.is_accepted-7.ensures c.is_accepted-8.ensures
