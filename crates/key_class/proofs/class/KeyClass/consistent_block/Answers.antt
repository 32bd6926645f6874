use Rattle.std.proofs.Common.{◌∙◌}
use Rattle.key_class.specs.BlockLaws.{eight_told}
use Rattle.key_class.proofs.class.KeyClass.consistent_block.Goals as goal

pub returns : goal.returns
returns g c =
    let keys = g.Self.Key.Block.Block.items c.args.bounds.now in
    c.eight_bits.ensures
    ∙ eight_told keys (g.met.Self.Key.Block.Block.eight c.args.bounds.now) c.get.ensures c.get-2.ensures c.get-3.ensures c.get-4.ensures c.get-5.ensures c.get-6.ensures c.get-7.ensures c.get-8.ensures
    (g.Self.KeyClass.rules.is_consistent c.args.atom.now) c.consistent.ensures c.consistent-2.ensures c.consistent-3.ensures c.consistent-4.ensures c.consistent-5.ensures c.consistent-6.ensures c.consistent-7.ensures c.consistent-8.ensures
