use Rattle.std.proofs.Common.{◌∙◌}
use Rattle.key_class.specs.BlockLaws.{eight_told}
use Rattle.key_class.proofs.class.KeyClass.matches_block.Goals as goal

pub returns : goal.returns
returns g c =
    let keys = g.Self.Key.Block.Block.items c.args.keys.now in
    c.eight_bits.ensures
    ∙ eight_told keys (g.met.Self.Key.Block.Block.eight c.args.keys.now) c.get.ensures c.get-2.ensures c.get-3.ensures c.get-4.ensures c.get-5.ensures c.get-6.ensures c.get-7.ensures c.get-8.ensures
    (g.Self.KeyClass.rules.is_match c.args.atom.now) c.matches.ensures c.matches-2.ensures c.matches-3.ensures c.matches-4.ensures c.matches-5.ensures c.matches-6.ensures c.matches-7.ensures c.matches-8.ensures
