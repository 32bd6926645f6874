use Rattle.std.proofs.Common.{◌∙◌}
use Rattle.key_class.specs.BlockLaws.{eight_told}
use Rattle.key_class.proofs.class.KeyClass.covering_block.Goals as goal

pub returns : goal.returns
returns g c =
    let bounds = g.Self.Key.Block.Block.items c.args.bounds.now in
    c.eight_bits.ensures
    ∙ eight_told bounds (g.met.Self.Key.Block.Block.eight c.args.bounds.now) c.get.ensures c.get-2.ensures c.get-3.ensures c.get-4.ensures c.get-5.ensures c.get-6.ensures c.get-7.ensures c.get-8.ensures
    (λ bound. g.Self.KeyClass.rules.is_cover bound c.args.key) c.covers.ensures c.covers-2.ensures c.covers-3.ensures c.covers-4.ensures c.covers-5.ensures c.covers-6.ensures c.covers-7.ensures c.covers-8.ensures
