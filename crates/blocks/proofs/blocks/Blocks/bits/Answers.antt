use Rattle.std.proofs.Common.{◌∙◌, ap, arith, length, ◌%◌, ◌^◌}
use Rattle.key_class.specs.Bits.{bits_of}
use Rattle.blocks.specs.Values.{values_of}
use Rattle.blocks.proofs.Eights.{all_length, bits_of_first, first_length}
use Rattle.blocks.proofs.blocks.Blocks.bits.Goals as goal

pub returns : goal.returns
returns g c =
    let l = c.self.inside in
    let items = g.B.Block.items in
    let p = g.S.BlockTest.passes c.args.test.now in
    c.first_bits.ensures
    ∙ ap (λ n. n % 2 ^ l.count) (c.all_bits-bits.ensures ∙ ap (λ bs. bits_of p (values_of items bs)) c.deref.ensures.value)
    ∙ bits_of_first p l.count (values_of items l.blocks.items) (omega (arith, all_length items g.met.B.Block.eight l.blocks.items, c.self.invariant.enough))
    ∙ ap (bits_of p) c.self.view_is

pub all_bits-bits-requires : goal.all_bits-bits-requires
all_bits-bits-requires g c =
    let l = c.self.inside in
    omega (arith, first_length g.B.Block.items g.met.B.Block.eight l.count l.blocks.items c.self.invariant, ap length c.self.view_is, c.requires, c.self.invariant.needed, ap length c.deref.ensures.value)

pub first_bits-requires : goal.first_bits-requires
first_bits-requires g c =
    let l = c.self.inside in
    omega (arith, first_length g.B.Block.items g.met.B.Block.eight l.count l.blocks.items c.self.invariant, ap length c.self.view_is, c.requires, c.self.invariant.needed)
