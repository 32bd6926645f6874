use Rattle.std.proofs.Common.{arith, sym, ap, length, ◌-◌}
use Rattle.std.proofs.lemmas.List.{drop_all}
use Rattle.key_class.specs.Bits.{bits_of}
use Rattle.blocks.specs.Values.{values_of}
use Rattle.blocks.proofs.Eights.{bits_fit, one_back, rest_fits}
use Rattle.blocks.proofs.blocks.all_bits.Goals as goal

pub loop-number-init : goal.loop-number-init
loop-number-init g c =
    let blocks = c.args.blocks.now in record {
      within = omega arith;
      bits = sym (ap (λ bs. bits_of (g.S.BlockTest.passes c.args.test.now) (values_of g.B.Block.items bs)) (drop_all (length blocks) blocks (omega arith)));
    }

pub overflow_mul-bits : goal.overflow_mul-bits
overflow_mul-bits g c =
    let i = c.loop-number.invariant in
    let h = rest_fits g.B.Block.items g.met.B.Block.eight (g.S.BlockTest.passes c.args.test.now) c.args.blocks.now c.loop-number.number (omega (arith, c.loop-number-test.true)) c.requires in
    record { fits = omega (arith, i.bits, h) }

pub overflow_add-bits : goal.overflow_add-bits
overflow_add-bits g c =
    let i = c.loop-number.invariant in
    let p = g.S.BlockTest.passes c.args.test.now in
    let b = one_back g.B.Block.items g.met.B.Block.eight p c.args.blocks.now c.loop-number.number c.index-blocks-number.result (omega (arith, c.loop-number-test.true)) i.within c.index-blocks-number.is in
    let h = bits_fit g.B.Block.items g.met.B.Block.eight p c.args.blocks.now (c.loop-number.number - 1) c.requires in
    record { fits = omega (arith, i.bits, b, h, c.tested.ensures) }

pub loop-number-preserved : goal.loop-number-preserved
loop-number-preserved g c =
    let i = c.loop-number.invariant in
    let p = g.S.BlockTest.passes c.args.test.now in
    let b = one_back g.B.Block.items g.met.B.Block.eight p c.args.blocks.now c.loop-number.number c.index-blocks-number.result (omega (arith, c.loop-number-test.true)) i.within c.index-blocks-number.is in record {
      within = omega (arith, i.within);
      bits = omega (arith, i.bits, b, c.tested.ensures);
    }
