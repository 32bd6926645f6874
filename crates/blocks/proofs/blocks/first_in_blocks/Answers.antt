use Rattle.std.proofs.Common.{◌≡◌, ◌∙◌, ◌+◌, ◌*◌, ◌/◌, ◌^◌, ap, arith, sym, w64}
use Rattle.std.specs.Int.{trailing_zeros}
use Rattle.blocks.proofs.Eights.{all_length}
use Rattle.blocks.proofs.Passing.{first_in_block, none_in_block, none_at_all, told}
use Rattle.blocks.proofs.blocks.first_in_blocks.Goals as goal

pub returns-then-passing-ne0 : goal.returns-then-passing-ne0
returns-then-passing-ne0 g c =
    let i = c.loop-number.invariant in
    let n = c.loop-number.number in
    let r = c.loop-number.skipped in
    let p = g.S.BlockTest.passes c.args.test.now in
    let bits : c.tested.result / 2 ^ r ≡ told g.B.Block.items g.met.B.Block.eight p c.args.blocks.now n r c.index-blocks-number.result (omega (arith, c.loop-number-test.true)) i.small c.index-blocks-number.is = ap (λ m. m / 2 ^ r) c.tested.ensures in
    first_in_block g.B.Block.items g.met.B.Block.eight p c.args.blocks.now n r c.index-blocks-number.result (omega (arith, c.loop-number-test.true)) i.small c.index-blocks-number.is c.args.from _
    i.low i.none (omega (arith, bits, c.if-passing-ne0.true))
    (let e : 8 * n + r + trailing_zeros w64 (c.tested.result / 2 ^ r) ≡ n * 8 + (r + trailing_zeros w64 (c.tested.result / 2 ^ r)) = omega arith in e ∙ ap (λ m. n * 8 + (r + trailing_zeros w64 m)) bits)

pub overflow_add-result-then-passing-ne0 : goal.overflow_add-result-then-passing-ne0
overflow_add-result-then-passing-ne0 g c =
    let i = c.loop-number.invariant in
    let n = c.loop-number.number in
    let r = c.loop-number.skipped in
    let p = g.S.BlockTest.passes c.args.test.now in
    let bits : c.tested.result / 2 ^ r ≡ told g.B.Block.items g.met.B.Block.eight p c.args.blocks.now n r c.index-blocks-number.result (omega (arith, c.loop-number-test.true)) i.small c.index-blocks-number.is = ap (λ m. m / 2 ^ r) c.tested.ensures in
    let first =
    first_in_block g.B.Block.items g.met.B.Block.eight p c.args.blocks.now n r c.index-blocks-number.result (omega (arith, c.loop-number-test.true)) i.small c.index-blocks-number.is c.args.from (8 * n + r + trailing_zeros w64 (c.tested.result / 2 ^ r))
    i.low i.none (omega (arith, bits, c.if-passing-ne0.true))
    (let e : 8 * n + r + trailing_zeros w64 (c.tested.result / 2 ^ r) ≡ n * 8 + (r + trailing_zeros w64 (c.tested.result / 2 ^ r)) = omega arith in e ∙ ap (λ m. n * 8 + (r + trailing_zeros w64 m)) bits)
    in
    record { fits = omega (arith, first.within, all_length g.B.Block.items g.met.B.Block.eight c.args.blocks.now, c.requires) }

pub loop-number-preserved : goal.loop-number-preserved
loop-number-preserved g c =
    let i = c.loop-number.invariant in
    let n = c.loop-number.number in
    let r = c.loop-number.skipped in
    let p = g.S.BlockTest.passes c.args.test.now in
    let bits = ap (λ m. m / 2 ^ r) c.tested.ensures in
    let none = none_in_block g.B.Block.items g.met.B.Block.eight p c.args.blocks.now n r c.index-blocks-number.result (omega (arith, c.loop-number-test.true)) i.small c.index-blocks-number.is c.args.from i.none (sym bits ∙ c.if-passing-ne0.false) in
    record {
      small = omega arith;
      low = omega (arith, i.low, i.small);
      none = λ k l h. none k l (omega (arith, h));
    }

pub returns : goal.returns
returns g c =
    let i = c.loop-number.invariant in
    none_at_all g.B.Block.items g.met.B.Block.eight (g.S.BlockTest.passes c.args.test.now) c.args.blocks.now c.args.from (c.loop-number.number * 8 + c.loop-number.skipped) (omega (arith, c.loop-number-test.false)) i.none
