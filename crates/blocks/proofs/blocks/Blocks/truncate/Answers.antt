use Rattle.std.proofs.Common.{◌∙◌, ap, arith, take}
use Rattle.blocks.specs.Values.{values_of}
use Rattle.blocks.proofs.Eights.{cut}
use Rattle.blocks.proofs.blocks.Blocks.truncate.Goals as goal

pub returns-then-count-self : goal.returns-then-count-self
returns-then-count-self g c =
    let l = c.self.inside in
    ap (λ bs. take c.args.count (values_of g.B.Block.items bs)) c.truncate.ensures.items
    ∙ cut g.B.Block.items g.met.B.Block.eight l.blocks.items l.count c.self.invariant c.args.count c.div_ceil.result (omega (arith, c.if-count-self.true)) (omega (arith, c.div_ceil.ensures))
    ∙ ap (take c.args.count) c.self.view_is
