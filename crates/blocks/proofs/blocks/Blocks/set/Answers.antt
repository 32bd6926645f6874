use Rattle.std.proofs.Common.{sym, ◌∙◌, ap, length, arith, set}
use Rattle.blocks.proofs.Eights.{first_length, put}
use Rattle.blocks.proofs.blocks.Blocks.set.Goals as goal

pub returns : goal.returns
returns g c =
    let l = c.self.inside in
    let i = c.args.place in
    let count = sym (first_length g.B.Block.items g.met.B.Block.eight l.count l.blocks.items c.self.invariant) ∙ ap length c.self.view_is in
    put g.B.Block.items g.met.B.Block.eight l.blocks.items l.count c.self.invariant i c.index_mut.result.now c.set.new.self c.args.value (omega (arith, count, c.requires)) c.index_mut.ensures.value c.set.ensures
    ∙ ap (λ xs. set xs i c.args.value) c.self.view_is
