use Rattle.std.proofs.Common.{sym, ◌∙◌, ap, length}
use Rattle.blocks.proofs.Eights.{first_length}
use Rattle.blocks.proofs.blocks.Blocks.len.Goals as goal

pub returns : goal.returns
returns g c =
    let l = c.self.inside in
    sym (first_length g.B.Block.items g.met.B.Block.eight l.count l.blocks.items c.self.invariant) ∙ ap length c.self.view_is
