use Rattle.std.proofs.Common.{sym, ◌∙◌, ap, length, arith}
use Rattle.std.specs.Prelude.{slice_get}
use Rattle.std.proofs.lemmas.Option.{get_or_from_slice_get}
use Rattle.blocks.proofs.Eights.{first_length, got}
use Rattle.blocks.proofs.blocks.Blocks.get.Goals as goal

pub returns : goal.returns
returns g c =
    let l = c.self.inside in
    let i = c.args.place in
    let count = sym (first_length g.B.Block.items g.met.B.Block.eight l.count l.blocks.items c.self.invariant) ∙ ap length c.self.view_is in
    sym (get_or_from_slice_get c.args.self.now i c.get.result c.get.result (
    ap (λ xs. slice_get xs i) (sym c.self.view_is)
    ∙ got g.B.Block.items g.met.B.Block.eight l.blocks.items l.count c.self.invariant i c.index.result.now c.get.result (omega (arith, count, c.requires)) c.index.ensures c.get.ensures))
