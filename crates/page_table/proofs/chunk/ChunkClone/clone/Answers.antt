use Rattle.std.proofs.Common.{◌≡◌, ◌∙◌, ap, take, arith}
use Rattle.std.specs.List.{each_same}
use Rattle.std.proofs.lemmas.List.{take_all}
use Rattle.page_table.proofs.chunk.ChunkClone.clone.Goals as goal

pub returns : goal.returns
returns g c =
    let whole : c.in-Some.children.now ≡ c.args.self.now =
    c.in-Some.ensures.cases.same ∙ ap (take g.row.LEN) c.as_slice.ensures.value ∙ take_all g.row.LEN c.self.inside.children.items (omega (arith, c.self.invariant)) ∙ c.self.view_is in
    record { cases = c.from_array_in.ensures.items ∙ each_same _ _ c.in_ok-clone-in-Some.ensures.cases.whole ∙ whole }
