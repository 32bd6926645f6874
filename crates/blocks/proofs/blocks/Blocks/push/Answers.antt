use Rattle.std.proofs.Common.{◌≡◌, ◌∙◌, ap, arith, take, ◌+◌, ◌++◌, ◌∷◌, []}
use Rattle.blocks.specs.Values.{values_of}
use Rattle.blocks.proofs.Eights.{pushed_behind, pushed_into}
use Rattle.blocks.proofs.blocks.Blocks.push.Goals.{then-place-eq0+in_ok-reserve_one, else-place-eq0}
use Rattle.blocks.proofs.blocks.Blocks.push.Goals as goal

pub returns-clause-pushed : goal.returns-clause-pushed
returns-clause-pushed g c =
    let l = c.self.inside in
    let items = g.B.Block.items in
    let more : c.in-Some.count ≡ l.count + 1 = omega (arith, c.in-Some.ensures) in
    ap (λ n. take n (values_of items c.if-place-eq0.self-inside.blocks.items)) more
    ∙ elim c.if-place-eq0.branch [
      | then-place-eq0+in_ok-reserve_one w ↦
          ap (λ s. take (l.count + 1) (values_of items s.blocks.items)) w.self-inside-is
          ∙ ap (λ bs. take (l.count + 1) (values_of items bs)) (w.push_reserved.ensures.items ∙ ap (λ bs. bs ++ w.filled.result ∷ []) w.in_ok-reserve_one.ensures.items)
          ∙ pushed_behind items g.met.B.Block.eight l.blocks.items l.count c.self.invariant w.filled.result c.args.value (omega (arith, w.if-place-eq0.true)) w.filled.ensures
      | else-place-eq0 w ↦
          ap (λ s. take (l.count + 1) (values_of items s.blocks.items)) w.self-inside-is
          ∙ pushed_into items g.met.B.Block.eight l.blocks.items l.count c.self.invariant w.index_mut.result.now w.set.new.self c.args.value (omega (arith, w.if-place-eq0.false)) w.index_mut.ensures.value w.set.ensures
    ]
    ∙ ap (λ vs. vs ++ c.args.value ∷ []) c.self.view_is
