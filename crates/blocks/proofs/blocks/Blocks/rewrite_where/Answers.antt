use Rattle.blocks.proofs.Rewritten.{all_rewritten, rewritten_by_set}
use Rattle.blocks.proofs.blocks.Blocks.rewrite_where.Goals as goal

pub loop-place-preserved : goal.loop-place-preserved
loop-place-preserved g c =
    let loop = c.loop-place in
    rewritten_by_set _ _ c.args.self.now loop.self loop.from loop.invariant c.in-Some.place c.in-Some.ensures c.get.result c.change.result c.get.ensures c.change.ensures c.set.new.self c.set.ensures

pub returns : goal.returns
returns g c = all_rewritten _ _ c.args.self.now c.loop-place.self c.loop-place.from c.loop-place.invariant c.in_default.ensures
