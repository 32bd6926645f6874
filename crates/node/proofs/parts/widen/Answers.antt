use Rattle.std.proofs.Common.{rules}
use Rattle.blocks.specs.Rewriting.{rewritten_is_map}
use Rattle.node.specs.Changes.{widened}
use Rattle.node.proofs.Marking.{widened_idle}
use Rattle.node.proofs.parts.widen.Goals as goal

pub returns : goal.returns
returns g c =
    let union = g.C.KeyClass.rules.union_of in
    let child = c.args.child in
    let key = c.args.key in
    rewritten_is_map _ _ (widened union child key) (λ x y given. search rules) (widened_idle union child key) c.args.branches.now c.rewrite_where.new.self c.rewrite_where.ensures
