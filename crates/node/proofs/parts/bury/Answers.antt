use Rattle.std.proofs.Common.{rules}
use Rattle.blocks.specs.Rewriting.{rewritten_is_map}
use Rattle.row_version.specs.Entries.{marked}
use Rattle.node.proofs.Marking.{marked_idle}
use Rattle.node.proofs.parts.bury.Goals as goal

pub returns : goal.returns
returns g c =
    let row = c.args.row in
    let commit = c.args.commit in
    rewritten_is_map _ _ (marked row commit) (λ x y given. search rules) (marked_idle row commit) c.args.rows.now c.rewrite_where.new.self c.rewrite_where.ensures
