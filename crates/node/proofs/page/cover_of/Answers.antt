use Rattle.std.proofs.Common.{◌∙◌, sym, ap, map, None}
use Rattle.node.specs.Parts.{joined_bound}
use Rattle.node.proofs.PartEnds.{joined-append}
use Rattle.node.proofs.page.cover_of.Goals as goal

pub returns : goal.returns
returns g c =
    c.join_branches.ensures
    ∙ ap (λ o. joined_bound g.C.KeyClass.rules.union_of o (map (λ b. b.key) c.args.branches.now)) c.join_rows-bound.ensures
    ∙ sym (joined-append g.C.KeyClass.rules.union_of None (map (λ e. e.key) c.args.rows.now) (map (λ b. b.key) c.args.branches.now))
