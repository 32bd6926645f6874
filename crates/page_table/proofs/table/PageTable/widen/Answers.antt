use Rattle.std.proofs.lemmas.Result.{on_ok_weaker}
use Rattle.node.specs.Changes.{enlarge_child, enlarge_parent}
use Rattle.page_table.proofs.Tables.{both_tree}
use Rattle.page_table.proofs.table.PageTable.widen.Goals as goal

pub returns-clause-widened : goal.returns-clause-widened
returns-clause-widened g c =
    let union = g.C.KeyClass.rules.union_of in
    on_ok_weaker c.change_pages.result (both_tree c.self.invariant.places c.self.view_is
    (λ upper lower. enlarge_parent union c.args.child c.args.key upper) (λ upper lower. enlarge_child union c.args.key lower) c.requires.parent_exists c.requires.child_exists) c.change_pages.ensures.changed
