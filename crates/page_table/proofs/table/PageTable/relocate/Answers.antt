use Rattle.std.proofs.Common.{sym, ◌∙◌}
use Rattle.std.proofs.lemmas.Result.{on_ok_weaker}
use Rattle.node.specs.Changes.{with_row}
use Rattle.page_table.specs.LeafChanges.{with_dead}
use Rattle.page_table.proofs.Moving.{moved_apart, moved_within}
use Rattle.page_table.proofs.Tables.{both_tree}
use Rattle.page_table.proofs.table.PageTable.relocate.Goals as goal

pub returns-then-from-to-clause-moved : goal.returns-then-from-to-clause-moved
returns-then-from-to-clause-moved g c = on_ok_weaker c.move_within.result
    (moved_within c.args.self.now c.args.from c.args.to c.args.row c.args.commit c.args.entry c.in_ok-page.page.now c.move_within.new.page c.requires.from_exists c.if-from-to.true c.in_ok-page.ensures.value)
    c.move_within.ensures.moved

pub returns-clause-moved : goal.returns-clause-moved
returns-clause-moved g c =
    on_ok_weaker c.change_pages.result (λ becomes. both_tree c.self.invariant.places c.self.view_is
    (λ upper lower. with_dead upper c.args.row c.args.commit) (λ upper lower. with_row lower c.args.entry) c.requires.from_exists c.requires.to_exists becomes
    ∙ sym (moved_apart c.args.self.now c.args.from c.args.to c.args.row c.args.commit c.args.entry c.if-from-to.false)) c.change_pages.ensures.changed
