use Rattle.std.proofs.Common.{get_or}
use Rattle.feed.proofs.Tending.{tagged_stays, tends_join, tends_none, tree_deleted}
use Rattle.feed.proofs.tree.uproot.Goals as goal

pub loop-row-init : goal.loop-row-init
loop-row-init g c = tends_none c.args.tag c.args.tree.now.commits c.requires.legal

pub loop-row-preserved : goal.loop-row-preserved
loop-row-preserved g c =
    let old = c.args.tree.now in
    let mid = c.loop-row.tree in
    let before = c.loop-row.invariant in
    let row = get_or c.args.rows.now c.loop-row.row-index 0 in
    let tagged = tagged_stays c.args.tag c.args.tag row old.commits mid.commits before (c.requires.tagged c.loop-row.row-index 0 c.loop-row-test.true) in
    tends_join c.args.tag old.commits mid.commits c.delete-deleted.new.self.commits before
    (tree_deleted g.C.KeyClass.rules.is_match c.args.tag mid c.delete-deleted.new.self before.legal c.delete-deleted.ensures.legal row c.delete-deleted.result tagged c.delete-deleted.ensures.ok c.delete-deleted.ensures.err)
