use Rattle.std.proofs.Common.{◌≡◌, ◌+◌, suc, ap, arith}
use Rattle.page_table.proofs.Tables.{posting_tree}
use Rattle.page_table.proofs.table.PageTable.post.Goals as goal

pub returns-clause-posted : goal.returns-clause-posted
returns-clause-posted g c =
    let t = c.args.self.now in
    let next : c.self.inside.counter + 1 ≡ suc t.counter = omega (arith, ap (λ s. s.counter) c.self.view_is) in
    posting_tree c.self.invariant.places c.self.view_is
    c.requires.parent_exists c.requires.child_exists c.requires.sibling_exists c.requires.sibling_apart c.requires.siblings_apart next c.in_ok-change_three.ensures.changed
