use Rattle.std.proofs.Common.{◌∙◌, ap, ap₂, length}
use Rattle.node.specs.Changes.{split_left}
use Rattle.page_table.specs.Trees.{added, page_at, replaced}
use Rattle.page_table.proofs.Tables.{page_before, replaced_before}
use Rattle.page_table.proofs.table.PageTable.part.Goals as goal

pub returns-in-Ok-clause-parted : goal.returns-in-Ok-clause-parted
returns-in-Ok-clause-parted g c =
    let t = c.args.self.now in
    let p = c.args.page in
    let right = c.args.right in
    let union = g.C.KeyClass.rules.union_of in
    let sides = c.args.sides.now in
    c.in-Ok.ensures.parted
    ∙ ap (λ s. replaced s p (split_left union (page_at s p) sides c.in_ok-number.number)) c.in_ok-number.ensures.added
    ∙ ap₂ (λ page n. replaced (added t right) p (split_left union page sides n)) (page_before t right p c.requires.exists) c.in_ok-number.ensures.number
    ∙ replaced_before t right (split_left union (page_at t p) sides (length t.pages)) p c.requires.exists
