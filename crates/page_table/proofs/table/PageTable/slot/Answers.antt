use Rattle.std.proofs.Common.{rules, ◌≡◌, ◌/◌, get_or, ◌∙◌, arith}
use Rattle.page_table.specs.PlaceLaws.{page_within, place_full}
use Rattle.page_table.proofs.Tables.{in_all, read_page, within}
use Rattle.page_table.proofs.table.PageTable.slot.Goals as goal

pub slot-requires : goal.slot-requires
slot-requires g c =
    let has = c.self.invariant.places in
    let chunk = c.index.result.now in
    let read : chunk ≡ get_or c.self.inside.chunks.items (c.args.number / 1024) chunk = search rules in
    let there = in_all has (within has c.self.view_is c.requires) in
    (omega arith, (place_full has.full there chunk read, page_within has.full there chunk read))

pub returns : goal.returns
returns g c =
    let chunk = c.index.result.now in
    let read : chunk ≡ get_or c.self.inside.chunks.items (c.args.number / 1024) chunk = search rules in
    c.slot.ensures ∙ read_page c.self.invariant.places c.self.view_is c.requires chunk read
