use Rattle.std.proofs.Common.{rules, ◌≡◌, ◌/◌, get_or, ap, ap₂, ◌∙◌, arith}
use borrow.Follows.Closed.{read_of}
use mathlib.Core.Path.{fun_ext}
use Rattle.std.specs.Borrow.{name_if_ok}
use Rattle.page_table.specs.PlaceLaws.{page_within, place_full, put_same}
use Rattle.page_table.proofs.Tables.{in_all, read_page, same_places, tree_of, within, written, written_places}
use Rattle.page_table.proofs.table.PageTable.page_mut.Goals as goal

pub page_mut-requires : goal.page_mut-requires
page_mut-requires g c =
    let has = c.self.invariant.places in
    let chunk = c.in_ok-self-inside.field-0.now in
    let read : chunk ≡ get_or c.self.inside.chunks.items (c.args.number / 1024) chunk = search rules in
    let there = in_all has (within has c.self.view_is c.requires) in
    (omega arith, (place_full has.full there chunk read, page_within has.full there chunk read))

pub returns : goal.returns
returns g c =
    let has = c.self.invariant.places in
    let chunks = c.self.inside.chunks.items in
    let chunk = c.in_ok-self-inside.field-0.now in
    let read : chunk ≡ get_or chunks (c.args.number / 1024) chunk = search rules in
    let stays = ap (λ cs. tree_of c.self.inside.count cs c.self.inside.counter) (put_same chunks (c.args.number / 1024) chunk read) ∙ c.self.view_is in
    let found = read_page has c.self.view_is c.requires chunk read in (
      ap₂ (λ f v. read_of (name_if_ok (λ x. x.ghost_name) c.page_mut.result) f v) (fun_ext (λ w. written has c.self.view_is c.requires chunk read w)) stays,
      record { lends = tt; value = rw found at c.page_mut.ensures.value },
    )

pub invariant_of-self-lent : goal.invariant_of-self-lent
invariant_of-self-lent g c =
    let has = c.self.invariant.places in
    let chunk = c.in_ok-self-inside.field-0.now in
    let read : chunk ≡ get_or c.self.inside.chunks.items (c.args.number / 1024) chunk = search rules in
    λ r. (
      λ w. record { whole = c.self.invariant.whole; size = c.self.invariant.size; places = written_places has c.self.view_is c.requires chunk read w },
      record { whole = c.self.invariant.whole; size = c.self.invariant.size; places = same_places (c.args.number / 1024) has read },
    )
