use Rattle.std.proofs.Common.{rules, ◌≡◌, ◌/◌, get_or, arith}
use Rattle.page_table.specs.PlaceLaws.{page_within, place_full}
use Rattle.page_table.proofs.Tables.{in_all, page_becomes, puts_next}
use Rattle.page_table.proofs.top.put_next.Goals as goal

pub page_mut-requires : goal.page_mut-requires
page_mut-requires g c =
    let has = c.in_ok-make_place.ensures.made in
    let chunk = c.in_ok-get_mut.field-0.now in
    let read : chunk ≡ get_or c.make_place.new.chunks.items (c.args.count / 1024) chunk = search rules in
    let there = in_all has {i = c.args.count} (omega arith) in
    (omega arith, (place_full has.full there chunk read, page_within has.full there chunk read))

pub returns-clause-put : goal.returns-clause-put
returns-clause-put g c =
    let has = c.in_ok-make_place.ensures.made in
    let chunk = c.in_ok-get_mut.field-0.now in
    let read : chunk ≡ get_or c.make_place.new.chunks.items (c.args.count / 1024) chunk = search rules in
    puts_next c.make_place.ensures.stays has (page_becomes has (omega arith) chunk read _) c.page.view_is
