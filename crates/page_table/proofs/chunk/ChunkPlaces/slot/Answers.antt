use Rattle.std.proofs.Common.{rules, ◌≡◌, ◌/◌, get_or, ◌∙◌, arith}
use Rattle.page_table.specs.PlaceLaws.{page_is, page_within, place_full, place_there, size_there}
use Rattle.page_table.proofs.chunk.ChunkPlaces.slot.Goals as goal

pub nonzero_div-place : goal.nonzero_div-place
nonzero_div-place g c = size_there c.requires.full c.requires.exists

pub nonzero_rem-place : goal.nonzero_rem-place
nonzero_rem-place g c = size_there c.requires.full c.requires.exists

pub child-requires : goal.child-requires
child-requires g c = (omega arith, rw c.get.ensures (place_there c.requires.full c.requires.exists))

pub slot-requires-clause-full : goal.slot-requires-clause-full
slot-requires-clause-full g c =
    let read : c.child.result.now ≡ get_or c.args.this.now (c.args.place / g.row.SIZE) c.child.result.now = search rules in
    place_full c.requires.full c.requires.exists c.child.result.now read

pub slot-requires-clause-exists : goal.slot-requires-clause-exists
slot-requires-clause-exists g c =
    let read : c.child.result.now ≡ get_or c.args.this.now (c.args.place / g.row.SIZE) c.child.result.now = search rules in
    page_within c.requires.full c.requires.exists c.child.result.now read

pub returns : goal.returns
returns g c =
    let read : c.child.result.now ≡ get_or c.args.this.now (c.args.place / g.row.SIZE) c.child.result.now = search rules in
    c.slot.ensures ∙ page_is c.requires.full c.requires.exists c.child.result.now read g.P.PageLike.no_page
