use Rattle.std.proofs.Common.{◌≡◌, ◌/◌, get_or, ap₂, arith}
use borrow.Follows.Closed.{read_of}
use mathlib.Core.Path.{fun_ext}
use Rattle.std.specs.Borrow.{name_if_ok}
use Rattle.page_table.specs.PlaceLaws.{page_is, page_within, place_full, place_there, put_back, put_same, size_there}
use Rattle.page_table.proofs.chunk.ChunkPlaces.page_mut.Goals as goal

pub nonzero_div-place : goal.nonzero_div-place
nonzero_div-place g c = size_there c.requires.full c.requires.exists

pub nonzero_rem-place : goal.nonzero_rem-place
nonzero_rem-place g c = size_there c.requires.full c.requires.exists

pub child_mut-requires : goal.child_mut-requires
child_mut-requires g c = (omega arith, place_there c.requires.full c.requires.exists)

pub page_mut-requires-clause-full : goal.page_mut-requires-clause-full
page_mut-requires-clause-full g c = place_full c.requires.full c.requires.exists _ c.in_ok-child_mut.ensures.value

pub page_mut-requires-clause-exists : goal.page_mut-requires-clause-exists
page_mut-requires-clause-exists g c = page_within c.requires.full c.requires.exists _ c.in_ok-child_mut.ensures.value

pub returns : goal.returns
returns g c =
    let places = c.args.self.now in
    let child = c.in_ok-child_mut.field-0.now in
    let read : child ≡ get_or places (c.args.place / g.row.SIZE) child = c.in_ok-child_mut.ensures.value in
    let found = page_is c.requires.full c.requires.exists child read g.P.PageLike.no_page in (
      ap₂ (λ f v. read_of (name_if_ok (λ x. x.ghost_name) c.page_mut.result) f v)
          (fun_ext (λ p. put_back g.T.Places.pages g.T.Places.is_full g.T.Places.none g.T.Places.put g.row.SIZE g.met.T.Places.put_pages g.met.T.Places.put_full g.row.LEN places c.requires.full c.args.place c.requires.exists child read p))
          (put_same places (c.args.place / g.row.SIZE) child read),
      record { lends = tt; value = rw found at c.page_mut.ensures.value },
    )
