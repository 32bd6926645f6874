use Rattle.std.proofs.Common.{rules, ◌≡◌, ◌<◌, ◌/◌, ◌%◌, ◌++◌, length, get_or, set, sym, ap, ap₂, ◌∙◌, arith}
use Rattle.std.proofs.lemmas.List.{length-append}
use Rattle.std.proofs.lemmas.Result.{on_ok_weaker}
use Rattle.page_table.proofs.Chunks.{at_back, front_places, in_front_pages, on_err_both, on_ok_both, other_pair_becomes, pair_becomes, split_becomes, three_within}
use Rattle.page_table.specs.PlaceLaws.{page_within, place_full, place_there, put_same, size_there}
use Rattle.page_table.specs.Chunks.{Becomes, joined}
use Rattle.page_table.proofs.places.change_all.Goals as goal

pub nonzero_div-above : goal.nonzero_div-above
nonzero_div-above g c = size_there c.requires.full c.requires.beside

pub nonzero_div-below : goal.nonzero_div-below
nonzero_div-below g c = size_there c.requires.full c.requires.beside

pub nonzero_div-last : goal.nonzero_div-last
nonzero_div-last g c = size_there c.requires.full c.requires.beside

pub nonzero_rem-in_upper : goal.nonzero_rem-in_upper
nonzero_rem-in_upper g c = size_there c.requires.full c.requires.beside

pub nonzero_rem-in_lower : goal.nonzero_rem-in_lower
nonzero_rem-in_lower g c = size_there c.requires.full c.requires.beside

pub nonzero_rem-in_beside : goal.nonzero_rem-in_beside
nonzero_rem-in_beside g c = size_there c.requires.full c.requires.beside

pub offset_bounds-places-last : goal.offset_bounds-places-last
offset_bounds-places-last g c =
    let there : c.args.beside / g.row.SIZE < length c.args.places.now = place_there c.requires.full c.requires.beside in
    search rules

pub bounds-places-last : goal.bounds-places-last
bounds-places-last g c = place_there c.requires.full c.requires.beside

pub change_three-requires-clause-full : goal.change_three-requires-clause-full
change_three-requires-clause-full g c =
    let place = c.in_ok-get_mut.field-0.now in
    let read : place ≡ get_or c.args.places.now (c.args.beside / g.row.SIZE) place = search rules in
    place_full c.requires.full c.requires.beside place read

pub change_three-requires-clause-beside : goal.change_three-requires-clause-beside
change_three-requires-clause-beside g c =
    let place = c.in_ok-get_mut.field-0.now in
    let read : place ≡ get_or c.args.places.now (c.args.beside / g.row.SIZE) place = search rules in
    page_within c.requires.full c.requires.beside place read

pub returns-then-below-last-clause-changed : goal.returns-then-below-last-clause-changed
returns-then-below-last-clause-changed g c =
    let change = c.args.change.now in
    let place = c.in_ok-get_mut.field-0.now in
    let read : place ≡ get_or c.args.places.now (c.args.beside / g.row.SIZE) place = search rules in
    on_ok_weaker c.change_three.result (three_within g.P.PageLike.no_page c.requires.full
    (g.C.PageChange.upper_after change) (g.C.PageChange.lower_after change) (g.C.PageChange.beside_after change) c.requires.upper c.requires.lower c.requires.beside
    c.if-above-last.true c.if-below-last.true place c.change_three.new.self read) c.change_three.ensures.changed

pub two_of-over-requires-clause-first : goal.two_of-over-requires-clause-first
two_of-over-requires-clause-first g c = place_there c.requires.full c.requires.beside

pub two_of-over-requires-clause-second : goal.two_of-over-requires-clause-second
two_of-over-requires-clause-second g c = place_there c.requires.full {i = c.args.lower} (omega (arith, c.requires.lower, c.requires.beside))

pub change_pair-requires-clause-over_full : goal.change_pair-requires-clause-over_full
change_pair-requires-clause-over_full g c = place_full c.requires.full c.requires.beside _ c.two_of-over.ensures.first

pub change_pair-requires-clause-under_full : goal.change_pair-requires-clause-under_full
change_pair-requires-clause-under_full g c = place_full c.requires.full {i = c.args.lower} (omega (arith, c.requires.lower, c.requires.beside)) _ c.two_of-over.ensures.second

pub change_pair-requires-clause-upper : goal.change_pair-requires-clause-upper
change_pair-requires-clause-upper g c = page_within c.requires.full c.requires.beside _ c.two_of-over.ensures.first

pub change_pair-requires-clause-lower : goal.change_pair-requires-clause-lower
change_pair-requires-clause-lower g c =
    let over = c.two_of-over.result.0.now in
    let there : c.args.upper < length (joined g.T.Places.pages c.args.places.now) = omega (arith, c.requires.upper, c.requires.beside) in
    let read : over ≡ get_or c.args.places.now (c.args.upper / g.row.SIZE) over =
    c.two_of-over.ensures.first ∙ ap (λ q. get_or c.args.places.now q over) (sym c.if-above-last.true) in
    page_within c.requires.full there over read

pub change_pair-requires-clause-beside : goal.change_pair-requires-clause-beside
change_pair-requires-clause-beside g c = page_within c.requires.full {i = c.args.lower} (omega (arith, c.requires.lower, c.requires.beside)) _ c.two_of-over.ensures.second

pub returns-then-above-last-clause-changed : goal.returns-then-above-last-clause-changed
returns-then-above-last-clause-changed g c =
    let change = c.args.change.now in
    let upper : c.args.upper < length (joined g.T.Places.pages c.args.places.now) = omega (arith, c.requires.upper, c.requires.beside) in
    let lower : c.args.lower < length (joined g.T.Places.pages c.args.places.now) = omega (arith, c.requires.lower, c.requires.beside) in
    on_ok_both c.change_pair.result (pair_becomes g.P.PageLike.no_page c.requires.full
    (g.C.PageChange.upper_after change) (g.C.PageChange.lower_after change) (g.C.PageChange.beside_after change) upper lower c.requires.beside
    c.if-above-last.true (λ f. c.if-below-last.false (sym f)) c.two_of-over.result.0.now c.two_of-over.result.1.now c.change_pair.new.over c.change_pair.new.under c.two_of-over.ensures.first c.two_of-over.ensures.second)
    c.change_pair.ensures.over c.change_pair.ensures.under

pub two_of-over-requires-then-below-last-2-clause-first : goal.two_of-over-requires-then-below-last-2-clause-first
two_of-over-requires-then-below-last-2-clause-first g c = place_there c.requires.full c.requires.beside

pub two_of-over-requires-then-below-last-2-clause-second : goal.two_of-over-requires-then-below-last-2-clause-second
two_of-over-requires-then-below-last-2-clause-second g c = place_there c.requires.full {i = c.args.upper} (omega (arith, c.requires.upper, c.requires.beside))

pub change_pair-requires-then-below-last-2-clause-over_full : goal.change_pair-requires-then-below-last-2-clause-over_full
change_pair-requires-then-below-last-2-clause-over_full g c = place_full c.requires.full c.requires.beside _ c.two_of-over-then-below-last-2.ensures.first

pub change_pair-requires-then-below-last-2-clause-under_full : goal.change_pair-requires-then-below-last-2-clause-under_full
change_pair-requires-then-below-last-2-clause-under_full g c =
    place_full c.requires.full {i = c.args.upper} (omega (arith, c.requires.upper, c.requires.beside)) _ c.two_of-over-then-below-last-2.ensures.second

pub change_pair-requires-then-below-last-2-clause-upper : goal.change_pair-requires-then-below-last-2-clause-upper
change_pair-requires-then-below-last-2-clause-upper g c = page_within c.requires.full c.requires.beside _ c.two_of-over-then-below-last-2.ensures.first

pub change_pair-requires-then-below-last-2-clause-lower : goal.change_pair-requires-then-below-last-2-clause-lower
change_pair-requires-then-below-last-2-clause-lower g c =
    let over = c.two_of-over-then-below-last-2.result.0.now in
    let there : c.args.lower < length (joined g.T.Places.pages c.args.places.now) = omega (arith, c.requires.lower, c.requires.beside) in
    let read : over ≡ get_or c.args.places.now (c.args.lower / g.row.SIZE) over =
    c.two_of-over-then-below-last-2.ensures.first ∙ ap (λ q. get_or c.args.places.now q over) (sym c.if-below-last-2.true) in
    page_within c.requires.full there over read

pub change_pair-requires-then-below-last-2-clause-beside : goal.change_pair-requires-then-below-last-2-clause-beside
change_pair-requires-then-below-last-2-clause-beside g c =
    page_within c.requires.full {i = c.args.upper} (omega (arith, c.requires.upper, c.requires.beside)) _ c.two_of-over-then-below-last-2.ensures.second

pub returns-then-below-last-2-clause-changed : goal.returns-then-below-last-2-clause-changed
returns-then-below-last-2-clause-changed g c =
    let change = c.args.change.now in
    let upper : c.args.upper < length (joined g.T.Places.pages c.args.places.now) = omega (arith, c.requires.upper, c.requires.beside) in
    let lower : c.args.lower < length (joined g.T.Places.pages c.args.places.now) = omega (arith, c.requires.lower, c.requires.beside) in
    let two = c.two_of-over-then-below-last-2 in
    let pair = c.change_pair-then-below-last-2 in
    on_ok_both pair.result (other_pair_becomes g.P.PageLike.no_page c.requires.full
    (g.C.PageChange.upper_after change) (g.C.PageChange.lower_after change) (g.C.PageChange.beside_after change) upper lower c.requires.beside
    c.if-below-last-2.true (λ f. c.if-above-last.false (sym f)) two.result.0.now two.result.1.now pair.new.over pair.new.under two.ensures.first two.ensures.second)
    pair.ensures.over pair.ensures.under

pub split_at_mut-front-requires : goal.split_at_mut-front-requires
split_at_mut-front-requires g c =
    let there : c.args.beside / g.row.SIZE < length c.args.places.now = place_there c.requires.full c.requires.beside in
    omega (arith, there)

pub bounds-back-0 : goal.bounds-back-0
bounds-back-0 g c =
    let cut = c.split_at_mut-front in
    let there : c.args.beside / g.row.SIZE < length c.args.places.now = place_there c.requires.full c.requires.beside in
    let some : 0 < length cut.result.1.now = omega (arith, there, cut.ensures.front_len, ap length cut.ensures.value, length-append cut.result.0.now cut.result.1.now) in
    search rules

pub page_of-requires-clause-full : goal.page_of-requires-clause-full
page_of-requires-clause-full g c =
    let cut = c.split_at_mut-front in
    let back = cut.result.1.now in
    let place = get_or back 0 c.index-back-0.result in
    let first : place ≡ get_or back 0 place = ap (λ x. get_or back 0 x) c.index-back-0.is in
    let read = at_back c.args.places.now cut.result.0.now back (c.args.beside / g.row.SIZE) place cut.ensures.value cut.ensures.front_len first in
    place_full c.requires.full c.requires.beside place read

pub page_of-requires-clause-exists : goal.page_of-requires-clause-exists
page_of-requires-clause-exists g c =
    let cut = c.split_at_mut-front in
    let back = cut.result.1.now in
    let place = get_or back 0 c.index-back-0.result in
    let first : place ≡ get_or back 0 place = ap (λ x. get_or back 0 x) c.index-back-0.is in
    let read = at_back c.args.places.now cut.result.0.now back (c.args.beside / g.row.SIZE) place cut.ensures.value cut.ensures.front_len first in
    page_within c.requires.full c.requires.beside place read

pub change_both-requires-clause-full : goal.change_both-requires-clause-full
change_both-requires-clause-full g c =
    let cut = c.split_at_mut-front in
    front_places g.P.PageLike.no_page cut.result.0.now cut.result.1.now c.requires.full cut.ensures.value

pub change_both-requires-clause-upper : goal.change_both-requires-clause-upper
change_both-requires-clause-upper g c =
    let cut = c.split_at_mut-front in
    in_front_pages g.P.PageLike.no_page cut.result.0.now cut.result.1.now c.requires.full cut.ensures.value c.requires.beside cut.ensures.front_len c.requires.upper c.if-above-last.false

pub change_both-requires-clause-lower : goal.change_both-requires-clause-lower
change_both-requires-clause-lower g c =
    let cut = c.split_at_mut-front in
    in_front_pages g.P.PageLike.no_page cut.result.0.now cut.result.1.now c.requires.full cut.ensures.value c.requires.beside cut.ensures.front_len c.requires.lower c.if-below-last-2.false

pub returns-clause-changed : goal.returns-clause-changed
returns-clause-changed g c =
    let change = c.args.change.now in
    let cut = c.split_at_mut-front in
    let front = cut.result.0.now in
    let back = cut.result.1.now in
    let place = get_or back 0 c.index-back-0.result in
    let first : place ≡ get_or back 0 place = ap (λ x. get_or back 0 x) c.index-back-0.is in
    let read = at_back c.args.places.now front back (c.args.beside / g.row.SIZE) place cut.ensures.value cut.ensures.front_len first in
    let full = place_full c.requires.full c.requires.beside place read in
    let within = page_within c.requires.full c.requires.beside place read in
    let i = c.args.beside % g.row.SIZE in
    let new = c.change_both.new.beside in
    let put : Becomes g.T.Places.pages g.T.Places.is_full (g.T.Places.put place i new) (set (g.T.Places.pages place) i new) =
    record { full = g.met.T.Places.put_full place i new full within; pages = g.met.T.Places.put_pages place i new full within } in
    on_ok_both c.change_both.result (split_becomes g.P.PageLike.no_page front back c.requires.full cut.ensures.value
    (g.C.PageChange.upper_after change) (g.C.PageChange.lower_after change) (g.C.PageChange.beside_after change) c.requires.beside cut.ensures.front_len
    (in_front_pages g.P.PageLike.no_page front back c.requires.full cut.ensures.value c.requires.beside cut.ensures.front_len c.requires.upper c.if-above-last.false)
    (in_front_pages g.P.PageLike.no_page front back c.requires.full cut.ensures.value c.requires.beside cut.ensures.front_len c.requires.lower c.if-below-last-2.false)
    place (g.T.Places.put place i new) read c.in_ok-page.page.now new c.in_ok-page.ensures.value put c.change_both.new.places) c.change_both.ensures.changed c.change_both.ensures.beside

pub returns-clause-unchanged : goal.returns-clause-unchanged
returns-clause-unchanged g c =
    let cut = c.split_at_mut-front in
    let front = cut.result.0.now in
    let back = cut.result.1.now in
    let place = get_or back 0 c.index-back-0.result in
    let first : place ≡ get_or back 0 place = ap (λ x. get_or back 0 x) c.index-back-0.is in
    let read = at_back c.args.places.now front back (c.args.beside / g.row.SIZE) place cut.ensures.value cut.ensures.front_len first in
    let full = place_full c.requires.full c.requires.beside place read in
    let within = page_within c.requires.full c.requires.beside place read in
    let i = c.args.beside % g.row.SIZE in
    let new = c.change_both.new.beside in
    on_err_both c.change_both.result (λ stays same.
    ap₂ (λ xs ys. xs ++ ys) stays (ap (λ x. set back 0 x) (g.met.T.Places.put_stays place i new full within (same ∙ c.in_ok-page.ensures.value)) ∙ put_same back 0 place first)
    ∙ sym cut.ensures.value) c.change_both.ensures.unchanged c.change_both.ensures.beside_stays
