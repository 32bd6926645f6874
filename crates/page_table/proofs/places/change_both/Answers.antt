use Rattle.std.proofs.Common.{rules, ◌≡◌, ◌<◌, ◌/◌, length, get_or, ap, ◌∙◌}
use Rattle.std.proofs.lemmas.Result.{on_ok_weaker}
use Rattle.page_table.proofs.Chunks.{both_apart, both_read, both_within, on_ok_both}
use Rattle.page_table.specs.PlaceLaws.{page_within, place_full, place_there, size_there}
use Rattle.page_table.proofs.places.change_both.Goals as goal

pub nonzero_div-above : goal.nonzero_div-above
nonzero_div-above g c = size_there c.requires.full c.requires.upper

pub nonzero_div-below : goal.nonzero_div-below
nonzero_div-below g c = size_there c.requires.full c.requires.upper

pub nonzero_rem-upper : goal.nonzero_rem-upper
nonzero_rem-upper g c = size_there c.requires.full c.requires.upper

pub nonzero_rem-lower : goal.nonzero_rem-lower
nonzero_rem-lower g c = size_there c.requires.full c.requires.upper

pub bounds-places-above : goal.bounds-places-above
bounds-places-above g c = place_there c.requires.full c.requires.upper

pub two_of-over-requires-clause-first : goal.two_of-over-requires-clause-first
two_of-over-requires-clause-first g c = place_there c.requires.full c.requires.upper

pub two_of-over-requires-clause-second : goal.two_of-over-requires-clause-second
two_of-over-requires-clause-second g c = place_there c.requires.full c.requires.lower

pub offset_bounds-places-above : goal.offset_bounds-places-above
offset_bounds-places-above g c =
    let there : c.args.upper / g.row.SIZE < length c.args.places.now = place_there c.requires.full c.requires.upper in
    search rules

pub change_two-requires-clause-full : goal.change_two-requires-clause-full
change_two-requires-clause-full g c =
    let read : c.in_ok-get_mut.field-0.now ≡ get_or c.args.places.now (c.args.upper / g.row.SIZE) c.in_ok-get_mut.field-0.now = search rules in
    place_full c.requires.full c.requires.upper _ read

pub change_two-requires-clause-upper : goal.change_two-requires-clause-upper
change_two-requires-clause-upper g c =
    let read : c.in_ok-get_mut.field-0.now ≡ get_or c.args.places.now (c.args.upper / g.row.SIZE) c.in_ok-get_mut.field-0.now = search rules in
    page_within c.requires.full c.requires.upper _ read

pub change_two-requires-clause-lower : goal.change_two-requires-clause-lower
change_two-requires-clause-lower g c =
    let read : c.in_ok-get_mut.field-0.now ≡ get_or c.args.places.now (c.args.upper / g.row.SIZE) c.in_ok-get_mut.field-0.now = search rules in
    page_within c.requires.full c.requires.lower _
    (read ∙ ap (λ q. get_or c.args.places.now q c.in_ok-get_mut.field-0.now) c.if-above-below.true)

pub returns-then-above-below-clause-changed : goal.returns-then-above-below-clause-changed
returns-then-above-below-clause-changed g c =
    let change = c.args.change.now in
    let beside = c.args.beside.now in
    let read : c.in_ok-get_mut.field-0.now ≡ get_or c.args.places.now (c.args.upper / g.row.SIZE) c.in_ok-get_mut.field-0.now = search rules in
    on_ok_weaker c.change_two.result (both_within g.P.PageLike.no_page c.requires.full
    (λ x y. g.C.PageChange.upper_after change x y beside) (λ x y. g.C.PageChange.lower_after change x y beside) c.requires.upper c.requires.lower
    c.if-above-below.true c.in_ok-get_mut.field-0.now c.change_two.new.self read) c.change_two.ensures.changed

pub returns-then-above-below-clause-beside : goal.returns-then-above-below-clause-beside
returns-then-above-below-clause-beside g c =
    let change = c.args.change.now in
    let beside = c.args.beside.now in
    let place = c.in_ok-get_mut.field-0.now in
    let read : place ≡ get_or c.args.places.now (c.args.upper / g.row.SIZE) place = search rules in
    on_ok_weaker c.change_two.result (λ same. same ∙ both_read g.P.PageLike.no_page c.requires.full
    (λ x y. g.C.PageChange.upper_after change x y beside) (λ x y. g.C.PageChange.lower_after change x y beside) c.requires.upper c.requires.lower
    (λ x y. g.C.PageChange.beside_after change x y beside) place place read (read ∙ ap (λ q. get_or c.args.places.now q place) c.if-above-below.true)) c.change_two.ensures.beside

pub change_parted-requires-clause-above_full : goal.change_parted-requires-clause-above_full
change_parted-requires-clause-above_full g c =
    place_full c.requires.full c.requires.upper _ c.two_of-over.ensures.first

pub change_parted-requires-clause-below_full : goal.change_parted-requires-clause-below_full
change_parted-requires-clause-below_full g c =
    place_full c.requires.full c.requires.lower _ c.two_of-over.ensures.second

pub change_parted-requires-clause-upper : goal.change_parted-requires-clause-upper
change_parted-requires-clause-upper g c =
    page_within c.requires.full c.requires.upper _ c.two_of-over.ensures.first

pub change_parted-requires-clause-lower : goal.change_parted-requires-clause-lower
change_parted-requires-clause-lower g c =
    page_within c.requires.full c.requires.lower _ c.two_of-over.ensures.second

pub returns-clause-changed : goal.returns-clause-changed
returns-clause-changed g c =
    let change = c.args.change.now in
    let beside = c.args.beside.now in
    on_ok_both c.change_parted.result (both_apart g.P.PageLike.no_page c.requires.full
    (λ x y. g.C.PageChange.upper_after change x y beside) (λ x y. g.C.PageChange.lower_after change x y beside) c.requires.upper c.requires.lower
    c.if-above-below.false c.two_of-over.result.0.now c.two_of-over.result.1.now c.change_parted.new.above c.change_parted.new.below c.two_of-over.ensures.first c.two_of-over.ensures.second)
    c.change_parted.ensures.above c.change_parted.ensures.below

pub returns-clause-beside : goal.returns-clause-beside
returns-clause-beside g c =
    let change = c.args.change.now in
    let beside = c.args.beside.now in
    on_ok_weaker c.change_parted.result (λ same. same ∙ both_read g.P.PageLike.no_page c.requires.full
    (λ x y. g.C.PageChange.upper_after change x y beside) (λ x y. g.C.PageChange.lower_after change x y beside) c.requires.upper c.requires.lower
    (λ x y. g.C.PageChange.beside_after change x y beside) c.two_of-over.result.0.now c.two_of-over.result.1.now c.two_of-over.ensures.first c.two_of-over.ensures.second) c.change_parted.ensures.beside
