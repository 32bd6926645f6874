use Rattle.std.proofs.Common.{◌≡◌, ◌-◌, ◌*◌, ◌/◌, ◌%◌, ◌<◌, Some, slice_get, sym, ap, subst, ◌∙◌, arith, length, refl}
use Rattle.std.proofs.lemmas.Option.{slice_get_read}
use Rattle.change_list.proofs.Joining.{at_segment, at_tail, full_at, whole_length}
use Rattle.change_list.proofs.groups.Groups.segment.Goals as goal

pub returns-then-group-full : goal.returns-then-group-full
returns-then-group-full g c =
    let inside = c.self.inside in
    let group = c.index-full-group.result in
    let there = slice_get_read _ _ (c.args.place / 256) group refl c.if-group-full.true c.index-full-group.is in
    let read : slice_get inside.full (c.args.place / 256) ≡ Some group = ap (λ full. slice_get full (c.args.place / 256)) (sym c.as_slice-full.ensures) ∙ there in
    let within : c.args.place % 256 < length c.as_slice.result.now = omega (arith, ap length c.as_slice.ensures, full_at inside.full c.self.invariant.each_full (c.args.place / 256) group read) in
    ap (λ l. slice_get l c.args.place) (sym c.self.view_is)
    ∙ at_segment inside.full inside.last c.self.invariant c.args.place group read
    ∙ ap (λ l. slice_get l (c.args.place % 256)) (sym c.as_slice.ensures)
    ∙ slice_get_read _ _ (c.args.place % 256) c.index-as_slice-place.result refl within c.index-as_slice-place.is

pub bounds-as_slice-place-2 : goal.bounds-as_slice-place-2
bounds-as_slice-place-2 g c =
    let inside = c.self.inside in
    let full = ap length c.as_slice-full.ensures in
    let last = ap length c.as_slice-2.ensures in
    omega (arith, whole_length inside.full inside.last c.self.invariant, full, last, ap length c.self.view_is, c.requires, c.if-group-full.false)

pub offset_bounds-as_slice-place-2 : goal.offset_bounds-as_slice-place-2
offset_bounds-as_slice-place-2 g c =
    let inside = c.self.inside in
    let full = ap length c.as_slice-full.ensures in
    omega (arith, whole_length inside.full inside.last c.self.invariant, full, ap length c.self.view_is, c.requires, c.if-group-full.false, c.self.invariant.short)

pub returns : goal.returns
returns g c =
    let inside = c.self.inside in
    let full = ap length c.as_slice-full.ensures in
    let last = ap length c.as_slice-2.ensures in
    let place = c.args.place - length c.as_slice-full.result.now * 256 in
    let within : place < length c.as_slice-2.result.now = omega (arith, whole_length inside.full inside.last c.self.invariant, full, last, ap length c.self.view_is, c.requires, c.if-group-full.false) in
    ap (λ l. slice_get l c.args.place) (sym c.self.view_is)
    ∙ at_tail inside.full inside.last c.self.invariant c.args.place (omega (arith, full, c.if-group-full.false))
    ∙ ap (λ n. slice_get inside.last (c.args.place - n * 256)) (sym full)
    ∙ ap (λ l. slice_get l place) (sym c.as_slice-2.ensures)
    ∙ slice_get_read _ _ place c.index-as_slice-place-2.result refl within c.index-as_slice-place-2.is
