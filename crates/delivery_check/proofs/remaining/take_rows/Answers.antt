use Rattle.std.proofs.Common.{◌≡◌, false, true, Some, refl, ap, ◌∙◌, slice_get}
use Rattle.std.proofs.lemmas.Option.{slice_get_read}
use Rattle.change_list.specs.declared.item.Item.TheVariants as item
use Rattle.delivery_check.proofs.Taking.{other_next, taken_next, taken_none, taken_whole, wrong_row}
use Rattle.delivery_check.proofs.remaining.take_rows.Goals as goal

pub returns-then-not-take : goal.returns-then-not-take
returns-then-not-take g c =
    let at : slice_get c.args.items.now c.loop-place.place ≡ Some (item.Row c.in-Row.row) =
    slice_get_read c.args.items.now _ c.loop-place.place _ refl c.loop-place-test.true c.index-items-place.is ∙ ap Some c.in-Row.is in
    wrong_row c.args.remaining.now c.args.items.now c.loop-place.place c.loop-place.remaining c.loop-place.invariant g.C.Key.PartialEq.eq g.met.C.KeyClass.lawful.equal_keys_are_same c.in-Row.row at
    (λ h. let z : false ≡ true = c.if-not-take.ensures.told.1 h in cc)

pub loop-place-preserved : goal.loop-place-preserved
loop-place-preserved g c =
    let at : slice_get c.args.items.now c.loop-place.place ≡ Some (item.Row c.in-Row.row) =
    slice_get_read c.args.items.now _ c.loop-place.place _ refl c.loop-place-test.true c.index-items-place.is ∙ ap Some c.in-Row.is in
    taken_next c.args.remaining.now c.args.items.now c.loop-place.place c.loop-place.remaining c.loop-place.invariant c.in-Row.row _ at c.if-not-take.ensures.taken

pub loop-place-init : goal.loop-place-init
loop-place-init g c = taken_none c.args.remaining.now c.args.items.now

pub returns-in_default : goal.returns-in_default
returns-in_default g c =
    let at : slice_get c.args.items.now c.loop-place.place ≡ Some c.index-items-place.result =
    slice_get_read c.args.items.now _ c.loop-place.place _ refl c.loop-place-test.true c.index-items-place.is in
    other_next c.args.remaining.now c.args.items.now c.loop-place.place c.loop-place.remaining c.loop-place.invariant c.index-items-place.result at c.in_default.not-Row

pub returns : goal.returns
returns g c = taken_whole c.args.remaining.now c.args.items.now c.loop-place.place c.loop-place.remaining c.loop-place.invariant c.loop-place-test.false
