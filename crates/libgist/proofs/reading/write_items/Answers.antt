use Rattle.std.proofs.Common.{sym, ap, refl, slice_get, Some, ◌≡◌, ◌∙◌, map, length, arith}
use Rattle.std.proofs.lemmas.Option.{slice_get-map, slice_get_read}
use Rattle.std.specs.Prelude.{option_map}
use Rattle.libgist.proofs.Writing.{written_more}
use Rattle.libgist.specs.Shown.{shown_item}
use Rattle.libgist.proofs.reading.write_items.Goals as goal

pub loop-place-preserved : goal.loop-place-preserved
loop-place-preserved g c =
    let show = shown_item g.C.Crossing.words_of c.args.snapshot.now in
    let place = c.loop-place.place in
    let at : slice_get c.args.items.now place ≡ Some c.index-items-place.result =
    slice_get_read c.args.items.now (length c.args.items.now) place c.index-items-place.result refl (omega (arith, c.loop-place-test.true, c.loop-place.invariant.1)) c.index-items-place.is in
    let shown : slice_get (map show c.args.items.now) place ≡ Some c.item.result = slice_get-map show c.args.items.now place ∙ ap (option_map show) at ∙ ap Some (sym c.item.ensures) in
    (rw c.loop-place.invariant.0 (written_more (map show c.args.items.now) c.args.buffer.now place c.item.result shown (omega (arith, c.loop-place-test.true, c.loop-place.invariant.2))), c.loop-place.invariant.1, c.loop-place.invariant.2)
