use Rattle.std.proofs.Common.{sym, ap, refl, slice_get, Some, ◌≡◌, ◌∙◌, map, length, arith}
use Rattle.std.proofs.lemmas.Option.{slice_get-map, slice_get_read}
use Rattle.std.specs.Prelude.{option_map}
use Rattle.libgist.proofs.Writing.{written_more}
use Rattle.libgist.proofs.buffers.write_as.Goals as goal

pub loop-place-preserved : goal.loop-place-preserved
loop-place-preserved g c =
    let form_of = g.F.Form.form_of in
    let place = c.loop-place.place in
    let at : slice_get c.args.items.now place ≡ Some c.index-items-place.result =
    slice_get_read c.args.items.now (length c.args.items.now) place c.index-items-place.result refl (omega (arith, c.loop-place-test.true, c.loop-place.invariant.1)) c.index-items-place.is in
    let shown : slice_get (map form_of c.args.items.now) place ≡ Some c.form.result = slice_get-map form_of c.args.items.now place ∙ ap (option_map form_of) at ∙ ap Some (sym c.form.ensures) in
    (rw c.loop-place.invariant.0 (written_more (map form_of c.args.items.now) c.args.buffer.now place c.form.result shown (omega (arith, c.loop-place-test.true, c.loop-place.invariant.2))), c.loop-place.invariant.1, c.loop-place.invariant.2)
