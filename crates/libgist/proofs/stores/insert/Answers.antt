use Rattle.std.proofs.Common.{get_or, take, arith}
use Rattle.std.proofs.lemmas.List.{take_more}
use Rattle.libgist.specs.Calls.{InsertsOne}
use Rattle.libgist.specs.declared.words.NewRow.{NewRow}
use Rattle.libgist.specs.Shown.{no_words}
use Rattle.libgist.proofs.Batches.{does_push}
use Rattle.libgist.proofs.stores.insert.Goals as goal

pub loop-place-preserved : goal.loop-place-preserved
loop-place-preserved g c =
    let one = InsertsOne g.C.KeyClass.rules g.C.Crossing.key_of in
    let rows = c.args.rows.now in
    let place = c.loop-place.place in
    let no_row : NewRow = record { key = no_words; tag = 0 } in
    let more = take_more rows place no_row (omega (arith, c.loop-place-test.true)) in
    rw more (does_push one (take place rows) (get_or rows place no_row) c.args.store.now c.loop-place.store c.insert_one.new.store c.in-Ok.field-0 c.loop-place.invariant c.in-Ok.ensures)
