use Rattle.std.proofs.Common.{rules, ℕ, get_or, take, arith}
use Rattle.std.proofs.lemmas.List.{take_more}
use Rattle.libgist.specs.Calls.{IsDelete, Passing}
use Rattle.libgist.proofs.Batches.{does_push}
use Rattle.libgist.proofs.stores.delete.Goals as goal

pub loop-place-preserved : goal.loop-place-preserved
loop-place-preserved g c =
    let one = λ (row : ℕ). Passing (IsDelete g.C.KeyClass.rules row) in
    let rows = c.args.rows.now in
    let place = c.loop-place.place in
    let more = take_more rows place 0 (omega (arith, c.loop-place-test.true)) in
    rw more (does_push one (take place rows) (get_or rows place 0) c.args.store.now c.loop-place.store c.delete.new.self c.in-Ok.field-0 c.loop-place.invariant (c.delete.result, c.in-Ok.ensures, search rules))
