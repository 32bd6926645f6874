use Rattle.std.proofs.lemmas.Result.{err_from_is_err_and}
use Rattle.desk.proofs.Answering.{move_refused}
use Rattle.desk.proofs.desk.DeskOver+World+C+Ring+C+Key+L.move_for.Goals as goal

pub returns-in_err-split_moving-in-Split-clause-refusals : goal.returns-in_err-split_moving-in-Split-clause-refusals
returns-in_err-split_moving-in-Split-clause-refusals g c =
    let p = err_from_is_err_and c.from_residual-in_err-split_moving-in-Split.result c.from_residual-in_err-split_moving-in-Split.ensures.1 in
    rw (p.1, p.2)
    (move_refused g.C.KeyClass.rules c.split_moving.new.told c.args.row c.in_err-split_moving-in-Split.field-0.0 c.in_err-split_moving-in-Split.ensures.refusals)
