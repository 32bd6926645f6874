use Rattle.front.proofs.Replying.{move_committed, move_refused}
use Rattle.front.proofs.commands.move_row.Goals as goal

pub returns-in-Ok : goal.returns-in-Ok
returns-in-Ok g c told t =
    let e = c.in-Ok.ensures in
    let w = c.move_row.ensures in
    move_committed g.C.KeyClass.rules c.args.store.now c.move_row.new.self told t c.args.row c.args.key c.in-Ok.number c.move_row.result c.in-Ok.is e.number
    (record { never = w.no_such_row; already = w.already_deleted; full = w.full }) e.ok e.dead e.finders

pub returns-in-Err : goal.returns-in-Err
returns-in-Err g c told t =
    let e = c.in-Err.ensures in
    let w = c.move_row.ensures in
    move_refused g.C.KeyClass.rules c.args.store.now c.move_row.new.self told t c.args.row c.in-Err.why c.move_row.result c.in-Err.is
    (record { never = w.no_such_row; already = w.already_deleted; full = w.full }) c.args.key e.refusals e.err e.unfound e.finders e.few_pages
