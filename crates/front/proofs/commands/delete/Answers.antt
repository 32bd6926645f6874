use Rattle.std.proofs.Common.{ap}
use Rattle.front.proofs.Replying.{delete_committed, end_refused}
use Rattle.front.proofs.commands.delete.Goals as goal

pub returns-in-Ok : goal.returns-in-Ok
returns-in-Ok g c told t =
    let e = c.in-Ok.ensures in
    let w = c.delete.ensures in
    delete_committed g.C.KeyClass.rules c.args.store.now c.delete.new.self told t c.args.row c.in-Ok.number c.delete.result c.in-Ok.is e.number
    (record { never = w.no_such_row; already = w.already_deleted; full = w.full }) e.ok e.dead e.finders

pub returns-in-Err : goal.returns-in-Err
returns-in-Err g c told t =
    let e = c.in-Err.ensures in
    let w = c.delete.ensures in
    end_refused g.C.KeyClass.rules c.args.store.now c.delete.new.self told t c.args.row c.in-Err.why c.delete.result c.in-Err.is
    (record { never = w.no_such_row; already = w.already_deleted; full = w.full }) e.refusals e.err (λ other. ap (λ s. s.finders) (e.unfound other)) e.finders
