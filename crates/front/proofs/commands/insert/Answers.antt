use Rattle.front.proofs.Replying.{insert_committed, insert_refused}
use Rattle.front.proofs.commands.insert.Goals as goal

pub returns-in-Ok : goal.returns-in-Ok
returns-in-Ok g c told t =
    let e = c.in-Ok.ensures in
    insert_committed g.C.KeyClass.rules c.args.store.now c.insert.new.self told t c.args.key c.args.tag c.in-Ok.number c.insert.result c.in-Ok.is e.number c.insert.ensures.full e.ok e.dead e.finders

pub returns-in-Err : goal.returns-in-Err
returns-in-Err g c told t =
    let e = c.in-Err.ensures in
    insert_refused g.C.KeyClass.rules c.args.store.now c.insert.new.self told t c.args.key c.args.tag c.in-Err.why c.insert.result c.in-Err.is c.insert.ensures.full e.refusals e.err e.finders c.insert.ensures.few_pages
