use Rattle.key_class.specs.Queries.{query_of}
use Rattle.front.proofs.Replying.{follows, follow_refused}
use Rattle.front.proofs.commands.open_from.Goals as goal

pub returns-in-Ok : goal.returns-in-Ok
returns-in-Ok g c told t =
    follows g.C.KeyClass.rules c.args.store.now c.open_from.new.self told t c.args.room c.args.commit c.in-Ok.cursor (query_of c.args.query) c.open_from.result c.in-Ok.is c.requires c.open_from.ensures.bad c.open_from.ensures.future c.open_from.ensures.full c.in-Ok.ensures.ok

pub returns-in-Err : goal.returns-in-Err
returns-in-Err g c told t =
    follow_refused g.C.KeyClass.rules c.args.store.now c.open_from.new.self told t c.args.room c.args.commit (query_of c.args.query) c.in-Err.why c.open_from.result c.in-Err.is c.requires c.open_from.ensures.bad c.open_from.ensures.future c.open_from.ensures.full c.in-Err.ensures.refusals c.in-Err.ensures.err
