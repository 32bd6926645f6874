use Rattle.key_class.specs.Queries.{query_of}
use Rattle.front.proofs.Replying.{opens, open_refused}
use Rattle.front.proofs.commands.open.Goals as goal

pub returns-in-Ok : goal.returns-in-Ok
returns-in-Ok g c told t =
    opens g.C.KeyClass.rules c.args.store.now c.open.new.self told t c.args.room c.in-Ok.cursor (query_of c.args.query) c.open.result c.in-Ok.is c.requires c.open.ensures.bad c.open.ensures.full c.in-Ok.ensures.ok

pub returns-in-Err : goal.returns-in-Err
returns-in-Err g c told t =
    open_refused g.C.KeyClass.rules c.args.store.now c.open.new.self told t c.args.room (query_of c.args.query) c.in-Err.why c.open.result c.in-Err.is c.requires c.open.ensures.bad c.open.ensures.full c.in-Err.ensures.refusals c.in-Err.ensures.err
