use Rattle.front.proofs.Replying.{next_given, next_empty, next_refused}
use Rattle.front.proofs.commands.next.Goals as goal

pub returns-in-Ok-Some : goal.returns-in-Ok-Some
returns-in-Ok-Some g c told t =
    let n = rw c.in-Ok-Some.field-0-is at c.in-Ok-Some.ensures.ok in
    next_given g.C.KeyClass.rules c.args.store.now c.next.new.self told t c.args.cursor c.in-Ok-Some.item n

pub returns-in-Ok-None : goal.returns-in-Ok-None
returns-in-Ok-None g c told t =
    let n = rw c.in-Ok-None.field-0-is at c.in-Ok-None.ensures.ok in
    next_empty g.C.KeyClass.rules c.args.store.now c.next.new.self told t c.args.cursor n

pub returns-in-Err : goal.returns-in-Err
returns-in-Err g c told t = next_refused g.C.KeyClass.rules c.args.store.now c.next.new.self told t c.args.cursor c.in-Err.why c.in-Err.ensures.err
