use Rattle.front.proofs.Replying.{swept, swept_some}
use Rattle.front.proofs.commands.sweep.Goals as goal

pub returns-in-Ok : goal.returns-in-Ok
returns-in-Ok g c told t = swept g.C.KeyClass.rules c.args.store.now c.sweep_all.new.self told t c.in-Ok.number c.in-Ok.ensures.ok

pub returns-in-Err : goal.returns-in-Err
returns-in-Err g c told t = rw c.in-Err.ensures.refusals (swept_some g.C.KeyClass.rules c.args.store.now c.sweep_all.new.self told t c.in-Err.ensures.err)
