use Rattle.front.proofs.Replying.{closes}
use Rattle.front.proofs.commands.close.Goals as goal

pub returns-in-Ok : goal.returns-in-Ok
returns-in-Ok g c told t = closes g.C.KeyClass.rules c.args.store.now c.close.new.self told t c.args.cursor c.in-Ok.ensures.ok
