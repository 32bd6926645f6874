use Rattle.front.proofs.Replying.{mark_asked}
use Rattle.front.proofs.commands.mark.Goals as goal

pub returns-in-Ok : goal.returns-in-Ok
returns-in-Ok g c told t = mark_asked g.C.KeyClass.rules c.args.store.now c.ask_mark.new.self told t c.args.cursor c.in-Ok.ensures.ok
