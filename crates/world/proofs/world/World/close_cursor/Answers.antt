use Rattle.world.specs.Calls.{reply_of_closing}
use Rattle.world.specs.declared.event.Event.TheVariants as event
use Rattle.world.proofs.Calling.{one_step}
use Rattle.world.proofs.world.World.close_cursor.Goals as goal

pub returns : goal.returns
returns g c =
    one_step _ g.C.KeyClass.rules g.O.Outlet.rule g.met.C.KeyClass.lawful 0 c.args.self.now c.recall_soundness.ensures (event.Close c.args.c) (reply_of_closing _ c.close.result) c.close.new.self (c.close.ensures 0)
