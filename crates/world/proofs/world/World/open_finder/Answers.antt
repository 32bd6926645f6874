use Rattle.world.specs.Calls.{reply_of_finder}
use Rattle.world.specs.declared.event.Event.TheVariants as event
use Rattle.world.proofs.Calling.{one_step}
use Rattle.world.proofs.world.World.open_finder.Goals as goal

pub returns : goal.returns
returns g c =
    one_step _ g.C.KeyClass.rules g.O.Outlet.rule g.met.C.KeyClass.lawful 0 c.args.self.now c.recall_soundness.ensures (event.Find c.args.row) (reply_of_finder _ c.find.result) c.find.new.self (c.find.ensures 0)
