use Rattle.world.specs.Calls.{reply_of_taking}
use Rattle.world.specs.declared.event.Event.TheVariants as event
use Rattle.world.proofs.Calling.{one_step}
use Rattle.world.proofs.world.World.take_front.Goals as goal

pub returns : goal.returns
returns g c =
    one_step _ g.C.KeyClass.rules g.O.Outlet.rule g.met.C.KeyClass.lawful 0 c.args.self.now c.recall_soundness.ensures (event.Take c.args.c) (reply_of_taking _ c.take.result) c.take.new.self (c.take.ensures 0)
