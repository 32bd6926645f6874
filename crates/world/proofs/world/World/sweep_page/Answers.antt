use Rattle.world.specs.Calls.{reply_of_sweep}
use Rattle.world.specs.declared.event.Event.TheVariants as event
use Rattle.world.proofs.Calling.{one_step}
use Rattle.world.proofs.world.World.sweep_page.Goals as goal

pub returns : goal.returns
returns g c =
    one_step _ g.C.KeyClass.rules g.O.Outlet.rule g.met.C.KeyClass.lawful 0 c.args.self.now c.recall_soundness.ensures (event.Sweep c.args.page) (reply_of_sweep _ c.sweep.result) c.sweep.new.self (c.sweep.ensures 0)
