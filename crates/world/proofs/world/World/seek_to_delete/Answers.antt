use Rattle.world.specs.Calls.{reply_of_visit}
use Rattle.world.specs.declared.event.Event.TheVariants as event
use Rattle.world.proofs.Calling.{one_step}
use Rattle.world.proofs.world.World.seek_to_delete.Goals as goal

pub returns : goal.returns
returns g c =
    one_step _ g.C.KeyClass.rules g.O.Outlet.rule g.met.C.KeyClass.lawful c.args.seat c.args.self.now c.recall_soundness.ensures (event.Seek c.args.finder) (reply_of_visit _ c.seek.result) c.seek.new.self c.seek.ensures
