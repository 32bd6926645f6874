use Rattle.world.specs.Calls.{reply_of_commit}
use Rattle.world.specs.declared.event.Event.TheVariants as event
use Rattle.world.proofs.Calling.{one_step}
use Rattle.world.proofs.world.World.place_row.Goals as goal

pub returns : goal.returns
returns g c =
    one_step _ g.C.KeyClass.rules g.O.Outlet.rule g.met.C.KeyClass.lawful c.args.seat c.args.self.now c.recall_soundness.ensures (event.Place c.args.leaf c.args.key c.args.tag) (reply_of_commit _ c.place.result) c.place.new.self c.place.ensures
