use Rattle.world.specs.Calls.{reply_of_visit}
use Rattle.world.specs.declared.event.Event.TheVariants as event
use Rattle.world.proofs.Calling.{one_step}
use Rattle.world.proofs.world.World.seek_to_move.Goals as goal

pub returns : goal.returns
returns g c =
    one_step _ g.C.KeyClass.rules g.O.Outlet.rule g.met.C.KeyClass.lawful c.args.seat c.args.self.now c.recall_soundness.ensures (event.Move c.args.finder c.args.leaf c.args.key) (reply_of_visit _ c.move_row.result) c.move_row.new.self c.move_row.ensures
