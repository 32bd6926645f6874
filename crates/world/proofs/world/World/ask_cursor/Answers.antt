use Rattle.world.specs.Calls.{reply_of_asking}
use Rattle.world.specs.declared.event.Event.TheVariants as event
use Rattle.world.proofs.Calling.{one_step}
use Rattle.world.proofs.world.World.ask_cursor.Goals as goal

pub returns : goal.returns
returns g c =
    one_step _ g.C.KeyClass.rules g.O.Outlet.rule g.met.C.KeyClass.lawful 0 c.args.self.now c.recall_soundness.ensures (event.AskMark c.args.c) (reply_of_asking _ c.ask_mark.result) c.ask_mark.new.self (c.ask_mark.ensures 0)
