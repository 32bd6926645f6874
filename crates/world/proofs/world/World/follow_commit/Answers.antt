use Rattle.world.specs.Calls.{reply_of_opening}
use Rattle.world.specs.declared.event.Event.TheVariants as event
use Rattle.world.proofs.Calling.{one_step}
use Rattle.world.proofs.world.World.follow_commit.Goals as goal

pub returns-clause-opens : goal.returns-clause-opens
returns-clause-opens g c =
    one_step _ g.C.KeyClass.rules g.O.Outlet.rule g.met.C.KeyClass.lawful 0 c.args.self.now c.recall_soundness.ensures (event.Follow c.args.query c.args.room c.args.commit) (reply_of_opening _ c.follow.result) c.follow.new.self (c.follow.ensures.step 0)
