use Rattle.world.proofs.Beginning.{opens_at_root}
use Rattle.world.proofs.world.World.find.Goals as goal

pub returns : goal.returns
returns g c = opens_at_root _ g.C.KeyClass.rules g.O.Outlet.rule c.args.self.now c.args.row c.in_ok-key.key c.in_ok-key.ensures.passed c.in_ok-key.ensures.made
    c.begin.result c.begin.new.self c.begin.ensures.begun c.begin.ensures.unchanged c.begin.ensures.refused
