use Rattle.world.proofs.Beginning.{opens_near}
use Rattle.world.proofs.world.World.find_near.Goals as goal

pub returns : goal.returns
returns g c = opens_near g.C.KeyClass.rules g.O.Outlet.rule c.args.self.now c.args.row c.in_ok-key.key c.last_page-page.result c.in_ok-key.ensures.passed c.in_ok-key.ensures.made c.last_page-page.ensures
    c.begin.result c.begin.new.self c.begin.ensures.begun c.begin.ensures.unchanged c.begin.ensures.refused
