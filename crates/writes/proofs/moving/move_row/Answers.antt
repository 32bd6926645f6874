use Rattle.world.proofs.Resting.{rests_trans}
use Rattle.writes.specs.declared.ending.Ending.TheVariants as ending
use Rattle.writes.proofs.UnderWay.{rests_either}
use Rattle.writes.proofs.Dying.{dies}
use Rattle.writes.proofs.moving.move_row.Goals as goal

pub returns-clause-rests : goal.returns-clause-rests
returns-clause-rests g c =
    rests_trans g.C.KeyClass.rules g.O.Outlet.rule c.args.world.now c.make_way.new.world c.end_row.new.world c.make_way.ensures.moved.rests
    (rests_either g.C.KeyClass.rules g.O.Outlet.rule c.make_way.new.world c.args.row (ending.Move c.from.result c.args.key) c.end_row.result c.end_row.new.world c.end_row.ensures.ended c.end_row.ensures.left)

pub returns-clause-dead : goal.returns-clause-dead
returns-clause-dead g c =
    dies g.C.KeyClass.rules g.O.Outlet.rule c.args.world.now c.make_way.new.world c.end_row.new.world c.args.row (ending.Move c.from.result c.args.key) c.end_row.result
    c.make_way.ensures.moved.commits c.make_way.ensures.moved.dead c.end_row.ensures.ended
