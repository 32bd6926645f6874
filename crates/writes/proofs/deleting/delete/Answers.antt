use Rattle.writes.specs.declared.ending.Ending.TheVariants as ending
use Rattle.writes.proofs.UnderWay.{rests_either}
use Rattle.writes.proofs.deleting.delete.Goals as goal

pub returns-clause-rests : goal.returns-clause-rests
returns-clause-rests g c = rests_either g.C.KeyClass.rules g.O.Outlet.rule c.args.world.now c.args.row ending.Delete c.end_row.result c.end_row.new.world c.end_row.ensures.ended c.end_row.ensures.left
