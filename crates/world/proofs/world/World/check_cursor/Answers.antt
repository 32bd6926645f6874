use Rattle.world.proofs.Handling.{at_passes}
use Rattle.world.proofs.world.World.check_cursor.Goals as goal

pub returns-clause-open : goal.returns-clause-open
returns-clause-open g c = at_passes g.C.KeyClass.rules.is_cover c.args.self.now c.recall_soundness.ensures c.args.c c.in_ok-place_of.field-0 c.in_ok-place_of.ensures.found
