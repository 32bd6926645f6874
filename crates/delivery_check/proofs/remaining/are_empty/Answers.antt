use Rattle.std.proofs.Common.{arith}
use Rattle.std.proofs.lemmas.Grind.{common_steps}
use Rattle.delivery_check.proofs.remaining.are_empty.Goals as goal

pub returns-then-is_some : goal.returns-then-is_some
returns-then-is_some g c = grind (arith, common_steps)

pub loop-slot-preserved : goal.loop-slot-preserved
loop-slot-preserved g c = grind (arith, common_steps)

pub returns : goal.returns
returns g c = grind (arith, common_steps)
