use Rattle.std.proofs.Common.{◌+◌, arith}
use Rattle.world.proofs.Committing.{of_earlier}
use Rattle.world.proofs.commit.change_and_tell.Goals as goal

pub change_leaves-requires-clause-earlier : goal.change_leaves-requires-clause-earlier
change_leaves-requires-clause-earlier g c = of_earlier c.args.commits.now (c.len.result + 1) c.args.change c.requires.follows (omega (arith, c.len.ensures.len))
