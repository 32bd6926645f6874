use Rattle.std.proofs.Common.{length}
use Rattle.front.specs.Written.{WritesAllBut}
use Rattle.front.proofs.answers.write_out.Given as goal

abbrev pub invariant-writing : goal.invariant-writing
invariant-writing g l = WritesAllBut (g.W.Write.contents l.initial.writer) (g.W.Write.contents l.writer) l.initial.rest l.rest

abbrev pub decreases-writing : goal.decreases-writing
decreases-writing g l = length l.rest
