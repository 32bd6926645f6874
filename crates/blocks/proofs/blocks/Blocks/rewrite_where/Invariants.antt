use Rattle.std.proofs.Common.{◌-◌, length}
use Rattle.blocks.proofs.Rewritten.{IsRewrittenTo}
use Rattle.blocks.proofs.blocks.Blocks.rewrite_where.Given as goal

abbrev pub invariant-loop-place : goal.invariant-loop-place
invariant-loop-place g l = IsRewrittenTo (g.S.BlockTest.passes l.test) (goal.F-post g l.change) l.fn.self l.self l.from

abbrev pub decreases-loop-place : goal.decreases-loop-place
decreases-loop-place g l = length l.self - l.from
