use Rattle.std.proofs.Common.{pos, below_more, arith}
use Rattle.std.proofs.lemmas.Simd.{Each1-from_get_or}
use mir.Val.{SFits}
use mir.Syntax.{w32}
use Rattle.box_class.proofs.lanes.are_in_range.Goals as goal

pub loop-number-preserved : goal.loop-number-preserved
loop-number-preserved c = below_more _ _ c.loop-number.invariant c.is_in_range.ensures

pub returns : goal.returns
returns c = Each1-from_get_or (SFits w32) c.args.numbers.now (pos 0) (λ k h. c.loop-number.invariant k (omega arith))
