use Rattle.std.proofs.Common.{ℕ, ◌<◌, get_or, pos}
use mir.Val.{SFits}
use mir.Syntax.{w64}
use Rattle.interval_class.proofs.lanes.are_in_range.Given as goal

abbrev pub invariant-loop-number : goal.invariant-loop-number
invariant-loop-number l = (k : ℕ) → k < l.number-index → SFits w64 (get_or l.fn.numbers k (pos 0))
