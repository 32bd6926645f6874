use Rattle.std.proofs.Common.{◌≡◌, length}
use Rattle.box_class.proofs.quadratic.gain_anew.Given as goal

abbrev pub invariant-loop-i : goal.invariant-loop-i
invariant-loop-i g l = length l.gains ≡ length l.initial.gains
