use Rattle.box_class.proofs.Bounds.{CoversBelow}
use Rattle.box_class.proofs.quadratic.common_bound.Given as goal

abbrev pub invariant-loop-key : goal.invariant-loop-key
invariant-loop-key l = CoversBelow l.bound l.key-index l.keys
