use Rattle.descent.specs.Choosing.{IsBestCandidate}
use Rattle.descent.proofs.choosing.best_through_block.Given as goal

abbrev pub invariant-loop-place : goal.invariant-loop-place
invariant-loop-place g l = record {
  best : IsBestCandidate g.C.KeyClass.rules.union_of g.C.KeyClass.rules.size_of l.key l.branches l.place l.best;
}
