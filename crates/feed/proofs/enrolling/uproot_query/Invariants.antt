use Rattle.feed.specs.Planting.{Tends}
use Rattle.feed.proofs.enrolling.uproot_query.Given as goal

abbrev pub invariant-loop-key : goal.invariant-loop-key
invariant-loop-key g l = Tends l.number l.initial.tree.commits l.tree.commits
