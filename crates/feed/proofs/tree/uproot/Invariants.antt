use Rattle.feed.specs.Planting.{Tends}
use Rattle.feed.proofs.tree.uproot.Given as goal

abbrev pub invariant-loop-row : goal.invariant-loop-row
invariant-loop-row g l = Tends l.tag l.initial.tree.commits l.tree.commits
