use Rattle.std.proofs.Common.{◌≡◌, ◌++◌, drop}
use Rattle.change_list.specs.Listings.{without_marks}
use Rattle.storm.proofs.judge.without_marks.Given as goal

abbrev pub invariant-loop-item : goal.invariant-loop-item
invariant-loop-item g l = l.left.items ++ without_marks (drop l.item-index l.items) ≡ without_marks l.items
