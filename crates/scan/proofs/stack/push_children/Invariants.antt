use Rattle.std.proofs.Common.{◌≡◌, ◌++◌, drop, take, ◌≤◌}
use Rattle.smallvec.specs.SmallVec.{HasRoomFor}
use Rattle.scan.specs.Scanning.{child_items}
use Rattle.scan.proofs.stack.push_children.Given as goal

abbrev pub invariant-loop-place : goal.invariant-loop-place
invariant-loop-place g l = record {
  within : l.place ≤ l.count;
  room : HasRoomFor l.items l.place;
  pushed : l.items.items ≡ l.initial.items.items ++ child_items (g.T.BranchTest.wants l.test) l.memo (drop l.place (take l.count l.branches));
}

abbrev pub decreases-loop-place : goal.decreases-loop-place
decreases-loop-place g l = l.place
