use Rattle.std.proofs.Common.{◌+◌, ◌≤◌}
use Rattle.box_class.specs.Boxes.{extent_of}
use Rattle.box_class.proofs.extent.Extent.of_keys.Given as goal

abbrev pub invariant-loop-key : goal.invariant-loop-key
invariant-loop-key l = record {
  across : l.across + 1 ≤ extent_of l.bound.x1 l.bound.x2;
  along : l.along + 1 ≤ extent_of l.bound.y1 l.bound.y2;
}
