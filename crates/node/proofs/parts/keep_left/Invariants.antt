use Rattle.std.proofs.Common.{◌≡◌, ◌++◌, ◌≤◌, take, drop, length}
use Rattle.node.specs.Parts.{left_part}
use Rattle.node.proofs.parts.keep_left.Given as goal

abbrev pub invariant-loop-place : goal.invariant-loop-place
invariant-loop-place g l = record {
  behind : l.kept ≤ l.place;
  as_many : length l.entries ≡ length l.fn.entries;
  left : take l.kept l.entries ++ left_part (drop l.place l.sides) (drop l.place l.entries) ≡ left_part l.sides l.fn.entries;
}
