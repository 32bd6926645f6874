use Rattle.std.proofs.Common.{◌≡◌, ◌++◌, drop}
use Rattle.node.specs.Parts.{left_part}
use Rattle.node.proofs.parts.left_entries.Given as goal

abbrev pub invariant-loop-place : goal.invariant-loop-place
invariant-loop-place g l = record {
  taken : l.left ++ left_part (drop l.place l.sides) (drop l.place l.entries) ≡ left_part l.sides l.entries;
}
