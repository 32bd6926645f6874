use Rattle.std.proofs.Common.{◌≡◌, ◌++◌, drop}
use Rattle.node.specs.Parts.{right_part}
use Rattle.node.proofs.parts.right_entries.Given as goal

abbrev pub invariant-loop-place : goal.invariant-loop-place
invariant-loop-place g l = record {
  taken : l.right ++ right_part (drop l.place l.sides) (drop l.place l.entries) ≡ right_part l.sides l.entries;
}
