use Rattle.std.proofs.Common.{◌≡◌, take}
use Rattle.blocks.specs.Values.{values_of}
use Rattle.blocks.proofs.blocks.Blocks.is_copy_of.Given as goal

abbrev pub invariant-loop-number : goal.invariant-loop-number
invariant-loop-number g l = record {
  same : values_of g.B.Block.items (take l.number l.self-inside.blocks.items) ≡ values_of g.B.Block.items (take l.number l.other-inside.blocks.items);
}
