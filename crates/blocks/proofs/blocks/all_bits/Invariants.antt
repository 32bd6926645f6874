use Rattle.std.proofs.Common.{◌≡◌, ◌≤◌, drop, length}
use Rattle.key_class.specs.Bits.{bits_of}
use Rattle.blocks.specs.Values.{values_of}
use Rattle.blocks.proofs.blocks.all_bits.Given as goal

abbrev pub invariant-loop-number : goal.invariant-loop-number
invariant-loop-number g l = record {
  within : l.number ≤ length l.blocks;
  bits : l.bits ≡ bits_of (g.S.BlockTest.passes l.test) (values_of g.B.Block.items (drop l.number l.blocks));
}

abbrev pub decreases-loop-number : goal.decreases-loop-number
decreases-loop-number g l = l.number
