use Rattle.std.proofs.Common.{◌+◌, ◌-◌, ◌*◌, ◌≤◌, ◌<◌, length}
use Rattle.blocks.proofs.Passing.{NoneBetween}
use Rattle.blocks.proofs.blocks.first_in_blocks.Given as goal

abbrev pub invariant-loop-number : goal.invariant-loop-number
invariant-loop-number g l = record {
  small : l.skipped < 8;
  low : l.from ≤ l.number * 8 + l.skipped;
  none : NoneBetween g.B.Block.items g.met.B.Block.eight (g.S.BlockTest.passes l.test) l.blocks l.from (l.number * 8 + l.skipped);
}

abbrev pub decreases-loop-number : goal.decreases-loop-number
decreases-loop-number g l = length l.blocks - l.number
