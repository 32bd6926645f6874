use Rattle.std.proofs.Common.{◌≡◌, ◌+◌, ◌-◌, ◌*◌, ◌≤◌, drop, not, take}
use Rattle.key_class.specs.Bits.{bits_of}
use Rattle.blocks.proofs.Removing.{IsClosedUp}
use Rattle.blocks.proofs.blocks.Blocks.remove_where.Given as goal

abbrev pub invariant-loop-number : goal.invariant-loop-number
invariant-loop-number g l = record {
  within : l.skipped ≤ 8;
  closed : IsClosedUp (λ x. not (g.S.BlockTest.passes l.test x)) l.fn.self l.self l.kept (8 * l.number + l.skipped);
}

abbrev pub decreases-loop-number : goal.decreases-loop-number
decreases-loop-number g l = l.end - l.number

abbrev pub invariant-loop-left : goal.invariant-loop-left
invariant-loop-left g l = record {
  within : l.skipped ≤ 8;
  closed : IsClosedUp (λ x. not (g.S.BlockTest.passes l.test x)) l.fn.self l.self l.kept (8 * l.number + l.skipped);
  bits : l.left ≡ bits_of (λ x. not (g.S.BlockTest.passes l.test x)) (take (8 - l.skipped) (drop (8 * l.number + l.skipped) l.fn.self));
}

abbrev pub decreases-loop-left : goal.decreases-loop-left
decreases-loop-left g l = l.left
