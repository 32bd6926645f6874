use Rattle.std.proofs.Common.{◌≡◌, ◌≤◌, ℕ, length, take}
use Rattle.scan.specs.Scanning.{child_items}
use Rattle.scan.proofs.stack.up_to_wanted.Given as goal

abbrev pub invariant-loop-count : goal.invariant-loop-count
invariant-loop-count g l = record {
  within : l.count ≤ length l.branches;
  same : (memo : ℕ) → child_items (g.T.BranchTest.wants l.test) memo (take l.count l.branches) ≡ child_items (g.T.BranchTest.wants l.test) memo l.branches;
}

abbrev pub decreases-loop-count : goal.decreases-loop-count
decreases-loop-count g l = l.count
