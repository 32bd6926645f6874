use Rattle.std.proofs.Common.{◌≡◌, take, drop, map, length}
use Rattle.node.specs.Changes.{rekeyed}
use Rattle.node.proofs.parts.rekey.Given as goal

abbrev pub invariant-loop-place : goal.invariant-loop-place
invariant-loop-place g l = record {
  done : take l.place l.branches ≡ map (rekeyed l.child l.key) (take l.place l.fn.branches);
  rest : drop l.place l.branches ≡ drop l.place l.fn.branches;
  len : length l.branches ≡ length l.fn.branches;
}
