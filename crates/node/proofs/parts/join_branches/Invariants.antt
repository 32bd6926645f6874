use Rattle.std.proofs.Common.{◌≡◌, map, drop}
use Rattle.node.specs.Parts.{joined_bound}
use Rattle.node.proofs.parts.join_branches.Given as goal

abbrev pub invariant-loop-place : goal.invariant-loop-place
invariant-loop-place g l = joined_bound g.C.KeyClass.rules.union_of l.bound (map (λ x. x.key) (drop l.place l.branches)) ≡ joined_bound g.C.KeyClass.rules.union_of l.fn.bound (map (λ x. x.key) l.branches)
