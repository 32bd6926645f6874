use Rattle.std.proofs.Common.{◌≡◌}
use Rattle.desk.proofs.desk.DeskOver+World+C+Ring+C+Key+L.split_for.Given as goal

-- nothing is told before a visit is refused
abbrev pub invariant-loop : goal.invariant-loop
invariant-loop g l = l.told ≡ l.initial.told
