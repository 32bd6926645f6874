use Rattle.std.proofs.Common.{◌≡◌}
use Rattle.desk.proofs.desk.DeskOver+World+C+Ring+C+Key+L.move_for.Given as goal

abbrev pub invariant-loop : goal.invariant-loop
invariant-loop g l =
    (goal.iterator-loop g).can_next l.iterator' × (goal.iterator-loop g).is_finite l.iterator'
    × (l.share.amount ≡ l.initial.share.amount) × (l.share.parts ≡ l.initial.share.parts) × (l.told ≡ l.initial.told)
