use Rattle.std.proofs.Common.{◌≡◌, filter}
use Rattle.std.specs.Prelude.{nat_lt}
use Rattle.std.specs.List.{list_any}
use Rattle.feed.proofs.registration.any_before.Given as goal

abbrev pub invariant-loop-registration : goal.invariant-loop-registration
invariant-loop-registration g l = record {
  can_next : (goal.iterator-loop-registration g).can_next l.registration-iterator;
  is_finite : (goal.iterator-loop-registration g).is_finite l.registration-iterator;
  same : list_any (λ s. nat_lt s.1.from l.oldest) l.registration-iterator ≡ list_any (λ s. nat_lt s.1.from l.oldest) (filter (λ s. nat_lt l.passed s.0) l.registrations.entries);
}
