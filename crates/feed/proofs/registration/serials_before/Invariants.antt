use Rattle.std.proofs.Common.{◌≡◌, ◌++◌, filter, map}
use Rattle.std.specs.Prelude.{nat_lt}
use Rattle.feed.proofs.registration.serials_before.Given as goal

abbrev pub invariant-loop-serial : goal.invariant-loop-serial
invariant-loop-serial g l = l.serials.items ++ map (λ s. s.0) (filter (λ s. nat_lt s.1.from l.oldest) l.serial-iterator) ≡ map (λ s. s.0) (filter (λ s. nat_lt s.1.from l.oldest) (filter (λ s. nat_lt l.passed s.0) l.registrations.entries))
