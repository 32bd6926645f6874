use Rattle.std.proofs.Common.{⊎_elim, arith}
use Rattle.desk.proofs.desk.DeskOver+World+C+Ring+C+Key+L.new.Goals as goal

pub returns-clause-bad : goal.returns-clause-bad
returns-clause-bad g c = (
  λ e. absurd cc,
  λ bad. ⊎_elim (λ zero. absurd (c.if-seats-eq0.false zero)) (λ more. ⊎_elim (λ many. absurd (omega (arith, many, c.if-seats-gt-MAX_SEATS.false))) (λ out. absurd (out c.in_ok-world.ensures.within)) more) bad,
)
