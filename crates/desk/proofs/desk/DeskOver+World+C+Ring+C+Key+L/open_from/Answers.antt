use Rattle.std.proofs.Common.{inr, ◌∙◌}
use Rattle.desk.proofs.Answering.{answers_on}
use Rattle.desk.proofs.desk.DeskOver+World+C+Ring+C+Key+L.open_from.Goals as goal

pub returns-clause-refusals : goal.returns-clause-refusals
returns-clause-refusals g c = inr (rw (← c.in-Ok.ensures) c.in-Err.ensures.refusals)

pub invariant_of-seat : goal.invariant_of-seat
invariant_of-seat g c = (
  c.follow.ensures.parts ∙ c.seat.invariant.0,
  c.follow.ensures.share ∙ c.seat.invariant.1,
  answers_on c.seat.inside.told c.follow.new.told c.seat.inside.stamps.items c.follow.ensures.seen c.seat.invariant.2,
)

pub invariant_of-seat-2 : goal.invariant_of-seat-2
invariant_of-seat-2 g c = (
  c.follow.ensures.parts ∙ c.seat.invariant.0,
  c.follow.ensures.share ∙ c.seat.invariant.1,
  answers_on c.seat.inside.told c.follow.new.told c.seat.inside.stamps.items c.follow.ensures.seen c.seat.invariant.2,
)
