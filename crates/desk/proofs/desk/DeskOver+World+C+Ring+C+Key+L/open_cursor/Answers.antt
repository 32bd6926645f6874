use Rattle.std.proofs.Common.{inr, ◌∙◌}
use Rattle.desk.proofs.Answering.{answers_on}
use Rattle.desk.proofs.desk.DeskOver+World+C+Ring+C+Key+L.open_cursor.Goals as goal

pub returns-clause-refusals : goal.returns-clause-refusals
returns-clause-refusals g c = inr (rw (← c.in-Ok.ensures) c.in-Err.ensures.refusals)

pub invariant_of-seat : goal.invariant_of-seat
invariant_of-seat g c = (
  c.open.ensures.parts ∙ c.seat.invariant.0,
  c.open.ensures.share ∙ c.seat.invariant.1,
  answers_on c.seat.inside.told c.open.new.told c.seat.inside.stamps.items c.open.ensures.seen c.seat.invariant.2,
)

pub invariant_of-seat-2 : goal.invariant_of-seat-2
invariant_of-seat-2 g c = (
  c.open.ensures.parts ∙ c.seat.invariant.0,
  c.open.ensures.share ∙ c.seat.invariant.1,
  answers_on c.seat.inside.told c.open.new.told c.seat.inside.stamps.items c.open.ensures.seen c.seat.invariant.2,
)
