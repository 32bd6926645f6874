use Rattle.std.proofs.Common.{subst, ◌∙◌}
use Rattle.desk.specs.Seats.{AreAnswers}
use Rattle.desk.proofs.Answering.{answers_on, shown_stand}
use Rattle.desk.proofs.desk.DeskOver+World+C+Ring+C+Key+L.snapshot.Goals as goal

pub invariant_of-seat : goal.invariant_of-seat
invariant_of-seat g c = (
  c.snapshot.ensures.parts ∙ c.seat.invariant.0,
  c.snapshot.ensures.share ∙ c.seat.invariant.1,
  answers_on c.seat.inside.told c.snapshot.new.told c.seat.inside.stamps.items c.snapshot.ensures.seen c.seat.invariant.2,
)

pub returns-clause-stamps : goal.returns-clause-stamps
returns-clause-stamps g c =
    rw (← c.seat.view_is)
    (shown_stand c.snapshot.result _ _ c.snapshot.ensures.shows
    (subst (λ l. AreAnswers l c.seat.inside.stamps.items) c.snapshot.ensures.whole (answers_on c.seat.inside.told c.snapshot.new.told c.seat.inside.stamps.items c.snapshot.ensures.seen c.seat.invariant.2)))
