use Rattle.std.proofs.Common.{subst, ◌∙◌}
use Rattle.desk.specs.Seats.{AreAnswers}
use Rattle.desk.proofs.Answering.{answers_on, viewed_stand}
use Rattle.desk.proofs.desk.DeskOver+World+C+Ring+C+Key+L.close_with_view.Goals as goal

pub invariant_of-seat : goal.invariant_of-seat
invariant_of-seat g c = (
  c.close_with_view.ensures.parts ∙ c.seat.invariant.0,
  c.close_with_view.ensures.share ∙ c.seat.invariant.1,
  answers_on c.seat.inside.told c.close_with_view.new.told c.seat.inside.stamps.items c.close_with_view.ensures.seen c.seat.invariant.2,
)

pub returns-clause-stamps : goal.returns-clause-stamps
returns-clause-stamps g c =
    rw (← c.seat.view_is)
    (viewed_stand c.close_with_view.result _ _ c.close_with_view.ensures.view
    (subst (λ l. AreAnswers l c.seat.inside.stamps.items) c.close_with_view.ensures.whole (answers_on c.seat.inside.told c.close_with_view.new.told c.seat.inside.stamps.items c.close_with_view.ensures.seen c.seat.invariant.2)))
