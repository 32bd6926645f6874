use Rattle.std.proofs.Common.{ap, arith, length, length-append, [], ◌∷◌, ◌++◌, ◌∙◌}
use Rattle.desk.proofs.Answering.{answers_more}
use Rattle.desk.proofs.desk.DeskOver+World+C+Ring+C+Key+L.move_row.Goals as goal

pub invariant_of-seat-2 : goal.invariant_of-seat-2
invariant_of-seat-2 g c =
    let stamp = c.in_ok-stamped.stamped in
    let stamps = c.seat.inside.stamps.items in
    let grown = c.keep.ensures ∙ ap (λ l. l ++ stamp ∷ []) c.try_reserve.ensures.items in (
      c.in_ok-stamped.ensures.parts ∙ c.seat.invariant.0,
      omega (arith, c.in_ok-stamped.ensures.share.0, c.seat.invariant.1, ap length grown, length-append stamps (stamp ∷ [])),
      rw grown (answers_more g.C.KeyClass.rules c.seat.inside.told c.move_for.new.told stamps stamp c.in_ok-stamped.ensures.committed c.seat.invariant.2),
    )
