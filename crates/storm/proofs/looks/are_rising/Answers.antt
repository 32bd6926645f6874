use Rattle.std.proofs.Common.{◌≡◌, ◌-◌, ap, arith, get_or}
use Rattle.std.proofs.lemmas.List.{get_or_default}
use Rattle.std.proofs.lemmas.List.Sorted.{IsNonDecreasingBy-from_all_adjacent}
use Rattle.storm.proofs.looks.are_rising.Goals as goal

pub returns-then-rows-place : goal.returns-then-rows-place
returns-then-rows-place g c =
    let rows = c.args.rows.now in
    let place = c.loop-place.place in
    let here = c.index-rows-place.result in
    let before = c.index-rows-place-in-loop-place.result in (
      λ no. absurd (cc no),
      λ sorted.
          let same : (get_or rows (place - 1) here).row ≡ (get_or rows (place - 1) before).row =
          ap (λ row. row.row) (get_or_default rows (place - 1) here before (omega (arith, c.loop-place-test.true))) in
          absurd (omega (arith, same, sorted (place - 1) place here (omega arith) (omega (arith, c.loop-place-test.true)), c.if-rows-place.true)),
    )

pub returns : goal.returns
returns g c =
    (λ yes. IsNonDecreasingBy-from_all_adjacent (λ row. row.row) c.args.rows.now (λ k d there. c.loop-place.invariant k d (omega (arith, there, c.loop-place-test.false))), λ sorted. cc)
