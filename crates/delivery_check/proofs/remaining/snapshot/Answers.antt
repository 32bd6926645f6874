use Rattle.std.proofs.Common.{◌≡◌, rules, arith}
use Rattle.delivery_check.proofs.Rolls.{names_next, roll_none, roll_next, none_within}
use Rattle.delivery_check.proofs.remaining.snapshot.Goals as goal

pub with_slot-requires : goal.with_slot-requires
with_slot-requires g c = names_next _ c.args.commits.now c.loop-place.place c.loop-place.slots.items c.in-Some.write c.requires.legal c.loop-place.invariant (search rules)

pub unreachable-requires : goal.unreachable-requires
unreachable-requires g c = none_within c.args.commits.now c.loop-place.place (omega arith) (search rules)

pub loop-place-init : goal.loop-place-init
loop-place-init g c = rw c.new-slots.ensures.items (roll_none _)

pub loop-place-preserved : goal.loop-place-preserved
loop-place-preserved g c =
    rw (c.in_ok-slots-in-Some.ensures.ok, c.row.ensures)
    (roll_next _ c.args.commits.now c.loop-place.place c.loop-place.slots.items c.in-Some.write c.requires.legal c.loop-place.invariant (search rules))

pub returns-clause-rows : goal.returns-clause-rows
returns-clause-rows g c =
    let whole : c.loop-place.place ≡ c.args.opened = omega arith in
    rw whole at c.loop-place.invariant.is
