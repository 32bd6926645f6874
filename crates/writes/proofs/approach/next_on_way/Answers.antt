use Rattle.writes.specs.InsertVisits.{stays, goes_down}
use Rattle.writes.proofs.approach.next_on_way.Goals as goal

pub descending-init : goal.descending-init
descending-init g c = record { down = stays; exists = c.requires.exists; covers = c.requires.covers; room = c.requires.room }

pub descending-preserved : goal.descending-preserved
descending-preserved g c =
    let step = rw c.in-Down.is at c.plan_at.ensures in
    record { down = goes_down c.descending.invariant.down step; exists = step.1.exists; covers = step.2; room = λ other. step.1.room }
