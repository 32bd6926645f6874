use Rattle.desk.proofs.ending.checked.Goals as goal

pub returns-in-Ok-true-clause-taken : goal.returns-in-Ok-true-clause-taken
returns-in-Ok-true-clause-taken g c = rw c.new.ensures (c.in-Ok-true.ensures.delivered.0 c.in-Ok-true.field-0-test)
