use Rattle.front.proofs.serve.carry_out.Goals as goal

pub returns-in-Insert : goal.returns-in-Insert
returns-in-Insert g c told t = rw c.in-Insert.is (c.insert.ensures told t)

pub returns-in-Open : goal.returns-in-Open
returns-in-Open g c told t = rw c.in-Open.is (c.open_query.ensures told t)

pub returns-in-Next : goal.returns-in-Next
returns-in-Next g c told t = rw c.in-Next.is (c.next.ensures told t)

pub returns-in-Mark : goal.returns-in-Mark
returns-in-Mark g c told t = rw c.in-Mark.is (c.mark.ensures told t)

pub returns-in-Find : goal.returns-in-Find
returns-in-Find g c told t = rw c.in-Find.is (c.find_query.ensures told t)

pub returns-in-Sweep : goal.returns-in-Sweep
returns-in-Sweep g c told t = rw c.in-Sweep.is (c.sweep.ensures told t)

pub returns-in-Close : goal.returns-in-Close
returns-in-Close g c told t = rw c.in-Close.is (c.close.ensures told t)
