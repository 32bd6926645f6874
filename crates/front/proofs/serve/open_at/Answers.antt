use Rattle.front.proofs.serve.open_at.Goals as goal

pub returns-in-None : goal.returns-in-None
returns-in-None g c told t = rw c.in-None.is (c.open.ensures told t)

pub returns-in-Some : goal.returns-in-Some
returns-in-Some g c told t = rw c.in-Some.is (c.open_from.ensures told t)
