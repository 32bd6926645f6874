use Rattle.std.proofs.Common.{rules}
use Rattle.mailbox.proofs.RingEnds.{takes_none}
use Rattle.desk.proofs.taker.Taker.take.Goals as goal
use Rattle.desk.proofs.taker.Taker.take.Goals.{in-Ok, in-Err}

pub returns-clause-takes : goal.returns-clause-takes
returns-clause-takes g c =
    elim c.match-pop.branch [
      | in-Ok w ↦ rw w.result-is (search rules)
      | in-Err w ↦ rw (w.result-is, ← c.self.view_is) (takes_none c.self.inside.items c.pop.new.self c.pop.result w.in-Err.field-0 w.in-Err.is c.pop.ensures.succeeds w.in-Err.ensures.empty)
    ]
