use Rattle.history.proofs.Pasts.{prefix_self}
use Rattle.desk.proofs.locked.Locked+World+C+Ring+C+Key+L.split_prepared.Goals.{then-is_err, else-is_err}
use Rattle.desk.proofs.locked.Locked+World+C+Ring+C+Key+L.split_prepared.Goals as goal

pub returns-clause-seen : goal.returns-clause-seen
returns-clause-seen g c = elim c.if-is_err.branch [ then-is_err w ↦ rw w.told-is w.show.ensures.seen | else-is_err w ↦ rw w.told-is (prefix_self c.args.told.now) ]
