use Rattle.mailbox.specs.Rings.{ring_rule}
use Rattle.desk.proofs.Holding.{none_open}
use Rattle.desk.proofs.locked.Locked+World+C+Ring+C+Key+L.new.Goals as goal

pub invariant_of-result : goal.invariant_of-result
invariant_of-result g c = (
  c.requires.history,
  c.requires.no_commits,
  record { sound = c.recall_soundness.ensures; mailboxes = none_open g.C.KeyClass.rules ring_rule c.args.world c.requires.no_cursors },
)
