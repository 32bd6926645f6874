use Rattle.mailbox.specs.Outlets.{tray_rule}
use Rattle.store.proofs.Keeping.{new_is}
use Rattle.store.proofs.store.Store.new.Goals as goal

pub returns-clause-ok : goal.returns-clause-ok
returns-clause-ok g c = rw (c.in_ok-world.ensures.made) (new_is g.C.KeyClass.rules tray_rule c.args.config)
