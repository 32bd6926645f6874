use Rattle.std.proofs.Common.{true}
use Rattle.mailbox.specs.Outlets.{tray_rule}
use Rattle.store.proofs.Opening.{is_opened}
use Rattle.store.proofs.store.Store.open_from.Goals as goal
use Rattle.store.proofs.store.Store.open_from.Goals.{in-Ok, in-Err}

pub returns-clause-ok : goal.returns-clause-ok
returns-clause-ok g c =
    elim c.match-follow_commit.branch [
      | in-Ok w ↦ rw (w.result-is, ← c.self.view_is) (is_opened g.C.KeyClass.rules tray_rule c.self.inside.world c.follow_commit.new.self w.in-Ok.ensures.opens.sound c.args.query true _ _ w.in-Ok.serial w.in-Ok.ensures.opens.step.change w.in-Ok.ensures.opens.opening)
      | in-Err w ↦ rw w.result-is tt
    ]
