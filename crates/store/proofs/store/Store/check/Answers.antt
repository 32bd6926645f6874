use Rattle.mailbox.specs.Outlets.{tray_rule}
use Rattle.world.proofs.Refusing.{open_from_tests}
use Rattle.cursor.specs.OpenCursors.{shown}
use Rattle.store.proofs.Keeping.{on_ok, if_err}
use Rattle.store.proofs.Worlds.{refused_as, open_as}
use Rattle.store.proofs.store.Store.check.Goals as goal

pub returns-clause-open : goal.returns-clause-open
returns-clause-open g c =
    rw (← c.self.view_is)
    (on_ok c.check_cursor.result (λ e. let o = open_from_tests c.self.inside.world c.args.c e in (shown g.C.KeyClass.rules tray_rule c.self.inside.world.search.tree o.cursor, open_as g.C.KeyClass.rules tray_rule c.self.inside.world c.args.c o.cursor e o.is_open)) c.check_cursor.ensures.open)

pub returns-clause-refused : goal.returns-clause-refused
returns-clause-refused g c = rw (← c.self.view_is) (if_err c.check_cursor.result (λ why e. refused_as g.C.KeyClass.rules tray_rule c.self.inside.world c.args.c why e) c.check_cursor.ensures.refused)
