use Rattle.mailbox.specs.Outlets.{tray_rule}
use Rattle.store.proofs.DeadPages.{has_dead_on_pages}
use Rattle.store.proofs.Sweeping.{sweeps_one, sweeps_some}
use Rattle.store.proofs.store.Store.sweep_next.Goals as goal

pub returns-in_err-sweep_page-clause-rest : goal.returns-in_err-sweep_page-clause-rest
returns-in_err-sweep_page-clause-rest g c =
    let e = c.sweep_page.ensures in
    rw (← c.self.view_is) (sweeps_some g.C.KeyClass.rules tray_rule c.self.inside.world c.sweep_page.new.world c.recall_soundness.ensures e.rests e.commits e.pages e.last_finder e.partly)

pub returns-clause-swept : goal.returns-clause-swept
returns-clause-swept g c =
    let e = c.in_ok-sweep_page.ensures in
    rw (← c.self.view_is) (sweeps_one g.C.KeyClass.rules tray_rule c.self.inside.world c.sweep_page.new.world c.recall_soundness.ensures c.args.page _ e.swept e.untouched)

pub returns-clause-rest : goal.returns-clause-rest
returns-clause-rest g c =
    let e = c.sweep_page.ensures in
    rw (← c.self.view_is) (sweeps_some g.C.KeyClass.rules tray_rule c.self.inside.world c.sweep_page.new.world c.recall_soundness.ensures e.rests e.commits e.pages e.last_finder e.partly)

pub returns-in_err-sweep_page-clause-dead : goal.returns-in_err-sweep_page-clause-dead
returns-in_err-sweep_page-clause-dead g c = has_dead_on_pages g.C.KeyClass.rules tray_rule c.sweep_page.new.world c.sweep_page.ensures.sound

pub returns-clause-dead : goal.returns-clause-dead
returns-clause-dead g c = has_dead_on_pages g.C.KeyClass.rules tray_rule c.sweep_page.new.world c.sweep_page.ensures.sound
