use Rattle.std.proofs.Common.{refl}
use Rattle.std.proofs.lemmas.Result.{err_from_is_err_and}
use Rattle.mailbox.specs.Outlets.{tray_rule}
use Rattle.store.proofs.Keeping.{by_tests}
use Rattle.store.proofs.Opening.{closes, closed_quiet}
use Rattle.store.proofs.Worlds.{refused_as}
use Rattle.store.proofs.store.Store.close.Goals as goal

pub invariant_of-self-2 : goal.invariant_of-self-2
invariant_of-self-2 g c = closed_quiet g.C.KeyClass.rules tray_rule c.self.inside.world c.close_cursor.new.self c.args.c c.in_ok-close_cursor.ensures.step.passed c.in_ok-close_cursor.ensures.step.change c.self.invariant

pub returns-clause-ok : goal.returns-clause-ok
returns-clause-ok g c = rw (← c.self.view_is) (closes g.C.KeyClass.rules tray_rule c.self.inside.world c.close_cursor.new.self c.args.c c.in_ok-close_cursor.ensures.step.passed c.in_ok-close_cursor.ensures.step.change c.recall_soundness.ensures)

pub returns-in_err-close_cursor-clause-err : goal.returns-in_err-close_cursor-clause-err
returns-in_err-close_cursor-clause-err g c =
    let p = err_from_is_err_and c.from_residual.result c.from_residual.ensures.1 in
    rw (← c.self.view_is, p.1, p.2, c.in_err-close_cursor.ensures.step.unchanged)
    (refused_as g.C.KeyClass.rules tray_rule c.self.inside.world c.args.c _ (by_tests c.in_err-close_cursor.ensures.step.cause), refl)
