use Rattle.std.proofs.Common.{◌≡◌, Some, sym, ap, subst, ◌∙◌}
use Rattle.split.specs.Tests.{first_failing}
use Rattle.world.proofs.Mailboxes.{step_fits_mailboxes}
use Rattle.world.proofs.Stepping.{turn_commits}
use Rattle.world.specs.Steps.{cursor_tests}
use Rattle.world.proofs.Publishing.{visited_is_open, none_is_not_some}
use Rattle.world.proofs.world.World.publish_visit.Goals as goal

pub returns-in-Err-clause-step : goal.returns-in-Err-clause-step
returns-in-Err-clause-step g c = λ h worked.
    let refused : first_failing (cursor_tests c.args.self.now c.task.inside.cursor) ≡ Some c.in-Err.field-0 = c.in-Err.ensures.refused in
    let same = subst (λ n. first_failing (cursor_tests c.args.self.now n) ≡ Some c.in-Err.field-0) (ap (λ t. t.cursor) c.task.view_is) refused in
    absurd (none_is_not_some c.in-Err.field-0 (sym (visited_is_open g.C.KeyClass.rules.is_cover c.args.self.now c.recall_soundness.ensures c.args.task.cursor c.args.task.visit h) ∙ same))

pub returns-clause-mailboxes : goal.returns-clause-mailboxes
returns-clause-mailboxes g c =
    λ there. step_fits_mailboxes g.C.KeyClass.rules g.O.Outlet.rule g.met.C.KeyClass.lawful 0 c.args.self.now c.recall_soundness.ensures there _ c.publish_due-reply.result c.publish_due-reply.new.self (c.publish_due-reply.ensures 0)

pub returns-clause-commits : goal.returns-clause-commits
returns-clause-commits g c =
    turn_commits g.C.KeyClass.rules g.O.Outlet.rule g.met.C.KeyClass.lawful 0 c.args.self.now c.recall_soundness.ensures _ c.publish_due-reply.result c.publish_due-reply.new.self (c.publish_due-reply.ensures 0)
