use Rattle.mailbox.specs.Outlets.{tray_rule}
use Rattle.world.proofs.Running.{HasRun}
use Rattle.world.proofs.trace.run.Given as goal

abbrev pub invariant-loop-event : goal.invariant-loop-event
invariant-loop-event g l = HasRun g.C.KeyClass.rules tray_rule l.fn.config l.events l.event-index l.replies.items l.world
