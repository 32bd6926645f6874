use Rattle.std.proofs.Common.{sym, arith}
use Rattle.std.proofs.lemmas.List.{take_all}
use Rattle.mailbox.specs.Outlets.{tray_rule}
use Rattle.world.proofs.Running.{for_memory, has_run_none, has_run_push, no_bad_config, not_refused, runs_always_faithful}
use Rattle.world.proofs.trace.run.Goals as goal

pub loop-event-init : goal.loop-event-init
loop-event-init g c = rw (c.in_ok-world.ensures.made, c.in_ok-replies.ensures.items) (has_run_none _ _ c.args.config c.args.events.now)

pub returns-in_err-copy-clause-bad : goal.returns-in_err-copy-clause-bad
returns-in_err-copy-clause-bad g c =
    let limits = c.in_ok-world.ensures.within in
    (λ e. absurd (no_bad_config c.from_residual-in_err-copy.result c.from_residual-in_err-copy.ensures.1 e), λ n. absurd (n limits))

pub returns-in_err-push-clause-bad : goal.returns-in_err-push-clause-bad
returns-in_err-push-clause-bad g c =
    let limits = c.in_ok-world.ensures.within in
    (λ e. absurd (no_bad_config c.from_residual-in_err-push.result c.from_residual-in_err-push.ensures.1 e), λ n. absurd (n limits))

pub returns-in_err-copy-clause-refusals : goal.returns-in_err-copy-clause-refusals
returns-in_err-copy-clause-refusals g c = for_memory c.from_residual-in_err-copy.result c.from_residual-in_err-copy.ensures.1

pub returns-in_err-push-clause-refusals : goal.returns-in_err-push-clause-refusals
returns-in_err-push-clause-refusals g c = for_memory c.from_residual-in_err-push.result c.from_residual-in_err-push.ensures.1

pub loop-event-preserved : goal.loop-event-preserved
loop-event-preserved g c =
    rw c.in_ok-push.ensures.items
    (has_run_push _ _ c.args.config c.args.events.now c.loop-event.event-index c.loop-event.replies.items c.loop-event.world c.step-reply.new.self
    c.event-item.result c.in_ok-copy.field-0 c.step-reply.result c.loop-event.invariant c.loop-event-test.true (sym c.event-item.is) c.in_ok-copy.ensures c.step-reply.ensures.step)

pub returns-clause-one_each : goal.returns-clause-one_each
returns-clause-one_each g c = omega (arith, c.loop-event.invariant.counted, c.loop-event-test.false, c.loop-event.auto.event-index-end)

pub returns-clause-steps : goal.returns-clause-steps
returns-clause-steps g c =
    (c.loop-event.world, rw (take_all c.loop-event.event-index c.args.events.now (omega (arith, c.loop-event-test.false))) at c.loop-event.invariant.ran)

pub returns-clause-faithful : goal.returns-clause-faithful
returns-clause-faithful g c =
    runs_always_faithful g.C.KeyClass.rules tray_rule g.met.C.KeyClass.lawful c.args.config c.in_ok-world.ensures.within _ c.loop-event.world
    (rw (take_all c.loop-event.event-index c.args.events.now (omega (arith, c.loop-event-test.false))) at c.loop-event.invariant.ran)

pub returns-clause-bad : goal.returns-clause-bad
returns-clause-bad g c =
    let limits = c.in_ok-world.ensures.within in
    (λ e. absurd (not_refused _ _ e), λ n. absurd (n limits))
