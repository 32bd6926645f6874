use Rattle.std.proofs.Common.{◌∙◌, Ok, arith, ap}
use Rattle.mailbox.specs.Outlets.{tray_rule}
use Rattle.cursor.specs.declared.cursor.Turned.TheVariants as turned
use Rattle.store.proofs.Turning.{first_on_way, still_on_way, open_on_way, idle_on_way, other_on_way, moves, got_on, less_work, new_passes, new_filled, gives_next, last_quiet, now_quiet, gives_nothing, refused_turn, turned_so}
use Rattle.store.proofs.reading.next_item.Goals as goal

pub turning-init : goal.turning-init
turning-init g c = (c.recall_soundness.ensures, first_on_way g.C.KeyClass.rules tray_rule c.args.world.now c.args.c c.requires.quiet)

pub take_item-requires-clause-open : goal.take_item-requires-clause-open
take_item-requires-clause-open g c =
    let happened = turned_so g.C.KeyClass.rules tray_rule c.turning.world c.args.c turned.Offered c.turn_cursor.result c.turn_cursor.new.self (c.in-Ok-Offered.is ∙ ap (λ x. Ok x) c.in-Ok-Offered.field-0-is) c.turn_cursor.ensures in
    let on = open_on_way g.C.KeyClass.rules tray_rule c.args.world.now c.turning.world c.args.c c.turning.invariant.1 happened.step.passed in
    new_passes g.C.KeyClass.rules tray_rule c.args.world.now c.turning.world c.args.c on g.met.C.KeyClass.lawful c.turning.invariant.0 c.turn_cursor.new.self (moves g.C.KeyClass.rules tray_rule c.args.world.now c.turning.world c.args.c on g.met.C.KeyClass.lawful c.turning.invariant.0 turned.Offered c.turn_cursor.new.self happened.step.change)

pub take_item-requires-clause-filled : goal.take_item-requires-clause-filled
take_item-requires-clause-filled g c =
    let happened = turned_so g.C.KeyClass.rules tray_rule c.turning.world c.args.c turned.Offered c.turn_cursor.result c.turn_cursor.new.self (c.in-Ok-Offered.is ∙ ap (λ x. Ok x) c.in-Ok-Offered.field-0-is) c.turn_cursor.ensures in
    let on = open_on_way g.C.KeyClass.rules tray_rule c.args.world.now c.turning.world c.args.c c.turning.invariant.1 happened.step.passed in
    new_filled g.C.KeyClass.rules tray_rule c.args.world.now c.turning.world c.args.c on g.met.C.KeyClass.lawful c.turning.invariant.0 c.turn_cursor.new.self (moves g.C.KeyClass.rules tray_rule c.args.world.now c.turning.world c.args.c on g.met.C.KeyClass.lawful c.turning.invariant.0 turned.Offered c.turn_cursor.new.self happened.step.change)

pub returns-in-Ok-Offered-clause-quiet : goal.returns-in-Ok-Offered-clause-quiet
returns-in-Ok-Offered-clause-quiet g c =
    let happened = turned_so g.C.KeyClass.rules tray_rule c.turning.world c.args.c turned.Offered c.turn_cursor.result c.turn_cursor.new.self (c.in-Ok-Offered.is ∙ ap (λ x. Ok x) c.in-Ok-Offered.field-0-is) c.turn_cursor.ensures in
    let on = open_on_way g.C.KeyClass.rules tray_rule c.args.world.now c.turning.world c.args.c c.turning.invariant.1 happened.step.passed in
    last_quiet g.C.KeyClass.rules tray_rule c.args.world.now c.turning.world c.args.c on g.met.C.KeyClass.lawful c.turning.invariant.0 c.turn_cursor.new.self (moves g.C.KeyClass.rules tray_rule c.args.world.now c.turning.world c.args.c on g.met.C.KeyClass.lawful c.turning.invariant.0 turned.Offered c.turn_cursor.new.self happened.step.change) c.take_item.result c.take_item.new.world c.take_item.ensures

pub returns-in-Ok-Offered-clause-ok : goal.returns-in-Ok-Offered-clause-ok
returns-in-Ok-Offered-clause-ok g c =
    let happened = turned_so g.C.KeyClass.rules tray_rule c.turning.world c.args.c turned.Offered c.turn_cursor.result c.turn_cursor.new.self (c.in-Ok-Offered.is ∙ ap (λ x. Ok x) c.in-Ok-Offered.field-0-is) c.turn_cursor.ensures in
    let on = open_on_way g.C.KeyClass.rules tray_rule c.args.world.now c.turning.world c.args.c c.turning.invariant.1 happened.step.passed in
    gives_next g.C.KeyClass.rules tray_rule c.args.world.now c.turning.world c.args.c on g.met.C.KeyClass.lawful c.turning.invariant.0 c.turn_cursor.new.self (moves g.C.KeyClass.rules tray_rule c.args.world.now c.turning.world c.args.c on g.met.C.KeyClass.lawful c.turning.invariant.0 turned.Offered c.turn_cursor.new.self happened.step.change) c.take_item.result c.take_item.new.world c.take_item.ensures

pub returns-in-Idle-clause-quiet : goal.returns-in-Idle-clause-quiet
returns-in-Idle-clause-quiet g c =
    let on = idle_on_way g.C.KeyClass.rules tray_rule c.args.world.now c.turning.world c.args.c c.turning.invariant.1 (rw c.in-Idle.is at c.in-Err.ensures.step.cause) in
    rw (c.in-Err.ensures.step.unchanged) (now_quiet g.C.KeyClass.rules tray_rule c.args.world.now c.turning.world c.args.c on)

pub returns-in-Idle-clause-ok : goal.returns-in-Idle-clause-ok
returns-in-Idle-clause-ok g c =
    let on = idle_on_way g.C.KeyClass.rules tray_rule c.args.world.now c.turning.world c.args.c c.turning.invariant.1 (rw c.in-Idle.is at c.in-Err.ensures.step.cause) in
    let refused = refused_turn g.C.KeyClass.rules tray_rule c.args.world.now c.turning.world c.args.c on c.in-Err.refusal c.in-Err.ensures.step.cause in
    rw (c.in-Err.ensures.step.unchanged) (gives_nothing g.C.KeyClass.rules tray_rule c.args.world.now c.turning.world c.args.c on (rw c.in-Idle.is at refused))

pub returns-in_default : goal.returns-in_default
returns-in_default g c =
    let r = other_on_way g.C.KeyClass.rules tray_rule c.args.world.now c.turning.world c.args.c c.turning.invariant.1 c.requires.quiet (λ room count h. search (arith, h)) c.in-Err.refusal c.in_default.not-Idle c.in-Err.ensures.step.cause in
    rw (c.in-Err.ensures.step.unchanged) (record { quiet = r.quiet; ok = tt; err = r.refuses })

pub turning-smaller-in-Ok-Visited : goal.turning-smaller-in-Ok-Visited
turning-smaller-in-Ok-Visited g c =
    let happened = turned_so g.C.KeyClass.rules tray_rule c.turning.world c.args.c (turned.Visited c.in-Ok-Visited.field-0-0) c.turn_cursor.result c.turn_cursor.new.self (c.in-Ok-Visited.is ∙ ap (λ x. Ok x) c.in-Ok-Visited.field-0-is) c.turn_cursor.ensures in
    let on = open_on_way g.C.KeyClass.rules tray_rule c.args.world.now c.turning.world c.args.c c.turning.invariant.1 happened.step.passed in
    let m = moves g.C.KeyClass.rules tray_rule c.args.world.now c.turning.world c.args.c on g.met.C.KeyClass.lawful c.turning.invariant.0 (turned.Visited c.in-Ok-Visited.field-0-0) c.turn_cursor.new.self happened.step.change in
    less_work g.C.KeyClass.rules tray_rule c.args.world.now c.turning.world c.args.c on g.met.C.KeyClass.lawful c.turning.invariant.0 (turned.Visited c.in-Ok-Visited.field-0-0) c.turn_cursor.new.self m (ap (λ k. k.unread) m.turns.1.after)

pub turning-preserved-in-Ok-Visited : goal.turning-preserved-in-Ok-Visited
turning-preserved-in-Ok-Visited g c =
    let happened = turned_so g.C.KeyClass.rules tray_rule c.turning.world c.args.c (turned.Visited c.in-Ok-Visited.field-0-0) c.turn_cursor.result c.turn_cursor.new.self (c.in-Ok-Visited.is ∙ ap (λ x. Ok x) c.in-Ok-Visited.field-0-is) c.turn_cursor.ensures in
    let on = open_on_way g.C.KeyClass.rules tray_rule c.args.world.now c.turning.world c.args.c c.turning.invariant.1 happened.step.passed in
    let m = moves g.C.KeyClass.rules tray_rule c.args.world.now c.turning.world c.args.c on g.met.C.KeyClass.lawful c.turning.invariant.0 (turned.Visited c.in-Ok-Visited.field-0-0) c.turn_cursor.new.self happened.step.change in
    (happened.sound, still_on_way g.C.KeyClass.rules tray_rule c.args.world.now c.turn_cursor.new.self c.args.c (got_on g.C.KeyClass.rules tray_rule c.args.world.now c.turning.world c.args.c on g.met.C.KeyClass.lawful c.turning.invariant.0 (turned.Visited c.in-Ok-Visited.field-0-0) c.turn_cursor.new.self m (ap (λ k. k.unread) m.turns.1.after)))

pub turning-smaller : goal.turning-smaller
turning-smaller g c =
    let happened = turned_so g.C.KeyClass.rules tray_rule c.turning.world c.args.c (turned.Passed c.in-Ok-Passed.field-0-0) c.turn_cursor.result c.turn_cursor.new.self (c.in-Ok-Passed.is ∙ ap (λ x. Ok x) c.in-Ok-Passed.field-0-is) c.turn_cursor.ensures in
    let on = open_on_way g.C.KeyClass.rules tray_rule c.args.world.now c.turning.world c.args.c c.turning.invariant.1 happened.step.passed in
    let m = moves g.C.KeyClass.rules tray_rule c.args.world.now c.turning.world c.args.c on g.met.C.KeyClass.lawful c.turning.invariant.0 (turned.Passed c.in-Ok-Passed.field-0-0) c.turn_cursor.new.self happened.step.change in
    less_work g.C.KeyClass.rules tray_rule c.args.world.now c.turning.world c.args.c on g.met.C.KeyClass.lawful c.turning.invariant.0 (turned.Passed c.in-Ok-Passed.field-0-0) c.turn_cursor.new.self m (ap (λ k. k.unread) m.turns.2)

pub turning-preserved : goal.turning-preserved
turning-preserved g c =
    let happened = turned_so g.C.KeyClass.rules tray_rule c.turning.world c.args.c (turned.Passed c.in-Ok-Passed.field-0-0) c.turn_cursor.result c.turn_cursor.new.self (c.in-Ok-Passed.is ∙ ap (λ x. Ok x) c.in-Ok-Passed.field-0-is) c.turn_cursor.ensures in
    let on = open_on_way g.C.KeyClass.rules tray_rule c.args.world.now c.turning.world c.args.c c.turning.invariant.1 happened.step.passed in
    let m = moves g.C.KeyClass.rules tray_rule c.args.world.now c.turning.world c.args.c on g.met.C.KeyClass.lawful c.turning.invariant.0 (turned.Passed c.in-Ok-Passed.field-0-0) c.turn_cursor.new.self happened.step.change in
    (happened.sound, still_on_way g.C.KeyClass.rules tray_rule c.args.world.now c.turn_cursor.new.self c.args.c (got_on g.C.KeyClass.rules tray_rule c.args.world.now c.turning.world c.args.c on g.met.C.KeyClass.lawful c.turning.invariant.0 (turned.Passed c.in-Ok-Passed.field-0-0) c.turn_cursor.new.self m (ap (λ k. k.unread) m.turns.2)))
