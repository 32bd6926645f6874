use Rattle.std.proofs.Common.{◌≡◌, ◌∙◌, Ok, Err, ap, inl, subst, sym}
use Rattle.std.proofs.lemmas.Result.{err_from_is_err_and}
use Rattle.key_class.specs.declared.refusal.Refusal.TheVariants as refusal
use Rattle.writes.proofs.Events.{ends_by_events}
use Rattle.writes.proofs.UnderWay.{has_place, refused_finder, refuses_finder, IsUnderWay, begun, ends_by, goes_on, gone_on, gone_less, went_on, met_row, refused, ended}
use Rattle.writes.proofs.ending.end_row.Goals as goal

pub seeking-init : goal.seeking-init
seeking-init g c = begun g.C.KeyClass.rules g.O.Outlet.rule c.args.world.now c.args.row c.in_ok-finder.finder c.open_finder_near.new.self c.in_ok-finder.ensures.opens c.in_ok-finder.ensures.sound

pub seeking-smaller : goal.seeking-smaller
seeking-smaller g c =
    let happened = went_on g.C.KeyClass.rules g.O.Outlet.rule c.seeking.world c.in_ok-finder.finder c.args.ending c.visit.result c.visit.new.world (c.in-Ok-None.is ∙ ap (λ x. Ok x) c.in-Ok-None.field-0-is) c.visit.ensures in
    gone_less g.C.KeyClass.rules g.O.Outlet.rule c.args.world.now c.args.row c.in_ok-finder.finder c.seeking.world c.seeking.invariant
    c.args.ending c.visit.new.world happened.serves (goes_on g.C.KeyClass.rules g.O.Outlet.rule c.seeking.world c.in_ok-finder.finder c.args.ending c.visit.new.world happened.step) happened.sound

pub seeking-preserved : goal.seeking-preserved
seeking-preserved g c =
    let happened = went_on g.C.KeyClass.rules g.O.Outlet.rule c.seeking.world c.in_ok-finder.finder c.args.ending c.visit.result c.visit.new.world (c.in-Ok-None.is ∙ ap (λ x. Ok x) c.in-Ok-None.field-0-is) c.visit.ensures in
    gone_on g.C.KeyClass.rules g.O.Outlet.rule c.args.world.now c.args.row c.in_ok-finder.finder c.seeking.world c.seeking.invariant
    c.args.ending c.visit.new.world happened.serves (goes_on g.C.KeyClass.rules g.O.Outlet.rule c.seeking.world c.in_ok-finder.finder c.args.ending c.visit.new.world happened.step) happened.sound

pub returns-in-Ok-Some-clause-ended : goal.returns-in-Ok-Some-clause-ended
returns-in-Ok-Some-clause-ended g c =
    let happened = met_row g.C.KeyClass.rules g.O.Outlet.rule c.seeking.world c.in_ok-finder.finder c.args.ending c.in-Ok-Some.stamp c.visit.result c.visit.new.world (c.in-Ok-Some.is ∙ ap (λ x. Ok x) c.in-Ok-Some.field-0-is) c.visit.ensures in
    rw c.number.ensures
    (ends_by g.C.KeyClass.rules g.O.Outlet.rule c.args.world.now c.args.row c.in_ok-finder.finder c.seeking.world c.seeking.invariant
    c.args.ending c.in-Ok-Some.stamp c.visit.new.world c.requires.live c.requires.may happened.serves happened.step)

pub returns-in-Ok-Some-clause-events : goal.returns-in-Ok-Some-clause-events
returns-in-Ok-Some-clause-events g c =
    let happened = met_row g.C.KeyClass.rules g.O.Outlet.rule c.seeking.world c.in_ok-finder.finder c.args.ending c.in-Ok-Some.stamp c.visit.result c.visit.new.world (c.in-Ok-Some.is ∙ ap (λ x. Ok x) c.in-Ok-Some.field-0-is) c.visit.ensures in
    rw c.number.ensures
    (ends_by_events g.C.KeyClass.rules g.O.Outlet.rule g.met.C.KeyClass.lawful c.args.world.now c.args.row c.in_ok-finder.finder c.seeking.world c.seeking.invariant
    c.args.ending c.in-Ok-Some.stamp c.visit.new.world c.requires.live c.requires.room c.requires.may happened.step)

pub returns-in-Err-clause-left : goal.returns-in-Err-clause-left
returns-in-Err-clause-left g c =
    let because = refused g.C.KeyClass.rules g.O.Outlet.rule c.args.world.now c.args.row c.in_ok-finder.finder c.seeking.world c.seeking.invariant
    c.args.ending c.in-Err.why c.visit.new.world c.requires.live c.requires.room c.requires.may c.in-Err.ensures.step in
    let under_way = subst (λ s. IsUnderWay g.C.KeyClass.rules g.O.Outlet.rule c.args.world.now c.args.row c.in_ok-finder.finder s) (sym because.1) c.seeking.invariant in
    ended g.C.KeyClass.rules g.O.Outlet.rule c.args.world.now c.args.row c.in_ok-finder.finder c.visit.new.world under_way
    c.step-unfound.new.self c.step-unfound.result c.step-unfound.ensures.step

pub returns-in-Err-clause-refusals : goal.returns-in-Err-clause-refusals
returns-in-Err-clause-refusals g c =
    inl (refused g.C.KeyClass.rules g.O.Outlet.rule c.args.world.now c.args.row c.in_ok-finder.finder c.seeking.world c.seeking.invariant
    c.args.ending c.in-Err.why c.visit.new.world c.requires.live c.requires.room c.requires.may c.in-Err.ensures.step).0

pub returns-in-Err-clause-unfound : goal.returns-in-Err-clause-unfound
returns-in-Err-clause-unfound g c other =
    absurd (other (refused g.C.KeyClass.rules g.O.Outlet.rule c.args.world.now c.args.row c.in_ok-finder.finder c.seeking.world c.seeking.invariant
    c.args.ending c.in-Err.why c.visit.new.world c.requires.live c.requires.room c.requires.may c.in-Err.ensures.step).0)

pub returns-in-Err-clause-full : goal.returns-in-Err-clause-full
returns-in-Err-clause-full g c =
    let because = refused g.C.KeyClass.rules g.O.Outlet.rule c.args.world.now c.args.row c.in_ok-finder.finder c.seeking.world c.seeking.invariant
    c.args.ending c.in-Err.why c.visit.new.world c.requires.live c.requires.room c.requires.may c.in-Err.ensures.step in
    (λ e. absurd (let memory : c.in-Err.why ≡ refusal.OutOfMemory = because.0 in cc), λ full. absurd (has_place c.args.world.now c.args.row c.in_ok-finder.ensures.opens.passed full))

pub returns-in_err-finder-clause-full : goal.returns-in_err-finder-clause-full
returns-in_err-finder-clause-full g c =
    let why = refused_finder g.C.KeyClass.rules g.O.Outlet.rule c.args.world.now c.args.row _ c.open_finder_near.new.self c.in_err-finder.ensures.sound.legal c.requires.live c.in_err-finder.ensures.opens in
    let p = err_from_is_err_and c.from_residual.result c.from_residual.ensures.1 in
    rw (p.1, p.2) (λ e. why.0 (cc), λ full. ap (λ w. Err w) (why.1 full))

pub returns-in_err-finder-clause-refusals : goal.returns-in_err-finder-clause-refusals
returns-in_err-finder-clause-refusals g c =
    let p = err_from_is_err_and c.from_residual.result c.from_residual.ensures.1 in
    rw (p.1, p.2) (refuses_finder g.C.KeyClass.rules g.O.Outlet.rule c.args.world.now c.args.row _ c.open_finder_near.new.self c.in_err-finder.ensures.sound.legal c.requires.live c.in_err-finder.ensures.opens)
