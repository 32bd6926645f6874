use Rattle.std.proofs.Common.{◌∙◌}
use Rattle.std.proofs.lemmas.Result.{err_from_is_err_and}
use Rattle.writes.proofs.Refusing.{refused_step}
use Rattle.writes.proofs.Visited.{gone_on, met_row}
use Rattle.world.specs.States.{IsFinderOf}
use Rattle.writes.proofs.end_visit.end_step.Goals as goal

pub returns-in_err-stamp-clause-refusals : goal.returns-in_err-stamp-clause-refusals
returns-in_err-stamp-clause-refusals g c =
    let row = c.in-Some.ensures.row in
    let p = err_from_is_err_and c.from_residual.result c.from_residual.ensures.1 in
    rw (p.1, p.2)
    (refused_step g.C.KeyClass.rules g.O.Outlet.rule c.args.world.now c.visit.new.world c.args.row c.args.finder _ row.0 c.args.ending
    c.requires.live row.1 (row.2 ∙ c.if-found-row.false) c.requires.may c.in_err-stamp.ensures.step)

pub returns-in-None-2-clause-seeks : goal.returns-in-None-2-clause-seeks
returns-in-None-2-clause-seeks g c =
    let row = c.in-Some.ensures.row in (
      (row.0, row.1, row.2 ∙ c.if-found-row.false),
      gone_on g.C.KeyClass.rules g.O.Outlet.rule c.args.world.now c.args.seat c.args.finder c.args.ending c.in_ok-stamp.field-0 c.visit.new.world c.in-None-2.is c.in_ok-stamp.ensures,
    )

pub returns-in-Some-2-clause-seeks : goal.returns-in-Some-2-clause-seeks
returns-in-Some-2-clause-seeks g c =
    let row = c.in-Some.ensures.row in
    let finder : IsFinderOf c.args.world.now c.args.finder c.args.row = (row.0, row.1, row.2 ∙ c.if-found-row.false) in (
      finder,
      met_row g.C.KeyClass.rules g.O.Outlet.rule c.args.world.now c.args.seat c.args.finder c.args.row finder c.args.ending c.in_ok-stamp.field-0 c.in-Some-2.stamp c.visit.new.world c.in-Some-2.is c.in_ok-stamp.ensures,
    )
