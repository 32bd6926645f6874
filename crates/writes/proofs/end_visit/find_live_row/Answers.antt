use Rattle.std.proofs.Common.{Err, ap}
use Rattle.std.proofs.lemmas.Result.{err_from_is_err_and}
use Rattle.writes.proofs.UnderWay.{refused_finder, refuses_finder}
use Rattle.writes.proofs.end_visit.find_live_row.Goals as goal

pub returns-in_err-finder-clause-full : goal.returns-in_err-finder-clause-full
returns-in_err-finder-clause-full g c =
    let why = refused_finder g.C.KeyClass.rules g.O.Outlet.rule c.args.world.now c.args.row _ c.open_finder.new.self c.in_err-finder.ensures.sound.legal c.requires.live c.in_err-finder.ensures.step in
    let p = err_from_is_err_and c.from_residual.result c.from_residual.ensures.1 in
    rw (p.1, p.2) (λ e. why.0 (cc), λ full. ap (λ w. Err w) (why.1 full))

pub returns-in_err-finder-clause-refusals : goal.returns-in_err-finder-clause-refusals
returns-in_err-finder-clause-refusals g c =
    let p = err_from_is_err_and c.from_residual.result c.from_residual.ensures.1 in
    rw (p.1, p.2) (refuses_finder g.C.KeyClass.rules g.O.Outlet.rule c.args.world.now c.args.row _ c.open_finder.new.self c.in_err-finder.ensures.sound.legal c.requires.live c.in_err-finder.ensures.step)
