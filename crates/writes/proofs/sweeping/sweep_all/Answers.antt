use Rattle.std.proofs.Common.{◌≡◌, ◌<◌, length, refl, arith}
use Rattle.std.proofs.lemmas.Result.{err_from_is_err_and}
use Rattle.writes.proofs.Swept.{swept_all, swept_none, swept_page, swept_some}
use Rattle.writes.proofs.sweeping.sweep_all.Goals as goal

pub loop-page-init : goal.loop-page-init
loop-page-init g c = swept_none g.C.KeyClass.rules g.O.Outlet.rule c.args.world.now 0 c.pages-page-end.ensures.sound

pub returns-in_err-number-clause-partly : goal.returns-in_err-number-clause-partly
returns-in_err-number-clause-partly g c =
    let p = err_from_is_err_and c.from_residual.result c.from_residual.ensures.1 in
    rw (p.1, c.in_err-number.ensures.refused) (swept_some g.C.KeyClass.rules g.O.Outlet.rule c.args.world.now 0 c.loop-page.page c.loop-page.number c.loop-page.world c.loop-page.invariant)

pub loop-page-preserved : goal.loop-page-preserved
loop-page-preserved g c =
    let within : c.loop-page.page < length c.args.world.now.search.tree.pages = omega (arith, c.loop-page-test.true, c.loop-page.auto.page-end, c.pages-page-end.ensures.number) in
    let swept = c.in_ok-number.ensures in
    swept_page g.C.KeyClass.rules g.O.Outlet.rule c.args.world.now 0 c.loop-page.page c.loop-page.number c.loop-page.world c.loop-page.invariant
    c.sweep_page.new.world c.in_ok-number.field-0 within swept.rests swept.sound swept.swept (λ no. (cc (swept.no_leaf no), swept.untouched no))

pub returns-clause-swept : goal.returns-clause-swept
returns-clause-swept g c =
    swept_all g.C.KeyClass.rules g.O.Outlet.rule c.args.world.now 0 c.loop-page.page c.loop-page.number c.loop-page.world c.loop-page.invariant refl
    (omega (arith, c.loop-page-test.false, c.loop-page.auto.page-end, c.pages-page-end.ensures.number))
