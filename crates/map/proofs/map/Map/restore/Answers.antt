use Rattle.std.proofs.Common.{inr, sym, ap, subst, arith, ◌∙◌}
use Rattle.std.proofs.lemmas.List.{take_all}
use Rattle.std.proofs.lemmas.Result.{err_from_is_err_and}
use Rattle.revisions.specs.Maps.{AreApart, restored}
use Rattle.map.specs.Kept.{kept_map}
use Rattle.map.proofs.Restoring.{is_new, is_twice, one_more}
use Rattle.map.proofs.map.Map.restore.Goals as goal

pub add-requires-clause-absent : goal.add-requires-clause-absent
add-requires-clause-absent g c =
    is_new c.args.revision c.args.entries.now c.filling.entry-index c.filling.present c.filling.invariant.0 c.entry-item.result c.get.result c.get.ensures (sym c.is_some.ensures ∙ c.if-is_some.false)

pub filling-preserved : goal.filling-preserved
filling-preserved g c =
    let fresh = is_new c.args.revision c.args.entries.now c.filling.entry-index c.filling.present c.filling.invariant.0 c.entry-item.result c.get.result c.get.ensures (sym c.is_some.ensures ∙ c.if-is_some.false) in
    one_more c.args.revision c.args.entries.now c.filling.entry-index c.filling.present c.filling.invariant.0 c.entry-item.result c.filling-test.true c.entry-item.is fresh c.filling.invariant.1 c.add.new.self c.in_ok-add.ensures.ok

pub returns-then-is_some-clause-why_bad : goal.returns-then-is_some-clause-why_bad
returns-then-is_some-clause-why_bad g c =
    λ e. inr (λ apart. is_twice c.args.revision c.args.entries.now c.filling.entry-index c.filling.present c.entry-item.result c.get.result c.filling.invariant.0 c.filling-test.true c.entry-item.is c.get.ensures (sym c.is_some.ensures ∙ c.if-is_some.true) apart)

pub returns-clause-ok : goal.returns-clause-ok
returns-clause-ok g c =
    ap (kept_map c.args.config) (c.filling.invariant.0 ∙ ap (restored c.args.revision) (take_all c.filling.entry-index c.args.entries.now (omega (arith, c.filling-test.false))))

pub returns-clause-apart : goal.returns-clause-apart
returns-clause-apart g c = subst (λ es. AreApart es) (take_all c.filling.entry-index c.args.entries.now (omega (arith, c.filling-test.false))) c.filling.invariant.1

pub returns-in_err-add-clause-refusals : goal.returns-in_err-add-clause-refusals
returns-in_err-add-clause-refusals g c =
    let p = err_from_is_err_and c.from_residual-in_err-add.result c.from_residual-in_err-add.ensures.1 in
    rw (p.1, p.2) (inr c.in_err-add.ensures.refusals)
