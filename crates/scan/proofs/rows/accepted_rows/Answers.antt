use Rattle.std.proofs.Common.{◌∷◌, arith, suc, drop, drop-cons, sym, ap, ◌∙◌}
use Rattle.scan.proofs.Growing.{on_err, sees_some}
use Rattle.scan.proofs.rows.accepted_rows.Goals as goal

pub returns-in_err-push_back-clause-memory : goal.returns-in_err-push_back-clause-memory
returns-in_err-push_back-clause-memory g c =
    let entries = c.args.entries.now in
    let i = c.loop-place.place in
    let e = c.get-entry.result in
    on_err c.from_residual.result
    (sees_some (g.T.KeyTest.accepts c.args.test.now) c.args.commit c.loop-place.rows.items entries i e (drop (suc i) entries) (drop-cons entries i e (omega (arith, c.loop-place-test.true, c.len-place-end.ensures)) ∙ ap (λ x. x ∷ drop (suc i) entries) (sym c.get-entry.ensures))
    (sym c.is_seen.ensures ∙ c.if-is_seen.true) c.loop-place.invariant)
