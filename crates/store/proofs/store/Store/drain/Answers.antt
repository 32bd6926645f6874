use Rattle.std.proofs.Common.{◌++◌, ◌∷◌, [], refl, sym, ap, ◌∙◌, inl, inr, append_assoc}
use Rattle.std.proofs.lemmas.List.{append-nil}
use Rattle.std.proofs.lemmas.Result.{err_from_is_err_and}
use Rattle.store.proofs.Cursors.{nexts_less, nexts_open, gave_push}
use Rattle.store.proofs.store.Store.drain.Goals as goal

pub returns-in_err-check : goal.returns-in_err-check
returns-in_err-check g c =
    let p = err_from_is_err_and c.from_residual.result c.from_residual.ensures.1 in
    ([], sym (append-nil c.args.into.now.items), record { last_given = c.args.self.now; gave = refl; ended = rw (p.1, p.2) (inl (inl (c.in_err-check.ensures.refused, refl))) })

pub draining-smaller : goal.draining-smaller
draining-smaller g c =
    let n = rw c.in-Some.is at c.in_ok-next.ensures.ok in
    nexts_less g.C.KeyClass.rules.is_match c.draining.self c.next.new.self c.args.c c.in-Some.item n

pub draining-preserved : goal.draining-preserved
draining-preserved g c =
    let n = rw c.in-Some.is at c.in_ok-next.ensures.ok in
    let i = c.draining.invariant in (
      i.0 ++ c.in-Some.item ∷ [],
      c.push_reserved.ensures.items ∙ ap (λ l. l ++ c.in-Some.item ∷ []) (c.try_reserve.ensures.items ∙ i.1) ∙ append_assoc c.args.into.now.items i.0 (c.in-Some.item ∷ []),
      gave_push g.C.KeyClass.rules.is_match c.args.self.now c.draining.self c.next.new.self c.args.c i.0 c.in-Some.item i.2 n,
      nexts_open g.C.KeyClass.rules.is_match c.draining.self c.next.new.self c.args.c c.in-Some.item n,
    )

pub returns-in_default : goal.returns-in_default
returns-in_default g c =
    let i = c.draining.invariant in (
      i.0,
      c.try_reserve.ensures.items ∙ i.1,
      record {
        last_given = c.draining.self;
        gave = i.2;
        ended = inr (refl, refl);
      },
    )
