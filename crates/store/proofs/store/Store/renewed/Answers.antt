use Rattle.std.proofs.Common.{◌≡◌, Err, inr, length, sym, ap, ◌∙◌, arith}
use Rattle.std.proofs.lemmas.Result.{err_from_is_err_and}
use Rattle.key_class.specs.declared.refusal.Refusal.TheVariants as refusal
use Rattle.change_list.specs.Changes.{rows}
use Rattle.store.specs.Renewing.{numbered}
use Rattle.store.proofs.Filling.{no_error, not_bad, same_reason, renewing_for_memory, renewing_live, renewing_more, renewing_refused}
use Rattle.store.proofs.store.Store.renewed.Goals as goal

pub returns-in_err-insert-clause-bad : goal.returns-in_err-insert-clause-bad
returns-in_err-insert-clause-bad g c =
    let p = err_from_is_err_and c.from_residual-in_err-insert.result c.from_residual-in_err-insert.ensures.1 in
    rw (p.1, p.2) (
      λ e within. not_bad c.insert.new.self c.in_err-insert.field-0.0 c.in_err-insert.ensures.refusals (same_reason c.in_err-insert.field-0.0 refusal.BadConfig e),
      λ none. absurd (no_error c.in_ok-store.store refusal.BadConfig (c.in_ok-store.ensures.bad.1 none)),
    )

pub returns-in_err-insert-clause-refusals : goal.returns-in_err-insert-clause-refusals
returns-in_err-insert-clause-refusals g c =
    let p = err_from_is_err_and c.from_residual-in_err-insert.result c.from_residual-in_err-insert.ensures.1 in
    let items = c.deref-row-items.result.now in
    let is : rows c.args.snapshot.now ≡ items = sym (c.deref-row-items.ensures.value ∙ c.in_ok-living.ensures.ok) in
    let refused = c.in_err-insert.ensures in
    rw (p.1, p.2)
    (renewing_refused c.args.config g.C.KeyClass.rules.is_match items c.loop-row.row-index c.loop-row-test.true c.row-item.result c.row-item.is c.loop-row.store c.insert.new.self c.loop-row.old_numbers.items c.loop-row.invariant.0
    c.args.snapshot.now is c.insert.new.self refused.err.commits refused.err.page_limit refused.few_pages c.in_err-insert.field-0.0 refused.refusals (λ e. refused.full.0 (ap Err e)))

pub returns-in_err-living-clause-refusals : goal.returns-in_err-living-clause-refusals
returns-in_err-living-clause-refusals g c =
    let p = err_from_is_err_and c.from_residual-in_err-living.result c.from_residual-in_err-living.ensures.1 in
    rw (p.1, p.2) (inr (inr (inr c.in_err-living.ensures.refused)))

pub returns-in_err-old_numbers-clause-refusals : goal.returns-in_err-old_numbers-clause-refusals
returns-in_err-old_numbers-clause-refusals g c = renewing_for_memory c.args.config c.args.snapshot.now c.from_residual-in_err-old_numbers.result c.from_residual-in_err-old_numbers.ensures.1

pub loop-row-preserved : goal.loop-row-preserved
loop-row-preserved g c =
    let items = c.deref-row-items.result.now in
    let made = c.in_ok-insert.ensures in (
      renewing_more c.args.config g.C.KeyClass.rules.is_match items c.loop-row.row-index c.loop-row-test.true c.row-item.result c.row-item.is c.loop-row.store c.insert.new.self c.loop-row.old_numbers.items c.loop-row.invariant.0
          c.push_reserved.new.self.items made.ok made.dead made.finders made.few_pages c.push_reserved.ensures.items,
      omega (arith, c.loop-row.invariant.1, c.push_reserved.ensures.capacity),
    )

pub returns-clause-live : goal.returns-clause-live
returns-clause-live g c =
    let items = c.deref-row-items.result.now in
    let all : c.loop-row.row-index ≡ length items = omega (arith, c.loop-row-test.false, c.loop-row.auto.row-index-end) in
    renewing_live c.args.config items c.loop-row.store c.loop-row.old_numbers.items c.loop-row.row-index c.loop-row.invariant.0 all
    ∙ ap (numbered 1) (c.deref-row-items.ensures.value ∙ c.in_ok-living.ensures.ok)
