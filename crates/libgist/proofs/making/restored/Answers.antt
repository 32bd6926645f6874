use Rattle.std.proofs.Common.{inl, inr, arith}
use Rattle.libgist.specs.declared.held.AnyMap.TheVariants as kept
use Rattle.libgist.specs.declared.held.Held.TheVariants as held
use Rattle.libgist.specs.BoxKeys.{box_told}
use Rattle.libgist.specs.IntervalKeys.{interval_told}
use Rattle.libgist.specs.SetKeys.{set_told}
use Rattle.libgist.proofs.Restoring.{held_restored}
use Rattle.libgist.proofs.making.restored.Goals as goal

pub returns-in_ok-restored-in-1 : goal.returns-in_ok-restored-in-1
returns-in_ok-restored-in-1 c =
    let is = c.in-1.is in
    let done = c.in_ok-restored-in-1 in
    record {
      intervals = λ e. held_restored interval_told c.args.words.now c.args.config c.args.revision (λ it. held.Map (kept.Intervals it)) done.field-0 done.ensures.ok done.ensures.bad_limits;
      boxes = λ e. absurd (omega (arith, is, e));
      sets = λ e. absurd (omega (arith, is, e));
      no_class = λ none. absurd (none (inl is));
    }

pub returns-in_ok-restored-in-2 : goal.returns-in_ok-restored-in-2
returns-in_ok-restored-in-2 c =
    let is = c.in-2.is in
    let done = c.in_ok-restored-in-2 in
    record {
      intervals = λ e. absurd (omega (arith, is, e));
      boxes = λ e. held_restored box_told c.args.words.now c.args.config c.args.revision (λ it. held.Map (kept.Boxes it)) done.field-0 done.ensures.ok done.ensures.bad_limits;
      sets = λ e. absurd (omega (arith, is, e));
      no_class = λ none. absurd (none (inr (inl is)));
    }

pub returns-in_ok-restored-in-3 : goal.returns-in_ok-restored-in-3
returns-in_ok-restored-in-3 c =
    let is = c.in-3.is in
    let done = c.in_ok-restored-in-3 in
    record {
      intervals = λ e. absurd (omega (arith, is, e));
      boxes = λ e. absurd (omega (arith, is, e));
      sets = λ e. held_restored set_told c.args.words.now c.args.config c.args.revision (λ it. held.Map (kept.Sets it)) done.field-0 done.ensures.ok done.ensures.bad_limits;
      no_class = λ none. absurd (none (inr (inr is)));
    }
