use Rattle.descent.specs.NextSteps.{IsPlan}
use Rattle.descent.specs.declared.step.Plan.TheVariants.{Split}
use Rattle.descent.proofs.Descending.{split_next}
use Rattle.descent.proofs.step.next_step.Goals as goal

pub returns-in_ok-sides-in-Split-clause-step : goal.returns-in_ok-sides-in-Split-clause-step
returns-in_ok-sides-in-Split-clause-step g c =
    let planned : IsPlan g.C.KeyClass.rules c.args.search.now c.args.page c.args.key (Split c.in-Split.child) = rw c.in-Split.is at c.plan_at.ensures in (
      planned.0,
      split_next g.C.KeyClass.rules.is_cover g.C.KeyClass.rules.union_of g.C.KeyClass.rules.size_of c.args.search.now c.pages-pages.ensures.sound c.args.page c.requires.exists c.args.key c.in-Split.child planned.0 c.in_ok-sides-in-Split.sides planned.1.not_owed planned.1.full c.in_ok-sides-in-Split.ensures.split,
      c.in_ok-sides-in-Split.ensures.picked,
    )
