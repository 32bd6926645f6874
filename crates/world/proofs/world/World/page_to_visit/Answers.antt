use Rattle.std.proofs.Common.{sym, subst}
use Rattle.world.specs.States.{IsAt}
use Rattle.world.proofs.Publishing.{if_none, if_page, none_of_closed}
use Rattle.world.proofs.world.World.page_to_visit.Goals as goal

pub returns-in-Ok-clause-page : goal.returns-in-Ok-clause-page
returns-in-Ok-clause-page g c =
    let a = subst (λ s. IsAt s c.args.c c.in-Ok.at) (sym c.self.view_is) c.in-Ok.ensures.found in
    rw (← c.self.view_is) (if_page g.C.KeyClass.rules.is_cover _ c.self.invariant c.args.c c.in-Ok.at a c.index.result.now c.index.ensures c.page_to_visit.result c.page_to_visit.ensures.page)

pub returns-in-Ok-clause-none : goal.returns-in-Ok-clause-none
returns-in-Ok-clause-none g c =
    let a = subst (λ s. IsAt s c.args.c c.in-Ok.at) (sym c.self.view_is) c.in-Ok.ensures.found in
    rw (← c.self.view_is) (if_none g.C.KeyClass.rules.is_cover _ c.self.invariant c.args.c c.in-Ok.at a c.index.result.now c.index.ensures c.page_to_visit.result c.page_to_visit.ensures.none)

pub returns-in-Err-clause-none : goal.returns-in-Err-clause-none
returns-in-Err-clause-none g c = none_of_closed g.C.KeyClass.rules.is_cover c.args.self.now c.recall_soundness.ensures c.args.c c.in-Err.field-0 c.in-Err.ensures.refused
