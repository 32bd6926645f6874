use Rattle.std.proofs.Common.{sym, subst, arith}
use Rattle.std.proofs.lemmas.Grind.{common_steps}
use Rattle.world.specs.States.{IsAt}
use Rattle.world.proofs.Handling.{at_within, ask_sound, ask_done}
use Rattle.world.proofs.world.World.ask_mark.Goals as goal

pub index_mut-requires : goal.index_mut-requires
index_mut-requires g c =
    let a = subst (λ s. IsAt s c.args.c c.in_ok-at.at) (sym c.self.view_is) c.in_ok-at.ensures.found in
    let l = at_within g.C.KeyClass.rules.is_cover _ c.self.invariant c.args.c c.in_ok-at.at a in
    grind (arith, common_steps)

pub invariant_of-self : goal.invariant_of-self
invariant_of-self g c =
    let a = subst (λ s. IsAt s c.args.c c.in_ok-at.at) (sym c.self.view_is) c.in_ok-at.ensures.found in
    ask_sound g.C.KeyClass.rules g.O.Outlet.rule _ c.self.invariant c.args.c c.in_ok-at.at a c.index_mut.result.now c.index_mut.ensures.value c.ask_mark.new.self c.ask_mark.ensures.asked

pub returns : goal.returns
returns g c = λ seat.
    let a = subst (λ s. IsAt s c.args.c c.in_ok-at.at) (sym c.self.view_is) c.in_ok-at.ensures.found in
    rw (← c.self.view_is) (ask_done _ _ _ c.self.invariant c.args.c c.in_ok-at.at a c.index_mut.result.now c.index_mut.ensures.value c.ask_mark.new.self _ seat c.ask_mark.ensures.asked)
