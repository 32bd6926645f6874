use Rattle.std.proofs.Common.{sym, subst, arith}
use Rattle.std.proofs.lemmas.Grind.{common_steps}
use Rattle.world.specs.States.{IsAt}
use Rattle.world.proofs.Handling.{at_within, close_sound, close_done}
use Rattle.world.proofs.world.World.close.Goals as goal

pub let_go-requires : goal.let_go-requires
let_go-requires g c =
    let a = subst (λ s. IsAt s c.args.c c.in_ok-at.at) (sym c.self.view_is) c.in_ok-at.ensures.found in
    let l = at_within g.C.KeyClass.rules.is_cover _ c.self.invariant c.args.c c.in_ok-at.at a in
    grind (arith, common_steps)

pub invariant_of-self : goal.invariant_of-self
invariant_of-self g c =
    let a = subst (λ s. IsAt s c.args.c c.in_ok-at.at) (sym c.self.view_is) c.in_ok-at.ensures.found in
    close_sound g.C.KeyClass.rules g.O.Outlet.rule _ c.self.invariant c.args.c c.in_ok-at.at a c.let_go.new.members.items c.let_go.ensures

pub returns : goal.returns
returns g c = λ seat.
    let a = subst (λ s. IsAt s c.args.c c.in_ok-at.at) (sym c.self.view_is) c.in_ok-at.ensures.found in
    rw (← c.self.view_is) (close_done _ _ _ c.self.invariant c.args.c c.in_ok-at.at a c.let_go.new.members.items c.let_go.ensures _ seat)
