use Rattle.std.proofs.Common.{sym, subst, arith}
use Rattle.std.proofs.lemmas.Grind.{common_steps}
use Rattle.cursor.specs.OpenCursors.{Turns}
use Rattle.world.specs.States.{IsAt}
use Rattle.world.proofs.Handling.{at_within, at_work, turn_sound, turn_steps}
use Rattle.world.proofs.world.World.turn.Goals as goal

pub index_mut-requires : goal.index_mut-requires
index_mut-requires g c =
    let a = subst (λ s. IsAt s c.args.c c.in_ok-at.at) (sym c.self.view_is) c.in_ok-at.ensures.found in
    let l = at_within g.C.KeyClass.rules.is_cover _ c.self.invariant c.args.c c.in_ok-at.at a in
    grind (arith, common_steps)

pub turn-requires : goal.turn-requires
turn-requires g c =
    let a = subst (λ s. IsAt s c.args.c c.in_ok-at.at) (sym c.self.view_is) c.in_ok-at.ensures.found in
    let h = at_work g.C.KeyClass.rules.is_cover _ c.self.invariant c.args.c c.in_ok-at.at a c.index_mut.result.now c.index_mut.ensures.value in
    rw c.pages.ensures.table h.stack

pub invariant_of-self : goal.invariant_of-self
invariant_of-self g c =
    let a = subst (λ s. IsAt s c.args.c c.in_ok-at.at) (sym c.self.view_is) c.in_ok-at.ensures.found in
    let turns : Turns g.C.KeyClass.rules g.O.Outlet.rule c.self.inside.search.tree c.self.inside.changes c.index_mut.result.now c.turn.result c.turn.new.self = rw c.pages.ensures.table at c.turn.ensures.turns in
    turn_sound g.C.KeyClass.rules g.O.Outlet.rule _ c.self.invariant c.args.c c.in_ok-at.at a c.index_mut.result.now c.index_mut.ensures.value c.turn.new.self g.met.C.KeyClass.lawful c.turn.result turns

pub returns : goal.returns
returns g c = λ seat.
    let a = subst (λ s. IsAt s c.args.c c.in_ok-at.at) (sym c.self.view_is) c.in_ok-at.ensures.found in
    let turns : Turns g.C.KeyClass.rules g.O.Outlet.rule c.self.inside.search.tree c.self.inside.changes c.index_mut.result.now c.turn.result c.turn.new.self = rw c.pages.ensures.table at c.turn.ensures.turns in
    rw (← c.self.view_is) (turn_steps g.C.KeyClass.rules g.O.Outlet.rule _ c.self.invariant c.args.c c.in_ok-at.at a c.index_mut.result.now c.index_mut.ensures.value c.turn.new.self _ seat c.turn.result turns)
