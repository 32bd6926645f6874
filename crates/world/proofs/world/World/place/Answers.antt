use Rattle.std.proofs.Common.{refl, sym, ◌∙◌, arith}
use Rattle.world.proofs.Placing.{place_refused, place_sound}
use Rattle.world.proofs.world.World.place.Goals as goal

pub returns-in-Some : goal.returns-in-Some
returns-in-Some g c = rw (← c.self.view_is) (place_refused _ _ _ c.args.page c.args.key c.args.tag _ c.in-Some.refusal refl (sym c.place_refusal.ensures ∙ c.in-Some.is))

pub invariant_of-self-2 : goal.invariant_of-self-2
invariant_of-self-2 g c =
    place_sound g.C.KeyClass.rules g.O.Outlet.rule _ c.args.page c.args.key c.args.tag (sym c.place_refusal.ensures ∙ c.in_default.is) c.commit.new.search c.commit.new.commits _ refl c.in_ok-number.ensures.changed c.in_ok-number.ensures.committed
    (omega (arith, c.if-len-self.false, c.len.ensures.len)) c.self.invariant
