use Rattle.std.proofs.Common.{◌≡◌, None, sym, subst}
use Rattle.split.specs.Tests.{first_failing, place_tests}
use Rattle.world.specs.declared.reply.Reply.TheVariants as reply
use Rattle.writes.proofs.MovingPages.{place_rests, place_deaths}
use Rattle.writes.proofs.page_steps.place.Goals as goal

pub returns-clause-rests : goal.returns-clause-rests
returns-clause-rests g c =
    place_rests g.C.KeyClass.rules g.O.Outlet.rule c.args.world.now c.place_row.new.self c.args.seat c.from.result c.args.key c.args.tag c.in_ok-stamp.stamp c.in_ok-stamp.ensures.step.change (reply.Committed c.in_ok-stamp.stamp) c.in_ok-stamp.ensures.serves

pub returns-clause-dead : goal.returns-clause-dead
returns-clause-dead g c =
    place_deaths g.C.KeyClass.rules g.O.Outlet.rule c.args.world.now c.place_row.new.self c.args.seat c.from.result c.args.key c.args.tag c.in_ok-stamp.stamp c.recall_soundness.ensures
    (subst (λ p. first_failing (place_tests g.C.KeyClass.rules.is_cover c.args.world.now.search p c.args.key) ≡ None) (sym c.from.ensures) c.requires.passes) c.in_ok-stamp.ensures.step.change
