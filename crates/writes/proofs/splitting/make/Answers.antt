use Rattle.std.proofs.Common.{inl}
use Rattle.writes.proofs.MovingPages.{made_of_pages}
use Rattle.writes.proofs.Visiting.{told_wanting, untold_barred}
use Rattle.writes.proofs.splitting.make.Goals as goal
use Rattle.writes.proofs.splitting.make.Goals.{in-Refused, in_default}

pub returns-clause-refusals : goal.returns-clause-refusals
returns-clause-refusals g c =
    elim c.match-step_as.branch [
      | in-Refused w ↦
          rw w.result-is (
          told_wanting g.C.KeyClass.rules g.O.Outlet.rule c.args.world.now c.step_as.new.self
          c.args.event w.in-Refused.why w.tell_want.result c.requires.pages w.in-Refused.ensures.step w.tell_want.ensures.told w.tell_want.ensures.refusals
          )
      | in_default w ↦ rw w.result-is tt
    ]

pub returns-clause-moves : goal.returns-clause-moves
returns-clause-moves g c =
    elim c.match-step_as.branch [
      | in-Refused w ↦
          rw w.result-is (
          untold_barred g.C.KeyClass.rules g.O.Outlet.rule c.args.world.now c.step_as.new.self
          c.args.event w.in-Refused.why w.tell_want.result c.requires.pages w.in-Refused.ensures.step w.tell_want.ensures.memory w.tell_want.ensures.pages
          )
      | in_default w ↦
          rw w.result-is (inl (made_of_pages g.C.KeyClass.rules g.O.Outlet.rule c.args.world.now c.step_as.new.self c.args.seat c.args.event c.step_as.result c.requires.pages w.in_default.not-Refused c.step_as.ensures.step))
    ]
