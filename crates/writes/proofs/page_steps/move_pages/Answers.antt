use Rattle.writes.proofs.MovingPages.{made_moves, moves_pages, refused_moves, refused_wanting}
use Rattle.writes.proofs.page_steps.move_pages.Goals as goal
use Rattle.writes.proofs.page_steps.move_pages.Goals.{in-Refused, in_default}

pub returns-clause-kept : goal.returns-clause-kept
returns-clause-kept g c =
    elim c.match-step_as.branch [
      | in-Refused w ↦
          refused_moves g.C.KeyClass.rules g.O.Outlet.rule c.args.world.now c.step_as.new.self w.in-Refused.ensures.step.unchanged
      | in_default w ↦
          moves_pages g.C.KeyClass.rules g.O.Outlet.rule c.args.world.now c.step_as.new.self c.args.event c.step_as.result
          (made_moves g.C.KeyClass.rules g.O.Outlet.rule c.args.world.now c.step_as.new.self c.args.seat c.args.event c.step_as.result c.requires.may w.in_default.not-Refused c.step_as.ensures.step) c.step_as.ensures.serves c.step_as.ensures.rows
    ]

pub returns-clause-refusals : goal.returns-clause-refusals
returns-clause-refusals g c =
    elim c.match-step_as.branch [
      | in-Refused w ↦
          rw w.result-is (refused_wanting g.C.KeyClass.rules g.O.Outlet.rule c.args.world.now c.step_as.new.self c.args.event w.in-Refused.why c.requires.may w.in-Refused.ensures.step)
      | in_default w ↦ rw w.result-is tt
    ]
