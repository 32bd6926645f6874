use Rattle.writes.proofs.Sought.{relocates}
use Rattle.writes.proofs.move_visit.move_step.Goals as goal

pub returns-in-At-clause-goes : goal.returns-in-At-clause-goes
returns-in-At-clause-goes g c =
    relocates g.C.KeyClass.rules g.O.Outlet.rule c.args.world.now c.approach_leaf.new.world c.seek_from.new.world c.args.seat c.args.page c.in-At.leaf c.args.finder c.args.row c.args.key
    (rw c.in-At.is at c.in_ok-next.ensures.nears) c.seek_from.result c.seek_from.ensures.seeks

pub returns-in-At-clause-mailboxes : goal.returns-in-At-clause-mailboxes
returns-in-At-clause-mailboxes g c elsewhere fit = c.seek_from.ensures.mailboxes elsewhere (c.approach_leaf.ensures.mailboxes elsewhere fit)
