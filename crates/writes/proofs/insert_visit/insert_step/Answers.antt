use Rattle.writes.proofs.insert_visit.insert_step.Goals as goal

pub returns-in_ok-place-in-At-clause-mailboxes : goal.returns-in_ok-place-in-At-clause-mailboxes
returns-in_ok-place-in-At-clause-mailboxes g c elsewhere fit = c.place.ensures.mailboxes elsewhere (c.approach_leaf.ensures.mailboxes elsewhere fit)
