use Rattle.std.proofs.Common.{refl, sym, ap, ◌∙◌}
use Rattle.desk.proofs.locked.Locked+World+C+Ring+C+Key+L.follow.Goals as goal

pub invariant_of-self-2 : goal.invariant_of-self-2
invariant_of-self-2 g c = (
  ap (λ s. s.commits) c.in_ok-cursor.ensures.opens.step.change.after ∙ c.self.invariant.0,
  c.self.invariant.1 ∙ sym c.audit.ensures.total,
  record { sound = c.in_ok-cursor.ensures.opens.sound; mailboxes = c.in_ok-cursor.ensures.opens.mailboxes refl c.self.invariant.2.mailboxes },
)

pub returns-clause-held : goal.returns-clause-held
returns-clause-held g c = (
  rw (← c.self.view_is) c.self.invariant.2,
  record { sound = c.in_ok-cursor.ensures.opens.sound; mailboxes = c.in_ok-cursor.ensures.opens.mailboxes refl c.self.invariant.2.mailboxes },
)
