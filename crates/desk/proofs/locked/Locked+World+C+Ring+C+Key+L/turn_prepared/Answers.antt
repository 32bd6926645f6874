use Rattle.std.proofs.Common.{refl, ◌∙◌}
use Rattle.desk.proofs.locked.Locked+World+C+Ring+C+Key+L.turn_prepared.Goals as goal

pub invariant_of-self : goal.invariant_of-self
invariant_of-self g c = (
  c.publish_visit.ensures.commits ∙ c.self.invariant.0,
  c.self.invariant.1,
  record { sound = c.publish_visit.ensures.sound; mailboxes = c.publish_visit.ensures.mailboxes refl c.self.invariant.2.mailboxes },
)

pub returns-clause-held : goal.returns-clause-held
returns-clause-held g c = (
  rw (← c.self.view_is) c.self.invariant.2,
  record { sound = c.publish_visit.ensures.sound; mailboxes = c.publish_visit.ensures.mailboxes refl c.self.invariant.2.mailboxes },
)
