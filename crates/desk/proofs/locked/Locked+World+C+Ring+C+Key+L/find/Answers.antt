use Rattle.std.proofs.Common.{refl, ◌∙◌}
use Rattle.desk.proofs.Holding.{same_commits}
use Rattle.desk.proofs.locked.Locked+World+C+Ring+C+Key+L.find.Goals as goal

pub invariant_of-self : goal.invariant_of-self
invariant_of-self g c = (
  same_commits c.find_row-found.result _ _ c.args.row c.find_row-found.ensures.looks c.find_row-found.ensures.unchanged ∙ c.self.invariant.0,
  c.self.invariant.1,
  record { sound = c.find_row-found.ensures.sound; mailboxes = c.find_row-found.ensures.mailboxes refl c.self.invariant.2.mailboxes },
)
