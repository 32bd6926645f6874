use Rattle.std.proofs.Common.{◌≡◌, Some, None, sym, ap, ◌∙◌, subst}
use Rattle.std.specs.Prelude.{Contains}
use Rattle.feed.specs.Hearing.{topic_at}
use Rattle.feed.proofs.AskedStill.{enrolled_changed}
use Rattle.feed.proofs.Members.{removed_stays}
use Rattle.feed.proofs.Slots.{same_elsewhere}
use Rattle.feed.proofs.topics.Topics.end.Goals as goal

pub invariant_of-self-2 : goal.invariant_of-self-2
invariant_of-self-2 g c =
    let topics = c.self.inside in
    let tag = c.args.number in
    let left = c.try_remove.new.self in
    enrolled_changed g.C.Reach.reach_of g.C.KeyClass.rules.size_of topics.tree.commits c.uproot_query.new.tree.commits topics.always.keys c.remove-asked.new.self.keys topics.topics.slots left.slots c.self.invariant tag c.uproot_query.ensures
    (λ other apart has. subst (λ l. Contains l other) (sym c.remove-asked.ensures.keys) (removed_stays tag other topics.always.keys apart has))
    (λ other apart. c.try_remove.ensures.updates.others other apart)
    (λ u is. let none : None ≡ Some u = sym c.try_remove.ensures.updates.changed ∙ is in absurd (cc))

pub returns-clause-others : goal.returns-clause-others
returns-clause-others g c other apart =
    ap (λ o. topic_at o other) c.tend.ensures
    ∙ same_elsewhere c.self.inside.topics c.try_remove.new.self c.args.number None c.try_remove.ensures.updates other apart
    ∙ ap (λ o. topic_at o other) c.self.view_is
