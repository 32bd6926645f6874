use Rattle.std.proofs.Common.{◌≡◌, Some, None, sym, ap, ◌∙◌, subst}
use Rattle.std.specs.Prelude.{Contains, slice_index_or}
use Rattle.slab.specs.Slab.{Slab}
use Rattle.key_class.specs.Queries.{query_of}
use Rattle.feed.specs.declared.topics.Topic.{Topic}
use Rattle.feed.specs.Hearing.{ChangesHearing}
use Rattle.feed.specs.Holding.{IsAsked, topic_state}
use Rattle.feed.proofs.AskedStill.{enrolled_changed}
use Rattle.feed.proofs.Hearing.{hearing_begun, none_shown, same_shown, some_shown}
use Rattle.feed.proofs.Slots.{states}
use Rattle.feed.proofs.topics.Topics.begin.Goals as goal

pub invariant_of-self-in_err-enrol : goal.invariant_of-self-in_err-enrol
invariant_of-self-in_err-enrol g c =
    let topics = c.self.inside in
    let tag = c.vacant_key-number.result in
    let slots : c.reserve.new.self.slots ≡ topics.topics.slots = ap (λ (s : Slab (Topic g.row.C-Atom.Denot)). s.slots) c.reserve.ensures.rest_kept in
    enrolled_changed g.C.Reach.reach_of g.C.KeyClass.rules.size_of topics.tree.commits c.enrol.new.tree.commits topics.always.keys c.enrol.new.always.keys topics.topics.slots c.reserve.new.self.slots c.self.invariant tag c.enrol.ensures.tends
    (λ other apart has. subst (λ l. Contains l other) (sym c.in_err-enrol.ensures.err) has)
    (λ other apart. ap (λ l. slice_index_or l other None) slots)
    (λ u is. let none : None ≡ Some u = sym c.vacant_key-number.ensures.vacant ∙ is in absurd (cc))

pub invariant_of-self-2 : goal.invariant_of-self-2
invariant_of-self-2 g c =
    let topics = c.self.inside in
    let tag = c.vacant_key-number.result in
    let mid = c.reserve.new.self in
    let new = c.insert_reserved.new.self in
    let v : Topic g.row.C-Atom.Denot = record { query = c.in_ok-copy.copy; listeners = c.alone.result } in
    let slots : mid.slots ≡ topics.topics.slots = ap (λ (s : Slab (Topic g.row.C-Atom.Denot)). s.slots) c.reserve.ensures.rest_kept in
    let here : c.insert_reserved.result ≡ tag = c.insert_reserved.ensures.key ∙ sym c.vacant_key-number.ensures.value in
    let later = c.enrol.new.tree.commits in
    let after = c.enrol.new.always.keys in
    let enrolled = c.in_ok-enrol.ensures.ok in
    enrolled_changed g.C.Reach.reach_of g.C.KeyClass.rules.size_of topics.tree.commits later topics.always.keys after topics.topics.slots new.slots c.self.invariant tag c.enrol.ensures.tends
    (λ other apart has. enrolled.stay other has)
    (λ other apart. c.insert_reserved.ensures.updates.others other (λ same. apart (same ∙ here)) ∙ ap (λ l. slice_index_or l other None) slots)
    (λ u is.
    let one : Some v ≡ Some u = sym c.insert_reserved.ensures.updates.changed ∙ ap (λ n. slice_index_or new.slots n None) here ∙ is in
    let it : v ≡ u = cc in
    let query : query_of c.args.query.now ≡ query_of u.query = sym c.in_ok-copy.ensures ∙ ap (λ (t : Topic g.row.C-Atom.Denot). query_of t.query) it in
    subst (λ q. IsAsked g.C.Reach.reach_of g.C.KeyClass.rules.size_of later after q tag) query enrolled.asked)

pub returns-clause-ok : goal.returns-clause-ok
returns-clause-ok g c =
    let s = c.self.inside.topics in
    let mid = c.reserve.new.self in
    let new = c.insert_reserved.new.self in
    let number = c.insert_reserved.result in
    let v : Topic g.row.C-Atom.Denot = record { query = c.in_ok-copy.copy; listeners = c.alone.result } in
    let slots : mid.slots ≡ s.slots = ap (λ (x : Slab (Topic g.row.C-Atom.Denot)). x.slots) c.reserve.ensures.rest_kept in
    let empty : slice_index_or s.slots number None ≡ None = sym (ap (λ l. slice_index_or l number None) slots) ∙ c.insert_reserved.ensures.was_vacant in
    subst (λ o. ChangesHearing o number c.args.serial (Some (query_of c.args.query.now, c.args.from)) (states new.slots)) c.self.view_is
    (subst (λ q. ChangesHearing (states s.slots) number c.args.serial (Some (q, c.args.from)) (states new.slots)) c.in_ok-copy.ensures
    (hearing_begun (states s.slots) (states new.slots) number c.args.serial
    (λ other apart. same_shown s.slots new.slots other (c.insert_reserved.ensures.updates.others other apart ∙ ap (λ l. slice_index_or l other None) slots))
    (topic_state v) c.args.from (none_shown s.slots number empty) (some_shown new.slots number v c.insert_reserved.ensures.updates.changed) c.alone.ensures))
