use Rattle.std.proofs.Common.{◌≡◌, Some, None, refl, sym, ap, ◌∙◌, subst}
use Rattle.std.specs.Option.{option_copied_mut}
use Rattle.std.specs.Prelude.{slice_index_or}
use Rattle.std.proofs.lemmas.Bool.{OnFalse_from, OnTrue_at, OnTrue_from}
use Rattle.slab.specs.Slab.{with_value}
use Rattle.feed.specs.declared.topics.Topic.{Topic}
use Rattle.feed.specs.Hearing.{ChangesHearing, topic_at}
use Rattle.feed.proofs.Slots.{listeners_changed, same_elsewhere, states, written}
use Rattle.feed.proofs.topics.Topics.leaves_others.Goals as goal

pub returns-clause-left : goal.returns-clause-left
returns-clause-left g c =
    let s = c.self.inside.topics in
    let number = c.args.number in
    let serial = c.args.serial in
    let t = c.in-Some.topic.now in
    let u : Topic g.row.C-Atom.Denot = record { query = t.query; listeners = c.remove.new.self } in
    let n = with_value s number u in
    let was : slice_index_or s.slots number None ≡ Some t = sym c.get_mut.follows ∙ ap option_copied_mut c.in-Some.is in
    OnTrue_from c.remove.result _
    (λ left.
    subst (λ o. ChangesHearing o number serial None (states n.slots)) c.self.view_is
    (listeners_changed s n number serial t u None was (written s number t u was) refl (OnTrue_at left c.remove.ensures.left)))

pub returns-clause-unchanged : goal.returns-clause-unchanged
returns-clause-unchanged g c =
    let s = c.self.inside.topics in
    let number = c.args.number in
    let t = c.in-Some.topic.now in
    let u : Topic g.row.C-Atom.Denot = record { query = t.query; listeners = c.remove.new.self } in
    let n = with_value s number u in
    let was : slice_index_or s.slots number None ≡ Some t = sym c.get_mut.follows ∙ ap option_copied_mut c.in-Some.is in
    OnFalse_from c.remove.result _
    (λ only other apart.
    subst (λ o. topic_at (states n.slots) other ≡ topic_at o other) c.self.view_is (same_elsewhere s n number (Some u) (written s number t u was) other apart))
