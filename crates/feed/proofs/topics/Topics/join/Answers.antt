use Rattle.std.proofs.Common.{◌≡◌, Some, None, refl, sym, ap, ◌∙◌, subst}
use Rattle.std.specs.Option.{option_copied_mut}
use Rattle.std.specs.Prelude.{slice_index_or}
use Rattle.std.proofs.lemmas.Result.{on_ok_weaker}
use Rattle.slab.specs.Slab.{with_value}
use Rattle.key_class.specs.Queries.{query_of}
use Rattle.feed.specs.declared.topics.Topic.{Topic}
use Rattle.feed.specs.Hearing.{ChangesHearing}
use Rattle.feed.proofs.Slots.{listeners_changed, query_there, states, written}
use Rattle.feed.proofs.topics.Topics.join.Goals as goal

pub returns-clause-ok : goal.returns-clause-ok
returns-clause-ok g c =
    let s = c.self.inside.topics in
    let number = c.args.number in
    let serial = c.args.serial in
    let from = c.args.from in
    let t = c.in-Some.topic.now in
    let u : Topic g.row.C-Atom.Denot = record { query = t.query; listeners = c.insert.new.self } in
    let n = with_value s number u in
    let was : slice_index_or s.slots number None ≡ Some t = sym c.get_mut.follows ∙ ap option_copied_mut c.in-Some.is in
    let query = query_there s number t c.args.self.now (query_of c.args.query.now) c.self.view_is was c.requires in
    on_ok_weaker c.insert.result
    (λ changes.
    subst (λ o. ChangesHearing o number serial (Some (query_of c.args.query.now, from)) (states n.slots)) c.self.view_is
    (subst (λ q. ChangesHearing (states s.slots) number serial (Some (q, from)) (states n.slots)) query
    (listeners_changed s n number serial t u (Some from) was (written s number t u was) refl changes)))
    c.insert.ensures.ok
