use Rattle.std.proofs.Common.{◌≡◌, ◌+◌, ◌++◌, [], ◌∷◌, length, Some, arith, refl, sym, ap, ◌∙◌, subst, inl, inr}
use Rattle.std.proofs.lemmas.List.{length-map}
use Rattle.key_class.specs.Queries.{query_of}
use Rattle.feed.specs.declared.registration.Registration.{Registration}
use Rattle.feed.specs.Feeds.{FeedState, with_subscription}
use Rattle.feed.specs.Holding.{IsHolding, feed_state, shown}
use Rattle.feed.proofs.Entries.{inserted_last}
use Rattle.feed.proofs.Keeping.{holding_more, holding_restored, state_more}
use Rattle.feed.proofs.feed.Feed.subscribe.Goals as goal

pub invariant_of-self-in_default : goal.invariant_of-self-in_default
invariant_of-self-in_default g c =
    let feed = c.self.inside in
    let held = holding_restored feed.topics feed.passed feed.last feed.registrations.entries c.self.invariant c.enter.new.self c.leave.new.self c.in_ok-topic.topic (feed.last + 1) (Some (query_of c.args.query, c.args.from)) (omega arith)
    c.in_ok-topic.ensures.ok c.leave.ensures in
    subst (λ l. IsHolding c.leave.new.self feed.passed feed.last l) (sym c.in_default.ensures.err) held

pub returns-in_default-clause-full : goal.returns-in_default-clause-full
returns-in_default-clause-full g c =
    let feed = c.self.inside in
    let count : length c.args.self.now.subscriptions ≡ length feed.registrations.entries =
    ap (λ (f : FeedState g.row.C-Atom.Denot). length f.subscriptions) (sym c.self.view_is) ∙ length-map feed.registrations.entries (shown feed.upto feed.passed) in
    let last : c.args.self.now.last ≡ feed.last = ap (λ (f : FeedState g.row.C-Atom.Denot). f.last) (sym c.self.view_is) in (
      λ is. absurd (cc),
      λ full. elim full.1 [
        | inl many ↦ absurd (omega (arith, many, count, c.len.ensures.len, c.if-len-ge-MAX_SUBSCRIPTIONS.false))
        | inr spent ↦ absurd (omega (arith, spent, last, c.if-self-ge-MAX_SERIAL.false))
      ],
    )

pub invariant_of-self-2 : goal.invariant_of-self-2
invariant_of-self-2 g c =
    let feed = c.self.inside in
    let s : Registration g.row.C-Atom.Denot = record { query = c.args.query; from = c.args.from; topic = c.in_ok-topic.topic } in
    let entries : c.insert.new.self.entries ≡ feed.registrations.entries ++ (feed.last + 1, s) ∷ [] =
    c.in-Ok.ensures.entries ∙ inserted_last (feed.last + 1) 0 feed.last feed.registrations.entries s c.self.invariant.rise (omega arith) in
    subst (λ l. IsHolding c.enter.new.self feed.passed (feed.last + 1) l) (sym entries)
    (holding_more feed.topics feed.passed feed.last feed.registrations.entries c.self.invariant c.enter.new.self (feed.last + 1, s) refl c.in_ok-topic.ensures.ok)

pub returns-clause-ok : goal.returns-clause-ok
returns-clause-ok g c =
    let feed = c.self.inside in
    let s : Registration g.row.C-Atom.Denot = record { query = c.args.query; from = c.args.from; topic = c.in_ok-topic.topic } in
    let entries : c.insert.new.self.entries ≡ feed.registrations.entries ++ (feed.last + 1, s) ∷ [] =
    c.in-Ok.ensures.entries ∙ inserted_last (feed.last + 1) 0 feed.last feed.registrations.entries s c.self.invariant.rise (omega arith) in
    ap (feed_state feed.upto feed.passed (feed.last + 1)) entries ∙ state_more feed.upto feed.passed feed.last feed.registrations.entries s c.self.invariant.passed_given
    ∙ ap (λ f. with_subscription f (query_of c.args.query) c.args.from) c.self.view_is
