use Rattle.std.proofs.Common.{ap, inl, inr, ◌∙◌}
use Rattle.std.specs.List.{list_any}
use Rattle.feed.specs.Feeds.{FeedState, needs_before}
use Rattle.feed.proofs.Compacting.{MayNeedAfter, any_needed}
use Rattle.feed.proofs.feed.Feed.is_compacted.Goals as goal
use Rattle.feed.proofs.feed.Feed.is_compacted.Goals.{then-self-oldest, else-self-oldest}

pub returns : goal.returns
returns g c =
    let feed = c.self.inside in
    let oldest = c.args.oldest in
    let may : MayNeedAfter feed.upto feed.passed oldest c.if-self-oldest.passed = elim c.if-self-oldest.branch [
      | then-self-oldest w ↦ inl (w.if-self-oldest.true, w.passed-is)
      | else-self-oldest w ↦ inr (w.if-self-oldest.false, w.passed-is)
    ] in
    c.any_before.ensures
    ∙ any_needed feed.upto feed.passed oldest c.if-self-oldest.passed may 0 feed.last feed.registrations.entries c.self.invariant.rise
    ∙ ap (λ (f : FeedState g.row.C-Atom.Denot). list_any (needs_before oldest) f.subscriptions) c.self.view_is
