use Rattle.std.proofs.Common.{◌≡◌, ap, inl, inr, ◌∙◌}
use Rattle.std.proofs.lemmas.Result.{IfOk-weaker}
use Rattle.feed.specs.Feeds.{compacted_serials}
use Rattle.feed.proofs.Compacting.{MayNeedAfter, serials_needed}
use Rattle.feed.proofs.feed.Feed.compacted.Goals as goal
use Rattle.feed.proofs.feed.Feed.compacted.Goals.{then-self-oldest, else-self-oldest}

pub returns-clause-ok : goal.returns-clause-ok
returns-clause-ok g c =
    let feed = c.self.inside in
    let oldest = c.args.oldest in
    let may : MayNeedAfter feed.upto feed.passed oldest c.if-self-oldest.passed = elim c.if-self-oldest.branch [
      | then-self-oldest w ↦ inl (w.if-self-oldest.true, w.passed-is)
      | else-self-oldest w ↦ inr (w.if-self-oldest.false, w.passed-is)
    ] in
    IfOk-weaker c.serials_before.result _ (λ serials. serials.items ≡ compacted_serials oldest c.args.self.now)
    (λ serials is.
    is
    ∙ serials_needed feed.upto feed.passed oldest c.if-self-oldest.passed may 0 feed.last feed.registrations.entries c.self.invariant.rise
    ∙ ap (compacted_serials oldest) c.self.view_is)
    c.serials_before.ensures.ok
