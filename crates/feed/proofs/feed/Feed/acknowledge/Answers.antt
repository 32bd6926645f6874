use Rattle.std.proofs.Common.{◌≤◌, sym, ap, ◌∙◌, subst}
use Rattle.feed.specs.Feeds.{FeedState, acknowledged}
use Rattle.feed.proofs.Advancing.{is_acknowledged}
use Rattle.feed.proofs.feed.Feed.acknowledge.Goals as goal

pub returns : goal.returns
returns g c =
    let feed = c.self.inside in
    let further = subst (λ (f : FeedState _). f.upto ≤ c.args.upto) (sym c.self.view_is) c.requires in
    is_acknowledged feed.upto feed.passed feed.last c.args.upto feed.registrations.entries c.self.invariant.rise further ∙ ap (acknowledged c.args.upto) c.self.view_is
