use Rattle.std.proofs.Common.{◌≡◌, subst}
use Rattle.feed.specs.Feeds.{items_under}
use Rattle.feed.specs.Listening.{begin_of, item_to, told_after}
use Rattle.feed.proofs.Listening.{told_once}
use Rattle.feed.proofs.listeners.Listeners.tell.Goals as goal

pub returns-clause-once : goal.returns-clause-once
returns-clause-once g c serial =
    let number = c.args.number in
    let item = c.args.item in
    let listeners = c.self.inside in
    subst (λ l. items_under serial (item_to number item l) ≡ told_after number item (begin_of l serial)) c.self.view_is
    (told_once number item serial listeners.first.serial listeners.first.from listeners.others.entries c.self.invariant)
