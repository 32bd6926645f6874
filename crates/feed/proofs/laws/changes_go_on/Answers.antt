use Rattle.std.proofs.Common.{true}
use Rattle.change_list.proofs.Resuming.{goes_on, listing_stays}
use Rattle.feed.proofs.laws.changes_go_on.Goals as goal

pub returns : goal.returns
returns g c = λ wanted s n later commits further given resumed first next.
    goes_on wanted true s n later _ given resumed (listing_stays wanted true s n commits further given first) next
