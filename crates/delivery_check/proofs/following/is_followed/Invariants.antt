use Rattle.std.proofs.Common.{◌↔◌, drop}
use Rattle.key_class.specs.Queries.{query_of, matches_query}
use Rattle.delivery_check.specs.Following.{IsFollowed, IsNextPlace}
use Rattle.delivery_check.proofs.following.is_followed.Given as goal

abbrev pub invariant-loop-item : goal.invariant-loop-item
invariant-loop-item g l =
    let wanted = matches_query g.C.KeyClass.rules.is_match (query_of l.query) in
    record {
      next : IsNextPlace wanted l.commits l.position l.next;
      same : IsFollowed wanted l.opened l.commits l.items ↔ IsFollowed wanted l.position l.commits (drop l.item-index l.items);
    }
