use Rattle.std.proofs.Common.{◌≡◌, []}
use Rattle.key_class.specs.Queries.{query_of, matches_query}
use Rattle.change_list.specs.Changes.{changes}
use Rattle.delivery_check.proofs.following.next_place.Given as goal

abbrev pub invariant-loop-place : goal.invariant-loop-place
invariant-loop-place g l = changes (matches_query g.C.KeyClass.rules.is_match (query_of l.query)) l.from l.place l.commits ≡ []
