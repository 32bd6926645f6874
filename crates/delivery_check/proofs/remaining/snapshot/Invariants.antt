use Rattle.std.proofs.Common.{take}
use Rattle.key_class.specs.Queries.{query_of, matches_query}
use Rattle.delivery_check.specs.Remaining.{IsRoll}
use Rattle.delivery_check.proofs.remaining.snapshot.Given as goal

abbrev pub invariant-loop-place : goal.invariant-loop-place
invariant-loop-place g l = IsRoll (matches_query g.C.KeyClass.rules.is_match (query_of l.query)) (take l.place l.commits) l.slots.items
