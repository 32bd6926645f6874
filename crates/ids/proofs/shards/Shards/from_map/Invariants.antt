use Rattle.std.proofs.Common.{◌≡◌, map}
use Rattle.std.specs.FinMap.{from_entries}
use Rattle.std.specs.Map.Iter.{deref_pair}
use Rattle.ids.proofs.shards.Shards.from_map.Given as goal

abbrev pub invariant-loop-id : goal.invariant-loop-id
invariant-loop-id l = l.shards ≡ from_entries (map deref_pair l.yielded)
