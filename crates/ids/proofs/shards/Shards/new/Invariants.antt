use Rattle.std.proofs.Common.{◌≡◌, [], vec_len}
use Rattle.std.specs.List.{flat_map}
use Rattle.ids.proofs.shards.Shards.new.Given as goal

abbrev pub invariant-loop : goal.invariant-loop
invariant-loop l = record { count : vec_len l.shards ≡ l.counter; empty : flat_map (λ shard. shard.entries) l.shards.items ≡ [] }
