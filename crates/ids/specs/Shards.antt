-- Numbers by id in shards, which are hash maps.
use Rattle.std.specs.Prelude.{◌≡◌, ◌≢◌, ℕ, ◌*◌, ◌/◌, ◌%◌, ◌^◌, List, length, nat_eq, Option, None, option_and_then, flat_map, slice_get}
use Rattle.std.specs.declared.hash.FoldHasher.{FoldHasher}
use Rattle.std.specs.declared.hash.BuildHasherDefault.{BuildHasherDefault}
use Rattle.std.specs.FinMap.{FinMap, from_entries}
use Rattle.std.specs.HashMap.{HashMap, get}
use Rattle.std.specs.Ordering.{nat_cmp}
use Rattle.ids.specs.declared.shards.TheConstants.{GOLDEN, SHARDS}

abbrev pub Shard : Type 0
Shard = HashMap ℕ ℕ (BuildHasherDefault FoldHasher)

-- the place of an id's shard
abbrev pub shard_of : ℕ → ℕ
shard_of id = id * GOLDEN % 2 ^ 64 / 2 ^ 52

-- the number that an id has in the shard at a place
abbrev pub number_at : List Shard → ℕ → ℕ → Option ℕ
number_at shards place id = option_and_then (λ shard. get nat_eq shard id) (slice_get shards place)

-- the numbers in all shards
abbrev pub numbers_in : List Shard → FinMap nat_cmp ℕ
numbers_in shards = from_entries (flat_map (λ shard. shard.entries) shards)

-- an id has a number in no other shard than its own
pub record ArePlaced (shards : List Shard) : Type 0 where
  pub count : length shards ≡ SHARDS
  pub apart : (place id : ℕ) → shard_of id ≢ place → number_at shards place id ≡ None
