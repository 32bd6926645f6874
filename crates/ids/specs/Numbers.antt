-- Numbers by id in one hash map or in shards.
use Rattle.std.specs.Prelude.{ℕ, ◌≤◌}
use Rattle.std.specs.FinMap.{FinMap, from_entries}
use Rattle.std.specs.HashMap.{hash_map_len}
use Rattle.std.specs.Ordering.{nat_cmp}
use Rattle.ids.specs.declared.ids.Numbers.{Numbers}
use Rattle.ids.specs.declared.ids.Numbers.TheVariants.{Few, Many}
use Rattle.ids.specs.declared.ids.TheConstants.{FEW}

abbrev pub numbers_of : Numbers → FinMap nat_cmp ℕ
numbers_of (Few few) = from_entries few.entries
numbers_of (Many shards) = shards

-- one hash map has at most `FEW` ids
abbrev pub IsWithinFew : Numbers → Type 0
IsWithinFew (Few few) = hash_map_len few ≤ FEW
IsWithinFew (Many _) = Unit {0}
