-- How large a storm may be.
use Rattle.std.specs.Prelude.{ℕ, ◌+◌, ◌≤◌, min}
use Rattle.key_class.specs.Limits.{most_room, most_seats}
use Rattle.storm.specs.declared.limits.StormSize.{StormSize}

-- how many threads receive for the subscribers
abbrev pub hosts_of : StormSize → ℕ
hosts_of s = min s.subscribers 4

-- how many feeds there are, each with a seat
abbrev pub feeds_of : StormSize → ℕ
feeds_of s = min s.subscribers 1

pub record IsStorm (s : StormSize) : Type 0 where
  pub some_writer : 1 ≤ s.writers
  pub writers : s.writers ≤ 32
  pub inserts : s.inserts ≤ 1000
  pub deletes : s.deletes ≤ s.inserts
  pub readers : s.readers ≤ 32
  pub lookers : s.lookers ≤ 32
  pub subscribers : s.subscribers ≤ 1000
  pub clients : s.writers + s.readers + s.lookers + hosts_of s ≤ most_seats
  pub some_room : 1 ≤ s.room
  pub room : s.room ≤ most_room
  pub some_pump : 1 ≤ s.pumps
  pub pumps : s.pumps ≤ 8
  pub sweeps : s.sweeps ≤ 1000
