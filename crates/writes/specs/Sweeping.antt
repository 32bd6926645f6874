-- What sweeps of leaves remove.
use Rattle.std.specs.Prelude.{◌≡◌, ℕ, ◌+◌, Bool, false, nat_lt, List, ◌++◌, length, filter, IsPermutation}
use Rattle.std.specs.List.{AllByRecursion}
use Rattle.collector.specs.Horizons.{IsHorizon}
use Rattle.world.specs.Resting.{deaths}
use Rattle.world.specs.States.{State}

-- a death after the horizon: a scan that began before it may need the row
abbrev pub is_past : ℕ → ℕ × ℕ → Bool
is_past horizon death = nat_lt horizon death.1

module _ {K A : Type 0} where
  -- all dead rows that no scan needs were removed, and there were this many
  pub record SweepsAll (old : State K A) (number : ℕ) (new : State K A) : Type 0 where
    pub horizon : ℕ
    pub is : IsHorizon (length old.commits) old.cursors horizon
    pub counted : number + length (deaths new.search.tree) ≡ length (deaths old.search.tree)
    pub left : IsPermutation (filter (is_past horizon) (deaths old.search.tree)) (deaths new.search.tree)

  -- some of the dead rows that no scan needs were removed
  pub record SweepsSome (old new : State K A) : Type 0 where
    pub horizon : ℕ
    pub is : IsHorizon (length old.commits) old.cursors horizon
    pub gone : List (ℕ × ℕ)
    pub parted : IsPermutation (deaths old.search.tree) (gone ++ deaths new.search.tree)
    pub unneeded : AllByRecursion (λ d. is_past horizon d ≡ false) gone
