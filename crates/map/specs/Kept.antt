-- A map that forgets its older changes as it goes on, and what a snapshot has of it.
use Rattle.std.specs.Prelude.{◌≡◌, ℕ, ◌+◌, Bool, true, false, Option, Some, None}
use Rattle.revisions.specs.declared.change.MapChange.{MapChange}
use Rattle.revisions.specs.Maps.{Forgets, MapState, empty_map, revision_of, with_change}
use Rattle.map.specs.declared.config.MapConfig.{MapConfig}
use Rattle.map.specs.Rolls.{RollState}
use Rattle.map.specs.Successors.{IsSuccessor}

pub record KeptMap (K : Type 0) : Type 0 where
  pub map : MapState K
  pub config : MapConfig

-- a map at some time, as a snapshot has it
pub record MapView (K : Type 0) : Type 0 where
  pub map : MapState K
  -- that of its map
  pub identity : ℕ

module _ {K : Type 0} where
  abbrev pub kept_map : MapConfig → MapState K → KeptMap K
  kept_map config map = record { map = map; config = config }

  abbrev pub map_view : ℕ → MapState K → MapView K
  map_view identity map = record { map = map; identity = identity }

  -- a map without entries, at a revision
  abbrev pub new_map : MapConfig → ℕ → KeptMap K
  new_map config revision = kept_map config (empty_map revision)

  -- it may have forgotten older changes, and nothing else is changed
  pub record ForgetsOnly (old new : KeptMap K) : Type 0 where
    pub config : new.config ≡ old.config
    pub forgets : Forgets old.config.history old.map new.map

  -- it makes a change, and may have forgotten older ones
  pub record Changes (change : MapChange K) (old new : KeptMap K) : Type 0 where
    pub config : new.config ≡ old.config
    pub between : MapState K
    pub forgets : Forgets old.config.history old.map between
    pub is : new.map ≡ with_change change between

  -- it makes a change, whose revision is given, if a test says so
  abbrev pub ChangesIf : MapChange K → Bool → KeptMap K → KeptMap K → Option ℕ → Type 0
  ChangesIf change true old new given = Changes change old new × (given ≡ Some (revision_of old.map + 1))
  ChangesIf change false old new given = ForgetsOnly old new × (given ≡ None)

-- what is in the making, if anything is, is the map's successor
abbrev pub IsKept : {K : Type 0} → MapState K → Option (RollState K × MapState K) → Type 0
IsKept map (Some next) = IsSuccessor map next.0 next.1
IsKept map None = Unit {0}
