-- Making maps, their snapshots and their feeds for empty handles.
use Rattle.std.specs.Prelude.{◌≡◌, ◌↔◌, ◌⊎◌, ℕ, List, map, Option, Some, None, option_map, slice_get, Result, Err, IfOk, IfErr}
use Rattle.key_class.specs.declared.refusal.Refusal.TheVariants.{BadConfig, OutOfMemory, CommitsFull, PagesFull, FindersFull}
use Rattle.revisions.specs.declared.entry.MapEntry.{MapEntry}
use Rattle.revisions.specs.Maps.{AreApart, restored}
use Rattle.map.specs.declared.config.MapConfig.{MapConfig}
use Rattle.map.specs.Configs.{IsMapConfig}
use Rattle.map.specs.Kept.{KeptMap, kept_map, map_view, new_map}
use Rattle.libgist.specs.declared.denied.Denied.{Denied}
use Rattle.libgist.specs.declared.denied.Denied.TheVariants.{By, BadEnds, BadLimits, NoHandle}
use Rattle.libgist.specs.declared.held.AnyMap.TheVariants as kept
use Rattle.libgist.specs.declared.held.AnyMapFeed.TheVariants as feed
use Rattle.libgist.specs.declared.held.AnyMapSnapshot.TheVariants as snapshot
use Rattle.libgist.specs.declared.held.Held.{Held}
use Rattle.libgist.specs.declared.held.Held.TheVariants as held
use Rattle.libgist.specs.declared.words.KeyWords.{KeyWords}
use Rattle.libgist.specs.declared.words.ShownEntry.{ShownEntry}
use Rattle.libgist.specs.Classes.{IsClass}
use Rattle.libgist.specs.BoxKeys.{box_told}
use Rattle.libgist.specs.IntervalKeys.{interval_told}
use Rattle.libgist.specs.SetKeys.{set_told}
use Rattle.libgist.specs.MapFollowing.{new_map_following}

-- a map without entries, at revision 0, of the class with the number
abbrev pub IsNewMapOf : ℕ → MapConfig → Held → Type 0
IsNewMapOf class config made =
    ((class ≡ 1) × (made ≡ held.Map (kept.Intervals (new_map config 0)))) ⊎ ((class ≡ 2) × (made ≡ held.Map (kept.Boxes (new_map config 0)))) ⊎ ((class ≡ 3) × (made ≡ held.Map (kept.Sets (new_map config 0))))

pub record IsMapCreation (class : ℕ) (config : MapConfig) (made : Result Held Denied) : Type 0 where
  pub ok : IfOk made (IsNewMapOf class config)
  pub no_class : (made ≡ Err (By BadConfig)) ↔ (¬ IsClass class)
  pub bad_limits : (made ≡ Err BadLimits) ↔ (IsClass class × (¬ IsMapConfig config))
  pub refusals : IfErr made (λ why. (why ≡ By BadConfig) ⊎ (why ≡ BadLimits) ⊎ (why ≡ By OutOfMemory))

-- the entry that C hands in, if the ends of its key are in order
abbrev pub entry_told : {K : Type 0} → (KeyWords → Option K) → ShownEntry → Option (MapEntry K)
entry_told key_of shown = option_map (λ key. record { id = shown.id; key = key }) (key_of shown.key)

module _ {K : Type 0} (key_of : KeyWords → Option K) (words : List ShownEntry) where
  -- the entries are those that C hands in
  abbrev pub AreTold : List (MapEntry K) → Type 0
  AreTold entries = map (entry_told key_of) words ≡ map Some entries

  -- the ends of some key are out of order
  pub record HasBadEnds : Type 0 where
    pub place : ℕ
    pub shown : ShownEntry
    pub there : slice_get words place ≡ Some shown
    pub bad : key_of shown.key ≡ None

  -- why no map has these entries: an id comes twice, or there are too many of them
  abbrev pub RefusesEntries : List (MapEntry K) → Denied → Type 0
  RefusesEntries entries why = ((why ≡ By BadConfig) × (¬ AreApart entries)) ⊎ (why ≡ By CommitsFull) ⊎ (why ≡ By PagesFull) ⊎ (why ≡ By FindersFull)

  -- why no map is restored
  abbrev pub RefusesRestoring : Denied → Type 0
  RefusesRestoring why =
      (why ≡ BadLimits) ⊎ (why ≡ BadEnds) ⊎ (why ≡ By OutOfMemory) ⊎ ((entries : List (MapEntry K)) × AreTold entries × RefusesEntries entries why)

  -- a map at a revision has the entries that C hands in
  pub record IsMapOfWords (config : MapConfig) (revision : ℕ) (made : KeptMap K) : Type 0 where
    pub entries : List (MapEntry K)
    pub told : AreTold entries
    pub apart : AreApart entries
    pub is : made ≡ kept_map config (restored revision entries)

  -- a map of these words is held
  pub record HoldsRestored (config : MapConfig) (revision : ℕ) (in_held : KeptMap K → Held) (made : Held) : Type 0 where
    pub kept : KeptMap K
    pub is : made ≡ in_held kept
    pub of_words : IsMapOfWords config revision kept

  pub record IsRestored (config : MapConfig) (revision : ℕ) (in_held : KeptMap K → Held) (made : Result Held Denied) : Type 0 where
    pub ok : IfOk made (HoldsRestored config revision in_held)
    pub bad_limits : (made ≡ Err BadLimits) ↔ (¬ IsMapConfig config)
    pub bad_ends : made ≡ Err BadEnds → HasBadEnds
    pub refusals : IfErr made RefusesRestoring

-- a map at a revision with the entries that C hands in, by the number of its class
pub record IsRestoring (class : ℕ) (config : MapConfig) (revision : ℕ) (words : List ShownEntry) (made : Result Held Denied) : Type 0 where
  pub intervals : class ≡ 1 → IsRestored interval_told words config revision (λ it. held.Map (kept.Intervals it)) made
  pub boxes : class ≡ 2 → IsRestored box_told words config revision (λ it. held.Map (kept.Boxes it)) made
  pub sets : class ≡ 3 → IsRestored set_told words config revision (λ it. held.Map (kept.Sets it)) made
  pub no_class : (¬ IsClass class) → made ≡ Err (By BadConfig)

-- a snapshot of a map
abbrev pub IsMapSnapshotOf : Held → Held → Type 0
IsMapSnapshotOf (held.Map (kept.Intervals old)) made = made ≡ held.MapSnapshot (snapshot.Intervals (map_view old.config.identity old.map))
IsMapSnapshotOf (held.Map (kept.Boxes old)) made = made ≡ held.MapSnapshot (snapshot.Boxes (map_view old.config.identity old.map))
IsMapSnapshotOf (held.Map (kept.Sets old)) made = made ≡ held.MapSnapshot (snapshot.Sets (map_view old.config.identity old.map))
IsMapSnapshotOf other made = ⊥

-- whether it is a map
abbrev pub IsMap : Held → Type 0
IsMap (held.Map it) = Unit {0}
IsMap other = ⊥

pub record IsMapTaken (old : Held) (made : Result Held Denied) : Type 0 where
  pub ok : IfOk made (IsMapSnapshotOf old)
  pub no_map : (made ≡ Err NoHandle) ↔ (¬ IsMap old)
  pub refusals : IfErr made (λ why. (why ≡ NoHandle) ⊎ (why ≡ By OutOfMemory))

-- a snapshot of the map that a handle has
abbrev pub IsMapTakenFrom : Option Held → Result Held Denied → Type 0
IsMapTakenFrom (Some old) made = IsMapTaken old made
IsMapTakenFrom None made = made ≡ Err NoHandle

-- a feed of the map with an identity, without subscriptions, of the class with the number
abbrev pub IsNewMapFeedOf : ℕ → ℕ → Held → Type 0
IsNewMapFeedOf class identity made =
    ((class ≡ 1) × (made ≡ held.MapFeed (feed.Intervals (new_map_following identity)))) ⊎ ((class ≡ 2) × (made ≡ held.MapFeed (feed.Boxes (new_map_following identity)))) ⊎ ((class ≡ 3) × (made ≡ held.MapFeed (feed.Sets (new_map_following identity))))

pub record IsMapBeginning (class : ℕ) (identity : ℕ) (made : Result Held Denied) : Type 0 where
  pub ok : IfOk made (IsNewMapFeedOf class identity)
  pub no_class : (made ≡ Err (By BadConfig)) ↔ (¬ IsClass class)
  pub refusals : IfErr made (λ why. (why ≡ By BadConfig) ⊎ (why ≡ By OutOfMemory))
