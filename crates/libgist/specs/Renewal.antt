-- Renewal: a new store made of the rows that are live in a snapshot.
use Rattle.std.specs.Prelude.{◌≡◌, ◌↔◌, ◌⊎◌, ℕ, ◌+◌, ◌<◌, ◌≤◌, List, [], length, Option, Some, None, Result, Ok, Err, IfOk, IfErr}
use Rattle.key_class.specs.declared.refusal.Refusal.TheVariants.{CommitsFull, PagesFull, OutOfMemory}
use Rattle.change_list.specs.Changes.{rows}
use Rattle.change_list.specs.Configs.{IsWithinLimits}
use Rattle.change_list.specs.declared.config.Config.{Config}
use Rattle.store.specs.Renewing.{IsRenewed, numbers_of_living}
use Rattle.libgist.specs.declared.denied.Denied.{Denied}
use Rattle.libgist.specs.declared.denied.Denied.TheVariants.{By, BadLimits, NoHandle}
use Rattle.libgist.specs.declared.held.AnyStore.TheVariants as store
use Rattle.libgist.specs.declared.held.AnySnapshot.TheVariants as snapshot
use Rattle.libgist.specs.declared.held.Held.{Held}
use Rattle.libgist.specs.declared.held.Held.TheVariants as held
use Rattle.libgist.specs.declared.renewal.Anew.{Anew}
use Rattle.search.specs.Fills.{written_over}

-- whether it is a snapshot
abbrev pub IsSnapshot : Held → Type 0
IsSnapshot (held.Snapshot it) = Unit {0}
IsSnapshot other = ⊥

-- a store of the same class has exactly the rows that are live in the snapshot
abbrev pub IsRenewedFrom : Config → Held → Held → Type 0
IsRenewedFrom config (held.Snapshot (snapshot.Intervals commits)) (held.Store (store.Intervals made)) = IsRenewed config commits made
IsRenewedFrom config (held.Snapshot (snapshot.Boxes commits)) (held.Store (store.Boxes made)) = IsRenewed config commits made
IsRenewedFrom config (held.Snapshot (snapshot.Sets commits)) (held.Store (store.Sets made)) = IsRenewed config commits made
IsRenewedFrom config old made = ⊥

-- the numbers of the rows that are live in a snapshot
abbrev pub numbers_in : Held → List ℕ
numbers_in (held.Snapshot (snapshot.Intervals commits)) = numbers_of_living commits
numbers_in (held.Snapshot (snapshot.Boxes commits)) = numbers_of_living commits
numbers_in (held.Snapshot (snapshot.Sets commits)) = numbers_of_living commits
numbers_in other = []

-- how many rows are live in a snapshot
abbrev pub living_in : Held → ℕ
living_in (held.Snapshot (snapshot.Intervals commits)) = length (rows commits)
living_in (held.Snapshot (snapshot.Boxes commits)) = length (rows commits)
living_in (held.Snapshot (snapshot.Sets commits)) = length (rows commits)
living_in other = 0

-- why so many rows can't be renewed: limits out of range or too small for them, or no memory
abbrev pub RefusesRenewing : Config → ℕ → Denied → Type 0
RefusesRenewing config living why =
    (why ≡ BadLimits)
    ⊎ ((why ≡ By CommitsFull) × (config.commits < living))
    ⊎ ((why ≡ By PagesFull) × (config.pages ≤ living + 1))
    ⊎ (why ≡ By OutOfMemory)

-- a store is made of the rows that are live in a snapshot
pub record IsRenewal (config : Config) (old : Held) (made : Result Held Denied) : Type 0 where
  pub ok : IfOk made (IsRenewedFrom config old)
  pub no_snapshot : (made ≡ Err NoHandle) ↔ (¬ IsSnapshot old)
  pub bad : (made ≡ Err BadLimits) ↔ (IsSnapshot old × (¬ IsWithinLimits config))
  pub refusals : IfErr made (λ why. (why ≡ NoHandle) ⊎ RefusesRenewing config (living_in old) why)

-- what was made, without the numbers
abbrev pub stored : Result Anew Denied → Result Held Denied
stored (Ok anew) = Ok anew.store
stored (Err why) = Err why

-- the same for the snapshot that a handle owns
abbrev pub IsRenewalOf : Config → Option Held → Result Held Denied → Type 0
IsRenewalOf config (Some old) made = IsRenewal config old made
IsRenewalOf config None made = made ≡ Err NoHandle

-- the numbers that the rows had are counted, and stand over the first places of a buffer
abbrev pub TellsNumbers : List ℕ → List ℕ → ℕ → Held → Type 0
TellsNumbers before after living old = (after ≡ written_over (numbers_in old) before) × (living ≡ length (numbers_in old))
