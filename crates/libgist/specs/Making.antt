-- Making what an empty handle is to own.
use Rattle.std.specs.Prelude.{◌≡◌, ◌≢◌, ◌↔◌, ◌⊎◌, ℕ, ◌==◌, true, false, List, Option, Some, None, Result, Ok, Err, IfOk, IfErr, OnOk, if◌then◌else◌}
use Rattle.key_class.specs.declared.refusal.Refusal.TheVariants.{BadConfig, OutOfMemory, QueryText}
use Rattle.key_class.specs.declared.pred.Pred.{Pred}
use Rattle.key_class.specs.declared.pred.Pred.TheVariants.{Atom}
use Rattle.key_class.specs.Queries.{query_of}
use Rattle.query_text.specs.ClassTexts.{Texts}
use Rattle.query_text.specs.Grammar.{SpellsText, RefusesText}
use Rattle.query_text.specs.IntervalTexts.{interval_texts}
use Rattle.query_text.specs.BoxTexts.{box_texts}
use Rattle.query_text.specs.SetTexts.{set_texts}
use Rattle.change_list.specs.Configs.{IsWithinLimits}
use Rattle.change_list.specs.declared.config.Config.{Config}
use Rattle.libgist.specs.declared.words.KeyWords.{KeyWords}
use Rattle.libgist.specs.declared.denied.Denied.{Denied}
use Rattle.libgist.specs.declared.denied.Denied.TheVariants.{By, BadLimits, NoHandle}
use Rattle.libgist.specs.declared.held.AnyQuery.TheVariants as query
use Rattle.libgist.specs.declared.held.Held.{Held}
use Rattle.libgist.specs.declared.held.Held.TheVariants as held
use Rattle.libgist.specs.Classes.{IsClass, IsNewOf, IsSnapshotOf, IsStore}
use Rattle.libgist.specs.Denials.{number_told}
use Rattle.libgist.specs.IntervalKeys.{interval_told}
use Rattle.libgist.specs.BoxKeys.{box_told}
use Rattle.libgist.specs.SetKeys.{set_told}
use Rattle.libgist.specs.Owning.{is_held}
use Rattle.libgist.specs.Relations.{atom_for}

-- an empty handle got what was made; or there was no memory for it, or it wasn't made, and the handle stays empty
pub record Settles (made : Result Held Denied) (code : ℕ) (new : Option Held) : Type 0 where
  pub settled : code ≡ 0 → (it : Held) × (made ≡ Ok it) × (new ≡ Some it)
  pub refused : code ≢ 0 → new ≡ None
  pub unmade : IfErr made (λ why. code ≡ number_told why)
  pub wanting : OnOk made ((code ≡ 0) ⊎ (code ≡ 1))

-- something of which this holds was made for the handle
pub record SettlesSome (holds : Result Held Denied → Type 0) (code : ℕ) (new : Option Held) : Type 0 where
  pub made : Result Held Denied
  pub is : holds made
  pub settles : Settles made code new

-- something is made for a handle; it is refused if the handle isn't empty
pub record Makes (holds : Result Held Denied → Type 0) (old new : Option Held) (code : ℕ) : Type 0 where
  pub full : is_held old ≡ true → (code ≡ 2) × (new ≡ old)
  pub made : is_held old ≡ false → SettlesSome holds code new

-- an empty store
pub record IsCreation (class : ℕ) (config : Config) (made : Result Held Denied) : Type 0 where
  pub ok : IfOk made (IsNewOf class config)
  pub no_class : (made ≡ Err (By BadConfig)) ↔ (¬ IsClass class)
  pub bad_limits : (made ≡ Err BadLimits) ↔ (IsClass class × (¬ IsWithinLimits config))
  pub refusals : IfErr made (λ why. (why ≡ By BadConfig) ⊎ (why ≡ BadLimits) ⊎ (why ≡ By OutOfMemory))

-- a snapshot of a store
pub record IsTaken (old : Held) (made : Result Held Denied) : Type 0 where
  pub ok : IfOk made (IsSnapshotOf old)
  pub no_store : (made ≡ Err NoHandle) ↔ (¬ IsStore old)
  pub refusals : IfErr made (λ why. (why ≡ NoHandle) ⊎ (why ≡ By OutOfMemory))

-- a snapshot of the store that a handle has
abbrev pub IsTakenFrom : Option Held → Result Held Denied → Type 0
IsTakenFrom (Some old) made = IsTaken old made
IsTakenFrom None made = made ≡ Err NoHandle

module _ {K A : Type 0} (texts : Texts K A) (text : List ℕ) (in_held : Pred A → Held) where
  -- the query that a text spells is held
  pub record HoldsSpelled (made : Held) : Type 0 where
    pub pred : Pred A
    pub is : made ≡ in_held pred
    pub spelled : SpellsText texts text (query_of pred)

  -- a query of a text
  pub record IsSpelledBy (made : Result Held Denied) : Type 0 where
    pub ok : IfOk made HoldsSpelled
    pub refused : (place : ℕ) → made ≡ Err (By (QueryText place)) → RefusesText texts text place
    pub refusals : IfErr made (λ why. (why ≡ By OutOfMemory) ⊎ ((place : ℕ) × (why ≡ By (QueryText place))))

-- a query of a text, by the number of its class
pub record IsPrepared (class : ℕ) (text : List ℕ) (made : Result Held Denied) : Type 0 where
  pub intervals : class ≡ 1 → IsSpelledBy interval_texts text (λ pred. held.Query (query.Intervals pred)) made
  pub boxes : class ≡ 2 → IsSpelledBy box_texts text (λ pred. held.Query (query.Boxes pred)) made
  pub sets : class ≡ 3 → IsSpelledBy set_texts text (λ pred. held.Query (query.Sets pred)) made
  pub no_class : (¬ IsClass class) → made ≡ Err (By BadConfig)

-- an atom as a query, in the form that a handle owns
abbrev pub held_atom : {A : Type 0} → (Pred A → Held) → Result A Denied → Result Held Denied
held_atom in_held (Ok wanted) = Ok (in_held (Atom wanted))
held_atom in_held (Err why) = Err why

-- the query for the keys that have a relation to a key; class and relation are given by their numbers
abbrev pub asked_of : ℕ → ℕ → KeyWords → Result Held Denied
asked_of class relation words =
    if class == 1 then held_atom (λ pred. held.Query (query.Intervals pred)) (atom_for interval_texts interval_told relation words)
    else (if class == 2 then held_atom (λ pred. held.Query (query.Boxes pred)) (atom_for box_texts box_told relation words)
    else (if class == 3 then held_atom (λ pred. held.Query (query.Sets pred)) (atom_for set_texts set_told relation words)
    else Err (By BadConfig)))
