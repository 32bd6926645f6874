-- Why a map refuses a change.
use Rattle.std.specs.Prelude.{◌≡◌, ◌⊎◌, ℕ, Bool, true, false}
use Rattle.key_class.specs.declared.refusal.Refusal.{Refusal}
use Rattle.key_class.specs.declared.refusal.Refusal.TheVariants as refusal
use Rattle.revisions.specs.declared.change.MapChange.TheVariants.{Remove}
use Rattle.revisions.specs.Maps.{MapState, with_change}

-- why no key is put
abbrev pub RefusesPut : Refusal → Type 0
RefusesPut why = (why ≡ refusal.OutOfMemory) ⊎ (why ≡ refusal.CommitsFull) ⊎ (why ≡ refusal.PagesFull) ⊎ (why ≡ refusal.FindersFull)

-- why a map isn't restored
abbrev pub RefusesRestoring : Refusal → Type 0
RefusesRestoring why = (why ≡ refusal.BadConfig) ⊎ RefusesPut why

-- why no key is taken away
abbrev pub RefusesRemoval : Refusal → Type 0
RefusesRemoval why = (why ≡ refusal.OutOfMemory) ⊎ (why ≡ refusal.CommitsFull) ⊎ (why ≡ refusal.FindersFull)

-- the id has no key any more, if it had one
abbrev pub RemovesIf : {K : Type 0} → ℕ → MapState K → MapState K → Bool → Type 0
RemovesIf id old new true = new ≡ with_change (Remove id) old
RemovesIf id old new false = new ≡ old
