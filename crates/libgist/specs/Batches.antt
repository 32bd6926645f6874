-- The same call for each member of a list, until one is refused; the calls that were done are counted.
use Rattle.std.specs.Prelude.{◌≡◌, ℕ, ◌<◌, ◌⊎◌, List, [], ◌∷◌, length, take, slice_get, Some, Result, Ok, Err, IfOk, IfErr}
use Rattle.libgist.specs.declared.denied.Denied.{Denied}

module _ {E S : Type 0} (one : E → S → Result ℕ Denied → S → Type 0) where
  -- each call was done, one after the other
  abbrev pub DoesAll : List E → S → S → Type 0
  DoesAll [] old new = new ≡ old
  DoesAll (it ∷ its) old new = (mid : S) × ((n : ℕ) × one it old (Ok n) mid) × DoesAll its mid new

  -- the call at a place, which isn't the first, is refused for some reason
  pub record RefusesAt (all : List E) (place : ℕ) (old : S) (new : S) : Type 0 where
    pub later : 0 < place
    pub it : E
    pub there : slice_get all place ≡ Some it
    pub why : Denied
    pub refused : one it old (Err why) new

  -- the first calls were done, and then none is left, or the next is refused
  pub record DoesFirst (all : List E) (old : S) (number : ℕ) (new : S) : Type 0 where
    pub last_done : S
    pub done : DoesAll (take number all) old last_done
    pub ended : ((number ≡ length all) × (new ≡ last_done)) ⊎ RefusesAt all number last_done new

  -- the calls are made in order; all are refused if the first is
  pub record IsBatch (all : List E) (old : S) (answer : Result ℕ Denied) (new : S) : Type 0 where
    pub ok : IfOk answer (λ n. DoesFirst all old n new)
    pub err : IfErr answer (λ why. (it : E) × (slice_get all 0 ≡ Some it) × one it old (Err why) new)
