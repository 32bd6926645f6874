-- What follows where no test fails.
use Rattle.std.proofs.Common.{◌≡◌, Bool, true, false, not, ◌||◌, List, [], ◌∷◌, None, refl}
use Rattle.key_class.specs.declared.refusal.Refusal.{Refusal}
use Rattle.split.specs.Tests.{first_failing}

-- no test fails
abbrev pub Passes : List (Bool × Refusal) → Type 0
Passes [] = Unit {0}
Passes ((fails, why) ∷ tests) = (fails ≡ false) × Passes tests

pub all_pass : (tests : List (Bool × Refusal)) → first_failing tests ≡ None → Passes tests
all_pass [] e = tt
all_pass ((true, why) ∷ tests) e = cc
all_pass ((false, why) ∷ tests) e = (refl, all_pass tests e)

pub not_false : (b : Bool) → not b ≡ false → b ≡ true
not_false true e = refl
not_false false e = cc

pub or_false : (a b : Bool) → (a || b) ≡ false → (a ≡ false) × (b ≡ false)
or_false true b e = cc
or_false false b e = (refl, e)
