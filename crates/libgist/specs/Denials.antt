-- The refusals of the library's calls by number, and how a refusal of a call below is passed on.
use Rattle.std.specs.Prelude.{◌≡◌, ℕ, Result, Ok, Err}
use Rattle.key_class.specs.declared.refusal.Refusal.{Refusal}
use Rattle.key_class.specs.Refusals.{number_of}
use Rattle.libgist.specs.declared.denied.Denied.{Denied}
use Rattle.libgist.specs.declared.denied.Denied.TheVariants.{By, BadEnds, OtherClass, NoHandle, BadLimits}

-- the number by which C knows the refusal
abbrev pub number_told : Denied → ℕ
number_told (By why) = number_of why
number_told BadEnds = 26
number_told OtherClass = 27
number_told NoHandle = 28
number_told BadLimits = 29

module _ {V : Type 0} where
  -- the answer of a call below, with its refusal wrapped
  abbrev pub passed_on : Result V Refusal → Result V Denied
  passed_on (Ok value) = Ok value
  passed_on (Err why) = Err (By why)

  -- an answer of a call below, of which this holds, is passed on
  abbrev pub PassesOn : (Result V Refusal → Type 0) → Result V Denied → Type 0
  PassesOn holds answer = (below : Result V Refusal) × (answer ≡ passed_on below) × holds below
