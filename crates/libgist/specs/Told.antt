-- How C gets an answer: as a code, and as values written through pointers.
use Rattle.std.specs.Prelude.{◌≡◌, ℕ, Result, Ok, Err}
use Rattle.key_class.specs.declared.refusal.Refusal.TheVariants.{QueryText}
use Rattle.libgist.specs.declared.denied.Denied.{Denied}
use Rattle.libgist.specs.declared.denied.Denied.TheVariants.{By}
use Rattle.libgist.specs.Denials.{number_told}

module _ {V : Type 0} where
  -- 0, or the number of the refusal
  abbrev pub code_of : Result V Denied → ℕ
  code_of (Ok value) = 0
  code_of (Err why) = number_told why

  -- the value; if there is none, what was there before
  abbrev pub value_or : Result V Denied → V → V
  value_or (Ok value) before = value
  value_or (Err why) before = before

  -- the place of the first wrong byte, if a query's text is refused; otherwise what was there before
  abbrev pub fault_or : Result V Denied → ℕ → ℕ
  fault_or (Err (By (QueryText place))) before = place
  fault_or answer before = before

  -- the code is that of an answer of which this holds
  abbrev pub TellsCode : ℕ → (Result V Denied → Type 0) → Type 0
  TellsCode code holds = (answer : Result V Denied) × (code ≡ code_of answer) × holds answer

  -- the same, and its value is written
  abbrev pub Tells : ℕ → V → V → (Result V Denied → Type 0) → Type 0
  Tells code before after holds = TellsCode code (λ answer. (after ≡ value_or answer before) × holds answer)

  -- the same, and the place of the first wrong byte is written if its query's text is refused
  abbrev pub TellsFault : ℕ → ℕ → (Result V Denied → Type 0) → Result V Denied → Type 0
  TellsFault before after holds answer = (after ≡ fault_or answer before) × holds answer
