-- That a text has one meaning.
use Rattle.std.specs.Prelude.{◌≡◌}

-- any two values with the property are the same
abbrev pub AtMostOne : {A : Type 0} → (A → Type 0) → Type 0
AtMostOne {A = A} P = (a b : A) → P a → P b → a ≡ b
