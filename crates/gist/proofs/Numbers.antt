-- A number that clap read from a text.
use Rattle.std.proofs.Common.{◌≡◌, ◌∙◌, ℕ, List, Option, Some, None, Result, Ok, Err, refl}
use Rattle.std.specs.Option.{unwrap_or}
use Rattle.std.specs.Str.Parse.{ParsesUnsigned}
use Rattle.clap.specs.Words.{ReadsOne, Text}
use Rattle.gist.specs.CommandLine.{NumberRead}

pub number_read : {E : Type 0} (G : List ℕ → Result ℕ E → Type 0) → ((u : List ℕ) (x : Result ℕ E) → G u x → ParsesUnsigned 32 10 u x)
    → (o : Option Text) (usual : ℕ) (r : Option ℕ) (n : ℕ) → (o ≡ None → r ≡ None) → ((t : List ℕ) → o ≡ Some t → ReadsOne G t r)
    → n ≡ unwrap_or r usual → NumberRead o usual n
number_read G only None usual r n none value is = rw (none refl) at is
number_read G only (Some t) usual (Some v) n none value is =
    let parsed = only t (Ok v) (value t refl) in
    λ numeral small. is ∙ parsed.1
number_read G only (Some t) usual None n none value is =
    let failed = value t refl in
    λ numeral small. absurd (only t (Err failed.0) failed.1 (numeral, small))
