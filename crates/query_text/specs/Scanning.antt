-- What the scanner sees at the front of bytes.
use Rattle.std.specs.Prelude.{ℕ, ◌<◌, ◌≤◌, Bool, true, false, List, length, take}
use Rattle.query_text.specs.declared.lexeme.Kind.{Kind}
use Rattle.query_text.specs.declared.lexeme.Kind.TheVariants as kind
use Rattle.query_text.specs.declared.lexeme.Lexeme.{Lexeme}
use Rattle.query_text.specs.declared.scanner.Leading.{Leading}
use Rattle.query_text.specs.declared.scanner.Leading.TheVariants.{Nothing, Space, NoToken, Found}
use Rattle.query_text.specs.Tokens.{Beginning, nothing, space, no_token, begins, token_of}

abbrev pub lexeme : Kind → ℕ → ℕ → Lexeme
lexeme k p n = record { kind = k; place = p; len = n }

-- what the scanner saw at the front of the bytes
abbrev pub seen_first : List ℕ → Leading → Beginning
seen_first bs Nothing = nothing
seen_first bs Space = space
seen_first bs NoToken = no_token
seen_first bs (Found k n) = begins (token_of k (take n bs)) n

abbrev pub FitsIn : Leading → List ℕ → Type 0
FitsIn (Found k n) bs = (0 < n) × (n ≤ length bs)
FitsIn Nothing bs = Unit {0}
FitsIn _ bs = 0 < length bs

abbrev pub kind_glues : Kind → Bool
kind_glues kind.Word = true
kind_glues kind.Number = true
kind_glues _ = false
