-- Keys at the front of tokens.
use Rattle.std.specs.Prelude.{◌≡◌, ℕ, ℤ, ◌+◌, ◌<◌, ⊤, Bool, true, false, T, List, [], ◌∷◌, ◌++◌, length, Option, Some, None, Result, Ok, Err, MatchResult, if◌then◌else◌}
use Rattle.std.specs.Borrow.{Bor}
use Rattle.query_text.specs.declared.lexeme.Lexeme.{Lexeme}
use Rattle.query_text.specs.Tokens.{Token, open_bracket, close_bracket, open_brace, close_brace, Placed, placed, number_within, Cuts}

-- The value at the front of the tokens, with the tokens after it; or the place of the first fault.
abbrev pub Reading : Type 0 → Type 0
Reading A = Result (A × List Placed) ℕ

-- read this, and then go on with the tokens after it
infixl 10 ◌>>=◌
abbrev pub ◌>>=◌ : {A B : Type 0} → Result A ℕ → (A → Result B ℕ) → Result B ℕ
(Ok x) >>= f = f x
(Err place) >>= f = Err place

-- the value, if there is one, otherwise a fault at the place
abbrev pub or_fault_at : {A : Type 0} → ℕ → List Placed → Option A → Reading A
or_fault_at place rest (Some x) = Ok (x, rest)
or_fault_at place rest None = Err place

-- what a fact gives, if its test holds
abbrev pub when : {A : Type 0} → (b : Bool) → (T b → Option A) → Option A
when true make = make tt
when false make = None

abbrev pub is_open_bracket : Token → Bool
is_open_bracket open_bracket = true
is_open_bracket _ = false

abbrev pub is_close_bracket : Token → Bool
is_close_bracket close_bracket = true
is_close_bracket _ = false

abbrev pub is_open_brace : Token → Bool
is_open_brace open_brace = true
is_open_brace _ = false

abbrev pub is_close_brace : Token → Bool
is_close_brace close_brace = true
is_close_brace _ = false

-- the place of the first token, which has to pass the test
abbrev pub expected_at : (Token → Bool) → ℕ → List Placed → Reading ℕ
expected_at is_expected len [] = Err len
expected_at is_expected len (t ∷ ts) = if is_expected t.token then Ok (t.place, ts) else Err t.place

-- a number in a range
abbrev pub number_at : ℤ → ℤ → ℕ → List Placed → Reading ℤ
number_at least most len [] = Err len
number_at least most len (t ∷ ts) = or_fault_at t.place ts (number_within least most t.token)

-- if something was read, fewer than n tokens are left
abbrev pub LeavesFewer : {A : Type 0} → ℕ → Reading A → Type 0
LeavesFewer n (Ok r) = length r.1 < n
LeavesFewer n (Err place) = ⊤

-- the result is what this reading gives of a text's lexemes
abbrev pub GivesRead : {A : Type 0} → (ℕ → List Placed → Reading A) → List ℕ → List Lexeme → Result (A × Bor (List Lexeme)) ℕ → Type 0
GivesRead read text lexemes returned =
    MatchResult returned (λ r. read (length text) (placed text lexemes) ≡ Ok (r.0, placed text r.1.now)) (λ place. read (length text) (placed text lexemes) ≡ Err place)

-- Wherever the text of a key is, even right after a word, the key is read from it.
abbrev pub ReadsBack : {K : Type 0} → (ℕ → List Placed → Reading K) → List ℕ → K → Type 0
ReadsBack key_at text k =
    (len place : ℕ) (glued : Bool) (bytes : List ℕ) (ts : List Placed) → Cuts false (place + length text) bytes ts → (us : List Placed) × Cuts glued place (text ++ bytes) us × (key_at len us ≡ Ok (k, ts))
