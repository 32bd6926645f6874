-- The tokens of a text, with their places.
use Rattle.std.specs.Prelude.{◌≡◌, ℕ, ℤ, pos, negsuc, neg_ℤ, int_le, ◌+◌, ◌-◌, ◌*◌, ◌^◌, Bool, true, false, ◌&&◌, ◌||◌, ◌==◌, List, [], ◌∷◌, length, take, drop, take_while, map, Option, Some, None, MatchOption, ◌≤◌, if◌then◌else◌}
use Rattle.std.specs.Char.{is_ascii_digit, is_ascii_lowercase}
use Rattle.query_text.specs.declared.lexeme.Kind.{Kind}
use Rattle.query_text.specs.declared.lexeme.Kind.TheVariants as kind
use Rattle.query_text.specs.declared.lexeme.Lexeme.{Lexeme}

-- A word has its bytes, and a number its value. A fault is where no token can stand.
pub data Token : Type 0 where
  open_bracket close_bracket open_brace close_brace fault : Token
  word : List ℕ → Token
  number : ℤ → Token

-- a token, and how many bytes of its text come before it
pub record Placed : Type 0 where
  pub token : Token
  pub place : ℕ

abbrev pub at : ℕ → Token → Placed
at p t = record { token = t; place = p }

abbrev pub is_letter : ℕ → Bool
is_letter b = is_ascii_lowercase b

abbrev pub is_digit : ℕ → Bool
is_digit b = is_ascii_digit b

-- the number of these digits, appended to those of n
abbrev pub decimal_value_after : ℕ → List ℕ → ℕ
decimal_value_after n [] = n
decimal_value_after n (b ∷ bs) = decimal_value_after (n * 10 + (b - 48)) bs

abbrev pub is_negative : List ℕ → Bool
is_negative [] = false
is_negative (b ∷ bs) = b == 45

-- the digits, after a minus if there is one
abbrev pub digits_of : List ℕ → List ℕ
digits_of [] = []
digits_of (b ∷ bs) = if b == 45 then bs else b ∷ bs

-- the number of these digits, perhaps after a minus
abbrev pub number_value : List ℕ → ℤ
number_value bs =
    let size = pos (decimal_value_after 0 (digits_of bs)) in
    if is_negative bs then neg_ℤ size else size

-- What bytes begin with: nothing, a space, a token of so many bytes, or something else.
pub data Beginning : Type 0 where
  nothing space no_token : Beginning
  begins : Token → ℕ → Beginning

abbrev pub starts_with_digit : List ℕ → Bool
starts_with_digit [] = false
starts_with_digit (b ∷ bs) = is_digit b

-- a token of these bytes
abbrev pub spelled : (List ℕ → Token) → List ℕ → Beginning
spelled t bs = begins (t bs) (length bs)

-- A word is a letter and the letters after it; a number is a digit, or a minus directly before a digit, and the
-- digits after it.
abbrev pub beginning : List ℕ → Beginning
beginning [] = nothing
beginning (b ∷ bs) =
    if b == 32 then space
    else (if b == 40 then begins open_bracket 1
    else (if b == 41 then begins close_bracket 1
    else (if b == 123 then begins open_brace 1
    else (if b == 125 then begins close_brace 1
    else (if is_letter b then spelled word (b ∷ take_while is_letter bs)
    else (if is_digit b || ((b == 45) && starts_with_digit bs) then spelled (λ ds. number (number_value ds)) (b ∷ take_while is_digit bs)
    else no_token))))))

-- words and numbers need a space between them
abbrev pub glues : Token → Bool
glues (word w) = true
glues (number n) = true
glues _ = false

-- These are the tokens of bytes from a place on; glued says whether a word or a number is directly before it. A fault
-- ends them: where no token begins, or at a word or number without the space that it needs.
pub data Cuts : Bool → ℕ → List ℕ → List Placed → Type 0 where
  cut_nothing : {glued : Bool} {place : ℕ} {bs : List ℕ} → beginning bs ≡ nothing → Cuts glued place bs []
  cut_space : {glued : Bool} {place : ℕ} {bs : List ℕ} {ts : List Placed} → beginning bs ≡ space → Cuts false (place + 1) (drop 1 bs) ts → Cuts glued place bs ts
  cut_token : {glued : Bool} {place n : ℕ} {bs : List ℕ} {t : Token} {ts : List Placed} → beginning bs ≡ begins t n → glued && glues t ≡ false → Cuts (glues t) (place + n) (drop n bs) ts → Cuts glued place bs (at place t ∷ ts)
  cut_missing_space : {place n : ℕ} {bs : List ℕ} {t : Token} → beginning bs ≡ begins t n → glues t ≡ true → Cuts true place bs (at place fault ∷ [])
  cut_no_token : {glued : Bool} {place : ℕ} {bs : List ℕ} → beginning bs ≡ no_token → Cuts glued place bs (at place fault ∷ [])

-- the token of these bytes, which are of a kind
abbrev pub token_of : Kind → List ℕ → Token
token_of kind.OpenBracket bs = open_bracket
token_of kind.CloseBracket bs = close_bracket
token_of kind.OpenBrace bs = open_brace
token_of kind.CloseBrace bs = close_brace
token_of kind.Word bs = word bs
token_of kind.Number bs = number (number_value bs)
token_of kind.Fault bs = fault

-- the token of a lexeme in its text
abbrev pub token_in : List ℕ → Lexeme → Token
token_in text l = token_of l.kind (take l.len (drop l.place text))

-- the lexemes of a text as tokens with their places
abbrev pub placed : List ℕ → List Lexeme → List Placed
placed text ls = map (λ l. at l.place (token_in text l)) ls

-- the number of a token, if it is one in the range
abbrev pub number_within : ℤ → ℤ → Token → Option ℤ
number_within least most (number z) = if int_le least z && int_le z most then Some z else None
number_within least most _ = None

abbrev pub least_i32 : ℤ
least_i32 = negsuc (2 ^ 31 - 1)

abbrev pub most_i32 : ℤ
most_i32 = pos (2 ^ 31 - 1)

abbrev pub least_i64 : ℤ
least_i64 = negsuc (2 ^ 63 - 1)

abbrev pub most_i64 : ℤ
most_i64 = pos (2 ^ 63 - 1)

abbrev pub most_u64 : ℤ
most_u64 = pos (2 ^ 64 - 1)

-- the number of a token, if it is an unsigned one of 64 bits
abbrev pub u64_number : Token → Option ℤ
u64_number t = number_within (pos 0) most_u64 t

-- the result is the value, or none if its size is 2^64 or more
abbrev pub FitsOrNone : {A : Type 0} → (A → ℕ) → A → Option A → Type 0
FitsOrNone size value given = MatchOption given (2 ^ 64 ≤ size value) (λ a. a ≡ value)
