-- What a line of a session asks.
use Rattle.std.specs.Prelude.{◌≡◌, ℕ, pos, unsigned_abs, Bool, true, false, Option, Some, None, List, [], ◌∷◌, length, Result, Ok, Err, MatchResult, if◌then◌else◌, codes}
use Rattle.std.specs.Str.{bytes_eq}
use Rattle.query_text.specs.declared.lexeme.Lexeme.{Lexeme}
use Rattle.query_text.specs.Tokens.{Token, word, Placed, placed, token_in, most_u64}
use Rattle.query_text.specs.Keys.{Reading, ◌>>=◌, number_at}
use Rattle.query_text.specs.ClassTexts.{Texts}
use Rattle.front.specs.declared.request.Verb.{Verb}
use Rattle.front.specs.declared.request.Verb.TheVariants as verb
use Rattle.front.specs.declared.request.Request.{Request}
use Rattle.front.specs.declared.request.Request.TheVariants as request

-- the verb that a word spells at the front of a line
abbrev pub verb_of_word : List ℕ → Verb
verb_of_word w =
    if bytes_eq w (codes "insert") then verb.Insert
    else (if bytes_eq w (codes "delete") then verb.Delete
    else (if bytes_eq w (codes "move") then verb.Move
    else (if bytes_eq w (codes "open") then verb.Open
    else (if bytes_eq w (codes "next") then verb.Next
    else (if bytes_eq w (codes "mark") then verb.Mark
    else (if bytes_eq w (codes "find") then verb.Find
    else (if bytes_eq w (codes "sweep") then verb.Sweep
    else (if bytes_eq w (codes "close") then verb.Close
    else verb.Other))))))))

abbrev pub verb_of : Token → Verb
verb_of (word w) = verb_of_word w
verb_of _ = verb.Other

-- What a line asks. A query is still its tokens, which are those up to the line's end; an opening has the cursor's
-- room, and the commit that it follows, if any.
pub data Command (K : Type 0) : Type 0 where
  insert_row : K → ℕ → Command K
  delete_row next_item ask_mark close_cursor : ℕ → Command K
  move_row : ℕ → K → Command K
  open_cursor : ℕ → Option ℕ → List Placed → Command K
  find_rows : List Placed → Command K
  sweep_all : Command K

-- a number from 0 to 2^64 - 1
abbrev pub natural_at : ℕ → List Placed → Reading ℕ
natural_at len ts = do
  number ← number_at (pos 0) most_u64 len ts
  Ok (unsigned_abs number.0, number.1)

-- the value, if no token is left
abbrev pub alone : {A : Type 0} → A → List Placed → Result A ℕ
alone asked [] = Ok asked
alone asked (t ∷ ts) = Err t.place

-- what is asked with one number and nothing after it
abbrev pub one_number : {A : Type 0} → (ℕ → A) → ℕ → List Placed → Result A ℕ
one_number asked len ts = do
  number ← natural_at len ts
  alone (asked number.0) number.1

abbrev pub key_and_tag : {K : Type 0} → (ℕ → List Placed → Reading K) → ℕ → List Placed → Result (Command K) ℕ
key_and_tag key_at len ts = do
  key ← key_at len ts
  tag ← natural_at len key.1
  alone (insert_row key.0 tag.0) tag.1

abbrev pub number_and_key : {K : Type 0} → (ℕ → List Placed → Reading K) → ℕ → List Placed → Result (Command K) ℕ
number_and_key key_at len ts = do
  row ← natural_at len ts
  key ← key_at len row.1
  alone (move_row row.0 key.0) key.1

-- the token is the word `from`
abbrev pub is_from : Token → Bool
is_from (word w) = bytes_eq w (codes "from")
is_from _ = false

abbrev pub start_by : Bool → ℕ → Placed → List Placed → Reading (Option ℕ)
start_by true len t ts = do
  commit ← natural_at len ts
  Ok (Some commit.0, commit.1)
start_by false len t ts = Ok (None, t ∷ ts)

-- the commit that is followed, if the word `from` and a number are at the front
abbrev pub start_at : ℕ → List Placed → Reading (Option ℕ)
start_at len [] = Ok (None, [])
start_at len (t ∷ ts) = start_by (is_from t.token) len t ts

abbrev pub room_and_query : {K : Type 0} → ℕ → List Placed → Result (Command K) ℕ
room_and_query len ts = do
  room ← natural_at len ts
  start ← start_at len room.1
  Ok (open_cursor room.0 start.0 start.1)

-- what the tokens after a verb ask, or the place of the first fault; a first token that is no verb is a fault
abbrev pub asked_by : {K : Type 0} → (ℕ → List Placed → Reading K) → ℕ → ℕ → Verb → List Placed → Result (Command K) ℕ
asked_by key_at len place verb.Insert ts = key_and_tag key_at len ts
asked_by key_at len place verb.Delete ts = one_number delete_row len ts
asked_by key_at len place verb.Move ts = number_and_key key_at len ts
asked_by key_at len place verb.Open ts = room_and_query len ts
asked_by key_at len place verb.Next ts = one_number next_item len ts
asked_by key_at len place verb.Mark ts = one_number ask_mark len ts
asked_by key_at len place verb.Find ts = Ok (find_rows ts)
asked_by key_at len place verb.Sweep ts = alone sweep_all ts
asked_by key_at len place verb.Close ts = one_number close_cursor len ts
asked_by key_at len place verb.Other ts = Err place

-- what a request asks, with lexemes of a text
abbrev pub command_of : {K : Type 0} → List ℕ → Request K → Command K
command_of text (request.Insert key tag) = insert_row key tag
command_of text (request.Delete row) = delete_row row
command_of text (request.Move row key) = move_row row key
command_of text (request.Open room from lexemes) = open_cursor room from (placed text lexemes.now)
command_of text (request.Next cursor) = next_item cursor
command_of text (request.Mark cursor) = ask_mark cursor
command_of text (request.Find lexemes) = find_rows (placed text lexemes.now)
command_of text request.Sweep = sweep_all
command_of text (request.Close cursor) = close_cursor cursor

-- what the tokens after the verb's lexeme ask
abbrev pub asked_from : {K A : Type 0} → Texts K A → List ℕ → Lexeme → ℕ → List Placed → Result (Command K) ℕ
asked_from texts text first len ts = asked_by texts.key_at len first.place (verb_of (token_in text first)) ts

-- the result is what this reading gives of a text's lexemes
abbrev pub IsAsked : {K : Type 0} → (ℕ → List Placed → Result (Command K) ℕ) → List ℕ → List Lexeme → Result (Request K) ℕ → Type 0
IsAsked read text lexemes returned =
    MatchResult returned (λ r. read (length text) (placed text lexemes) ≡ Ok (command_of text r)) (λ place. read (length text) (placed text lexemes) ≡ Err place)

-- the same for a value of one part
abbrev pub IsRead : {A : Type 0} → (ℕ → List Placed → Result A ℕ) → List ℕ → List Lexeme → Result A ℕ → Type 0
IsRead read text lexemes returned =
    MatchResult returned (λ a. read (length text) (placed text lexemes) ≡ Ok a) (λ place. read (length text) (placed text lexemes) ≡ Err place)

-- the first of the lexemes is at this place
abbrev pub BeginAt : List Lexeme → ℕ → Type 0
BeginAt lexemes place = (first : Lexeme) × (rest : List Lexeme) × (lexemes ≡ first ∷ rest) × (place ≡ first.place)
