-- What an event line asks of a world.
use Rattle.std.specs.Prelude.{◌≡◌, ℕ, ◌||◌, ◌==◌, Bool, List, [], ◌∷◌, length, Option, Some, None, Result, Ok, Err, MatchResult, ◌⊎◌, map, if◌then◌else◌, codes}
use Rattle.std.specs.List.{list_all}
use Rattle.std.specs.Str.{bytes_eq}
use Rattle.std.specs.Borrow.{Bor}
use Rattle.key_class.specs.Queries.{query_of}
use Rattle.key_class.specs.declared.pred.Pred.{Pred}
use Rattle.key_class.specs.declared.refusal.Refusal.{Refusal}
use Rattle.key_class.specs.declared.refusal.Refusal.TheVariants as refusal
use Rattle.key_class.specs.declared.sides.Side.{Side}
use Rattle.key_class.specs.declared.sides.Side.TheVariants.{Left, Right}
use Rattle.query_text.specs.declared.lexeme.Lexeme.{Lexeme}
use Rattle.query_text.specs.Tokens.{Token, word, Placed, placed, token_in}
use Rattle.query_text.specs.Keys.{Reading, ◌>>=◌, or_fault_at}
use Rattle.query_text.specs.ClassTexts.{Texts}
use Rattle.query_text.specs.Grammar.{SpellsQuery, RefusesTokens}
use Rattle.world.specs.declared.event.Event.{Event}
use Rattle.world.specs.declared.event.Event.TheVariants as event
use Rattle.front.specs.declared.event_request.EventVerb.{EventVerb}
use Rattle.front.specs.declared.event_request.EventVerb.TheVariants as verb
use Rattle.front.specs.declared.event_request.EventRequest.{EventRequest}
use Rattle.front.specs.declared.event_request.EventRequest.TheVariants as request
use Rattle.front.specs.Requests.{natural_at, start_at, alone, one_number}

-- the verb that a word spells at the front of an event line
abbrev pub event_verb_of_word : List ℕ → EventVerb
event_verb_of_word w =
    if bytes_eq w (codes "enlarge") then verb.Enlarge
    else (if bytes_eq w (codes "place") then verb.Place
    else (if bytes_eq w (codes "split") then verb.Split
    else (if bytes_eq w (codes "post") then verb.Post
    else (if bytes_eq w (codes "grow") then verb.Grow
    else (if bytes_eq w (codes "find") then verb.Find
    else (if bytes_eq w (codes "seek") then verb.Seek
    else (if bytes_eq w (codes "move") then verb.Move
    else (if bytes_eq w (codes "unfind") then verb.Unfind
    else (if bytes_eq w (codes "sweep") then verb.Sweep
    else (if bytes_eq w (codes "open") then verb.Open
    else (if bytes_eq w (codes "turn") then verb.Turn
    else (if bytes_eq w (codes "askmark") then verb.AskMark
    else (if bytes_eq w (codes "take") then verb.Take
    else (if bytes_eq w (codes "close") then verb.Close
    else verb.Other))))))))))))))

abbrev pub event_verb_of : Token → EventVerb
event_verb_of (word w) = event_verb_of_word w
event_verb_of _ = verb.Other

-- What a line asks: an event; or a cursor with this room, which follows a commit or none, on the query that these
-- tokens spell. The tokens are those up to the line's end.
pub data Asked (K A : Type 0) : Type 0 where
  one_event : Event K A → Asked K A
  cursor_on : ℕ → Option ℕ → List Placed → Asked K A

-- sides are written with the letters l and r
abbrev pub is_side : ℕ → Bool
is_side letter = (letter == 108) || (letter == 114)

abbrev pub side_of : ℕ → Side
side_of letter = if letter == 108 then Left else Right

-- a side for each letter of a word that has only such letters
abbrev pub sides_of : Token → Option (List Side)
sides_of (word w) = if list_all is_side w then Some (map side_of w) else None
sides_of _ = None

abbrev pub sides_at : ℕ → List Placed → Reading (List Side)
sides_at len [] = Err len
sides_at len (t ∷ ts) = or_fault_at t.place ts (sides_of t.token)

-- the event has sides, for which memory is needed
abbrev pub HasSides : {K A : Type 0} → Event K A → Type 0
HasSides (event.Split page sides) = Unit
HasSides (event.Grow sides) = Unit
HasSides _ = ⊥

-- the event that opens a cursor: at the present commits, or after a commit that it follows
abbrev pub opening_of : {K A : Type 0} → Pred A → ℕ → Option ℕ → Event K A
opening_of query room None = event.Open query room
opening_of query room (Some commit) = event.Follow query room commit

module _ {K A : Type 0} (texts : Texts K A) where
  -- a line of so many bytes asks this event
  abbrev pub IsEvent : ℕ → Asked K A → Event K A → Type 0
  IsEvent len (one_event asked) e = e ≡ asked
  IsEvent len (cursor_on room from ts) e = (query : Pred A) × SpellsQuery texts len ts (query_of query) × (e ≡ opening_of query room from)

  -- the line asks no event: its query is refused at a place, or memory ran out for sides or the query
  abbrev pub IsNoEvent : ℕ → Asked K A → Refusal → Type 0
  IsNoEvent len (one_event asked) why = HasSides asked × (why ≡ refusal.OutOfMemory)
  IsNoEvent len (cursor_on room from ts) why =
      ((place : ℕ) × RefusesTokens texts len ts place × (why ≡ refusal.QueryText place))
      ⊎ (why ≡ refusal.OutOfMemory)

module _ {K A : Type 0} (key_at : ℕ → List Placed → Reading K) where
  -- reads an event of two numbers and a key
  abbrev pub two_numbers_and_key : (ℕ → ℕ → K → Event K A) → ℕ → List Placed → Result (Asked K A) ℕ
  two_numbers_and_key event_of len ts = do
    first ← natural_at len ts
    second ← natural_at len first.1
    key ← key_at len second.1
    alone (one_event (event_of first.0 second.0 key.0)) key.1

  abbrev pub page_key_and_tag : ℕ → List Placed → Result (Asked K A) ℕ
  page_key_and_tag len ts = do
    page ← natural_at len ts
    key ← key_at len page.1
    tag ← natural_at len key.1
    alone (one_event (event.Place page.0 key.0 tag.0)) tag.1

abbrev pub page_and_sides : {K A : Type 0} → ℕ → List Placed → Result (Asked K A) ℕ
page_and_sides len ts = do
  page ← natural_at len ts
  sides ← sides_at len page.1
  alone (one_event (event.Split page.0 sides.0)) sides.1

abbrev pub two_pages : {K A : Type 0} → ℕ → List Placed → Result (Asked K A) ℕ
two_pages len ts = do
  parent ← natural_at len ts
  child ← natural_at len parent.1
  alone (one_event (event.Post parent.0 child.0)) child.1

abbrev pub only_sides : {K A : Type 0} → ℕ → List Placed → Result (Asked K A) ℕ
only_sides len ts = do
  sides ← sides_at len ts
  alone (one_event (event.Grow sides.0)) sides.1

abbrev pub cursor_asked : {K A : Type 0} → ℕ → List Placed → Result (Asked K A) ℕ
cursor_asked len ts = do
  room ← natural_at len ts
  start ← start_at len room.1
  Ok (cursor_on room.0 start.0 start.1)

-- what the tokens after a verb ask, or the place of the first fault; a first token that is no verb is a fault
abbrev pub event_asked_by : {K A : Type 0} → (ℕ → List Placed → Reading K) → ℕ → ℕ → EventVerb → List Placed → Result (Asked K A) ℕ
event_asked_by key_at len place verb.Enlarge ts = two_numbers_and_key key_at event.Enlarge len ts
event_asked_by key_at len place verb.Place ts = page_key_and_tag key_at len ts
event_asked_by key_at len place verb.Split ts = page_and_sides len ts
event_asked_by key_at len place verb.Post ts = two_pages len ts
event_asked_by key_at len place verb.Grow ts = only_sides len ts
event_asked_by key_at len place verb.Find ts = one_number (λ row. one_event (event.Find row)) len ts
event_asked_by key_at len place verb.Seek ts = one_number (λ f. one_event (event.Seek f)) len ts
event_asked_by key_at len place verb.Move ts = two_numbers_and_key key_at event.Move len ts
event_asked_by key_at len place verb.Unfind ts = one_number (λ f. one_event (event.Unfind f)) len ts
event_asked_by key_at len place verb.Sweep ts = one_number (λ page. one_event (event.Sweep page)) len ts
event_asked_by key_at len place verb.Open ts = cursor_asked len ts
event_asked_by key_at len place verb.Turn ts = one_number (λ c. one_event (event.Turn c)) len ts
event_asked_by key_at len place verb.AskMark ts = one_number (λ c. one_event (event.AskMark c)) len ts
event_asked_by key_at len place verb.Take ts = one_number (λ c. one_event (event.Take c)) len ts
event_asked_by key_at len place verb.Close ts = one_number (λ c. one_event (event.Close c)) len ts
event_asked_by key_at len place verb.Other ts = Err place

-- what a request asks, with lexemes of a text
abbrev pub asked_of : {K A : Type 0} → List ℕ → EventRequest K → Asked K A
asked_of text (request.Enlarge parent child key) = one_event (event.Enlarge parent child key)
asked_of text (request.Place page key tag) = one_event (event.Place page key tag)
asked_of text (request.Split page letters) = one_event (event.Split page (map side_of letters.now))
asked_of text (request.Post parent child) = one_event (event.Post parent child)
asked_of text (request.Grow letters) = one_event (event.Grow (map side_of letters.now))
asked_of text (request.Find row) = one_event (event.Find row)
asked_of text (request.Seek f) = one_event (event.Seek f)
asked_of text (request.Move f leaf key) = one_event (event.Move f leaf key)
asked_of text (request.Unfind f) = one_event (event.Unfind f)
asked_of text (request.Sweep page) = one_event (event.Sweep page)
asked_of text (request.Open room from lexemes) = cursor_on room from (placed text lexemes.now)
asked_of text (request.Turn c) = one_event (event.Turn c)
asked_of text (request.AskMark c) = one_event (event.AskMark c)
asked_of text (request.Take c) = one_event (event.Take c)
asked_of text (request.Close c) = one_event (event.Close c)

-- what the tokens after the verb's lexeme ask
abbrev pub event_from : {K A : Type 0} → Texts K A → List ℕ → Lexeme → ℕ → List Placed → Result (Asked K A) ℕ
event_from texts text first len ts = event_asked_by texts.key_at len first.place (event_verb_of (token_in text first)) ts

-- The result is what this reading gives of a text's lexemes. A is the type of a query's atoms.
abbrev pub IsEventAsked : (A : Type 0) {K : Type 0} → (ℕ → List Placed → Result (Asked K A) ℕ) → List ℕ → List Lexeme → Result (EventRequest K) ℕ → Type 0
IsEventAsked A read text lexemes returned =
    MatchResult returned (λ r. read (length text) (placed text lexemes) ≡ Ok (asked_of text r)) (λ place. read (length text) (placed text lexemes) ≡ Err place)

-- the result is the letters of the sides at the front of a text's lexemes
abbrev pub GivesSides : List ℕ → List Lexeme → Result (Bor (List ℕ) × Bor (List Lexeme)) ℕ → Type 0
GivesSides text lexemes returned =
    MatchResult returned (λ r. sides_at (length text) (placed text lexemes) ≡ Ok (map side_of r.0.now, placed text r.1.now)) (λ place. sides_at (length text) (placed text lexemes) ≡ Err place)

-- what a request asks, with lexemes of a text, is this event
abbrev pub AsksEvent : {K A : Type 0} → Texts K A → List ℕ → EventRequest K → Event K A → Type 0
AsksEvent texts text asked event = IsEvent texts (length text) (asked_of text asked) event

-- it asks no event, for this reason
abbrev pub AsksNoEvent : {K A : Type 0} → Texts K A → List ℕ → EventRequest K → Refusal → Type 0
AsksNoEvent texts text asked why = IsNoEvent texts (length text) (asked_of text asked) why
