-- Which tokens spell which query, and where other tokens are refused.
use Rattle.std.specs.Prelude.{◌≡◌, ◌⊎◌, ℕ, suc, ◌<◌, ◌≤◌, false, List, [], ◌∷◌, length, Result, Ok, Err, if◌then◌else◌, codes}
use Rattle.std.specs.Str.{bytes_eq}
use Rattle.key_class.specs.declared.sides.Rel.{Rel}
use Rattle.key_class.specs.declared.sides.Rel.TheVariants.{Overlaps, Within, Holds, Same}
use Rattle.key_class.specs.declared.refusal.Refusal.{Refusal}
use Rattle.key_class.specs.declared.refusal.Refusal.TheVariants as refusal
use Rattle.key_class.specs.Limits.{most_bytes, most_depth}
use Rattle.key_class.specs.Queries.{Query, atom, both, either, never, depth_of}
use Rattle.query_text.specs.declared.terminal.Terminal.{Terminal}
use Rattle.query_text.specs.declared.terminal.Terminal.TheVariants as terminal
use Rattle.query_text.specs.declared.lexeme.Lexeme.{Lexeme}
use Rattle.query_text.specs.Tokens.{Token, open_bracket, close_bracket, word, Placed, placed, Cuts}
use Rattle.query_text.specs.Keys.{Reading}
use Rattle.query_text.specs.ClassTexts.{Texts}

abbrev pub rel_word : Rel → List ℕ
rel_word Overlaps = codes "overlaps"
rel_word Within = codes "within"
rel_word Holds = codes "holds"
rel_word Same = codes "same"

-- what a word is in a query
abbrev pub keyword_of : List ℕ → Terminal
keyword_of w =
    if bytes_eq w (codes "and") then terminal.And
    else (if bytes_eq w (codes "or") then terminal.Or
    else (if bytes_eq w (codes "not") then terminal.Not
    else (if bytes_eq w (rel_word Overlaps) then terminal.Relation Overlaps
    else (if bytes_eq w (rel_word Within) then terminal.Relation Within
    else (if bytes_eq w (rel_word Holds) then terminal.Relation Holds
    else (if bytes_eq w (rel_word Same) then terminal.Relation Same
    else terminal.Other))))))

-- what a token is in a query, outside its keys
abbrev pub terminal_of : Token → Terminal
terminal_of open_bracket = terminal.Open
terminal_of close_bracket = terminal.Close
terminal_of (word w) = keyword_of w
terminal_of _ = terminal.Other

-- the levels of the grammar
pub data Level : Type 0 where
  whole conjunction unit : Level

-- The tokens begin with a spelling of the query at this level, followed by the rest.
-- key_at reads the key at the front of tokens, and atom_of makes an atom of a relation and a key.
pub data Spells {K A : Type 0} (key_at : List Placed → Reading K) (atom_of : Rel → K → A) : Level → List Placed → Query A → List Placed → Type 0 where
  -- query = conjunction | query "or" conjunction
  one_conjunction : {ts rest : List Placed} {q : Query A} → Spells key_at atom_of conjunction ts q rest → Spells key_at atom_of whole ts q rest
  or_of : {ts us rest : List Placed} {t : Placed} {a b : Query A} → Spells key_at atom_of whole ts a (t ∷ us) → terminal_of t.token ≡ terminal.Or → Spells key_at atom_of conjunction us b rest → Spells key_at atom_of whole ts (either a b) rest
  -- conjunction = unit | conjunction "and" unit
  one_unit : {ts rest : List Placed} {q : Query A} → Spells key_at atom_of unit ts q rest → Spells key_at atom_of conjunction ts q rest
  and_of : {ts us rest : List Placed} {t : Placed} {a b : Query A} → Spells key_at atom_of conjunction ts a (t ∷ us) → terminal_of t.token ≡ terminal.And → Spells key_at atom_of unit us b rest → Spells key_at atom_of conjunction ts (both a b) rest
  -- unit = "not" unit | "(" query ")" | relation key
  not_of : {ts rest : List Placed} {t : Placed} {q : Query A} → terminal_of t.token ≡ terminal.Not → Spells key_at atom_of unit ts q rest → Spells key_at atom_of unit (t ∷ ts) (never q) rest
  in_brackets : {ts rest : List Placed} {t u : Placed} {q : Query A} → terminal_of t.token ≡ terminal.Open → Spells key_at atom_of whole ts q (u ∷ rest) → terminal_of u.token ≡ terminal.Close → Spells key_at atom_of unit (t ∷ ts) q rest
  relation_of : {ts rest : List Placed} {t : Placed} {r : Rel} {k : K} → terminal_of t.token ≡ terminal.Relation r → key_at ts ≡ Ok (k, rest) → Spells key_at atom_of unit (t ∷ ts) (atom (atom_of r k)) rest

-- before a unit, or after one
pub data Point : Type 0 where
  before behind : Point

-- what a token does there, with this many open brackets
pub data Move : Type 0 where
  goes : Point → ℕ → Move
  key_follows refused : Move

abbrev pub move : Point → ℕ → Terminal → Move
move before d terminal.Not = goes before d
move before d terminal.Open = goes before (suc d)
move before d (terminal.Relation r) = key_follows
move behind d terminal.And = goes before d
move behind d terminal.Or = goes before d
move behind (suc d) terminal.Close = goes behind d
move _ _ _ = refused

-- The tokens of a text of len bytes are refused at the place: at the first that can't stand there, at a key's first
-- fault, or at the text's end.
pub data Refused {K : Type 0} (key_at : List Placed → Reading K) (len : ℕ) : Point → ℕ → List Placed → ℕ → Type 0 where
  ends_before : {d : ℕ} → Refused key_at len before d [] len
  ends_open : {d : ℕ} → Refused key_at len behind (suc d) [] len
  stuck : {point : Point} {d : ℕ} {t : Placed} {ts : List Placed} → move point d (terminal_of t.token) ≡ refused → Refused key_at len point d (t ∷ ts) t.place
  moves : {point next : Point} {d e place : ℕ} {t : Placed} {ts : List Placed} → move point d (terminal_of t.token) ≡ goes next e → Refused key_at len next e ts place → Refused key_at len point d (t ∷ ts) place
  bad_key : {point : Point} {d place : ℕ} {t : Placed} {ts : List Placed} → move point d (terminal_of t.token) ≡ key_follows → key_at ts ≡ Err place → Refused key_at len point d (t ∷ ts) place
  good_key : {point : Point} {d place : ℕ} {t : Placed} {ts rest : List Placed} {k : K} → move point d (terminal_of t.token) ≡ key_follows → key_at ts ≡ Ok (k, rest) → Refused key_at len behind d rest place → Refused key_at len point d (t ∷ ts) place

-- The tokens of a text of len bytes spell the query, which is no deeper than allowed.
pub record SpellsQuery {K A : Type 0} (texts : Texts K A) (len : ℕ) (ts : List Placed) (q : Query A) : Type 0 where
  pub spelled : Spells (texts.key_at len) texts.atom_of whole ts q []
  pub shallow : depth_of q ≤ most_depth

-- The tokens of a text of len bytes are refused as a query at the place; a query that is too deep, at its first
-- token.
pub data RefusesTokens {K A : Type 0} (texts : Texts K A) (len : ℕ) : List Placed → ℕ → Type 0 where
  no_spelling : {ts : List Placed} {place : ℕ} → Refused (texts.key_at len) len before 0 ts place → RefusesTokens texts len ts place
  too_deep : {t : Placed} {ts : List Placed} {q : Query A} → Spells (texts.key_at len) texts.atom_of whole (t ∷ ts) q [] → most_depth < depth_of q → RefusesTokens texts len (t ∷ ts) t.place

-- the text is a spelling of the query
pub record SpellsText {K A : Type 0} (texts : Texts K A) (text : List ℕ) (q : Query A) : Type 0 where
  pub short : length text ≤ most_bytes
  pub tokens : List Placed
  pub cut : Cuts false 0 text tokens
  pub query : SpellsQuery texts (length text) tokens q

-- the text is refused as a query at the place
pub data RefusesText {K A : Type 0} (texts : Texts K A) : List ℕ → ℕ → Type 0 where
  too_long : {text : List ℕ} → most_bytes < length text → RefusesText texts text most_bytes
  refuses_tokens : {text : List ℕ} {ts : List Placed} {place : ℕ} → length text ≤ most_bytes → Cuts false 0 text ts → RefusesTokens texts (length text) ts place → RefusesText texts text place

module _ {K A : Type 0} (texts : Texts K A) where
  -- the tokens of a text of len bytes spell some query, or are refused at some place
  abbrev pub SpellOrAreRefused : ℕ → List Placed → Type 0
  SpellOrAreRefused len ts = ((q : Query A) × SpellsQuery texts len ts q) ⊎ ((place : ℕ) × RefusesTokens texts len ts place)

  -- the text is a spelling of some query, or is refused at some place
  abbrev pub SpellsOrIsRefused : List ℕ → Type 0
  SpellsOrIsRefused text = ((q : Query A) × SpellsText texts text q) ⊎ ((place : ℕ) × RefusesText texts text place)

  -- the same tokens spell a query and are refused
  abbrev pub SpellAndAreRefused : ℕ → List Placed → Type 0
  SpellAndAreRefused len ts = ((q : Query A) × SpellsQuery texts len ts q) × ((place : ℕ) × RefusesTokens texts len ts place)

  -- the same text is a spelling of a query and is refused
  abbrev pub SpellsAndIsRefused : List ℕ → Type 0
  SpellsAndIsRefused text = ((q : Query A) × SpellsText texts text q) × ((place : ℕ) × RefusesText texts text place)

  -- the lexemes of a text spell the query, up to their end
  abbrev pub LexemesSpell : List ℕ → List Lexeme → Query A → Type 0
  LexemesSpell text lexemes q = SpellsQuery texts (length text) (placed text lexemes) q

  -- the lexemes of a text are refused as a query at the place
  abbrev pub LexemesAreRefused : List ℕ → List Lexeme → ℕ → Type 0
  LexemesAreRefused text lexemes place = RefusesTokens texts (length text) (placed text lexemes) place

-- if the result is that the text is refused at a place, this holds of the place
abbrev pub IfQueryText : {T : Type 0} → Result T Refusal → (ℕ → Type 0) → Type 0
IfQueryText returned P = (place : ℕ) → returned ≡ Err (refusal.QueryText place) → P place

-- memory ran out, or a text is refused at some place
abbrev pub IsParseRefusal : Refusal → Type 0
IsParseRefusal why = (why ≡ refusal.OutOfMemory) ⊎ ((place : ℕ) × (why ≡ refusal.QueryText place))
