-- What the parser has read, and what it still waits for.
use Rattle.std.specs.Prelude.{◌≡◌, ℕ, suc, ◌<◌, List, [], ◌∷◌, ◌++◌, length, reverse, Result, Ok, Err, IfOk}
use Rattle.std.specs.Borrow.{Bor}
use Rattle.key_class.specs.declared.sides.Rel.{Rel}
use Rattle.key_class.specs.declared.pred.Pred.{Pred}
use Rattle.key_class.specs.Queries.{Query, query_of}
use Rattle.query_text.specs.declared.terminal.Terminal.TheVariants as terminal
use Rattle.query_text.specs.declared.lexeme.Lexeme.{Lexeme}
use Rattle.query_text.specs.declared.parser.ParseError.{ParseError}
use Rattle.query_text.specs.declared.parser.ParseError.TheVariants.{Memory, At}
use Rattle.query_text.specs.declared.parser.Pending.{Pending}
use Rattle.query_text.specs.declared.parser.Pending.TheVariants.{Not, Bracket, And, Or}
use Rattle.query_text.specs.declared.parser.Next.{Next}
use Rattle.query_text.specs.declared.parser.Next.TheVariants.{More, End}
use Rattle.query_text.specs.Tokens.{Placed, placed}
use Rattle.query_text.specs.Keys.{Reading}
use Rattle.query_text.specs.ClassTexts.{Texts}
use Rattle.query_text.specs.Grammar.{terminal_of, Level, whole, conjunction, unit, Spells, before, Refused}

-- how many brackets are open
abbrev pub open_brackets : {A : Type 0} → List (Pending A) → ℕ
open_brackets [] = 0
open_brackets (Bracket ∷ ps) = suc (open_brackets ps)
open_brackets (p ∷ ps) = open_brackets ps

-- The tokens begin with what is pending, the last of it first in the list, and then a query of this level must
-- follow.
pub data Waits {K A : Type 0} (key_at : List Placed → Reading K) (atom_of : Rel → K → A) : List (Pending A) → Level → List Placed → List Placed → Type 0 where
  at_start : {ts : List Placed} → Waits key_at atom_of [] whole ts ts
  in_whole : {ps : List (Pending A)} {ts us : List Placed} → Waits key_at atom_of ps whole ts us → Waits key_at atom_of ps conjunction ts us
  in_conjunction : {ps : List (Pending A)} {ts us : List Placed} → Waits key_at atom_of ps conjunction ts us → Waits key_at atom_of ps unit ts us
  behind_or : {ps : List (Pending A)} {ts us vs : List Placed} {t : Placed} {a : Pred A} → Waits key_at atom_of ps whole ts us → Spells key_at atom_of whole us (query_of a) (t ∷ vs) → terminal_of t.token ≡ terminal.Or → Waits key_at atom_of (Or a ∷ ps) conjunction ts vs
  behind_and : {ps : List (Pending A)} {ts us vs : List Placed} {t : Placed} {a : Pred A} → Waits key_at atom_of ps conjunction ts us → Spells key_at atom_of conjunction us (query_of a) (t ∷ vs) → terminal_of t.token ≡ terminal.And → Waits key_at atom_of (And a ∷ ps) unit ts vs
  behind_not : {ps : List (Pending A)} {ts vs : List Placed} {t : Placed} → Waits key_at atom_of ps unit ts (t ∷ vs) → terminal_of t.token ≡ terminal.Not → Waits key_at atom_of (Not ∷ ps) unit ts vs
  behind_bracket : {ps : List (Pending A)} {ts vs : List Placed} {t : Placed} → Waits key_at atom_of ps unit ts (t ∷ vs) → terminal_of t.token ≡ terminal.Open → Waits key_at atom_of (Bracket ∷ ps) whole ts vs

-- The tokens begin with what is pending and with a spelling of the query at this level, followed by the rest.
abbrev pub HasRead : {K A : Type 0} → (List Placed → Reading K) → (Rel → K → A) → List (Pending A) → Level → Query A → List Placed → List Placed → Type 0
HasRead key_at atom_of ps level q ts rest = (us : List Placed) × Waits key_at atom_of ps level ts us × Spells key_at atom_of level us q rest

-- wherever the old query was read at the one level, the new one was read at the other
abbrev pub Completes : {K A : Type 0} → (List Placed → Reading K) → (Rel → K → A) → List (Pending A) → Level → Query A → List (Pending A) → Level → Query A → Type 0
Completes key_at atom_of ps l q qs m r = (ts rest : List Placed) → HasRead key_at atom_of ps l q ts rest → HasRead key_at atom_of qs m r ts rest

-- the error says where the tokens are refused, unless memory ran out
abbrev pub RefusedAt : {K : Type 0} → (List Placed → Reading K) → ℕ → List Placed → ParseError → Type 0
RefusedAt key_at len ts Memory = Unit {0}
RefusedAt key_at len ts (At place) = Refused key_at len before 0 ts place

-- what is pending, the last of it first
abbrev pub pending : {A : Type 0} → List (Pending A) → List (Pending A)
pending ps = reverse ps

-- Wherever the one query was read at the first level, in a text of any length, the other was read at the second. What
-- is pending before and after may differ.
abbrev pub Lifts : {K A : Type 0} → Texts K A → Level → Level → List (Pending A) → List (Pending A) → Pred A → Pred A → Type 0
Lifts texts from to old new read made =
    (len : ℕ) → Completes (texts.key_at len) texts.atom_of (pending old) from (query_of read) (pending new) to (query_of made)

-- the lexemes of a text spell the query up to their end, however deep
abbrev pub SpellsToEnd : {K A : Type 0} → Texts K A → List ℕ → List Lexeme → Query A → Type 0
SpellsToEnd texts text lexemes q = Spells (texts.key_at (length text)) texts.atom_of whole (placed text lexemes) q []

-- the error says where the lexemes of a text are refused
abbrev pub RefusedIn : {K A : Type 0} → Texts K A → List ℕ → List Lexeme → ParseError → Type 0
RefusedIn texts text lexemes e = RefusedAt (texts.key_at (length text)) (length text) (placed text lexemes) e

-- the stack has lost its top, which is a list's last
abbrev pub LosesTop : {X : Type 0} → List X → List X → Type 0
LosesTop {X = X} old new = (top : X) × (old ≡ new ++ top ∷ [])

-- wherever a unit must follow, an atom was read, if one was returned, followed by the rest
abbrev pub ReadsUnit : {K A : Type 0} → Texts K A → List ℕ → List Lexeme → List (Pending A) → List (Pending A) → Result (Pred A × Bor (List Lexeme)) ParseError → Type 0
ReadsUnit texts text lexemes old new returned =
    IfOk returned (λ r. (ts : List Placed) → Waits (texts.key_at (length text)) texts.atom_of (pending old) unit ts (placed text lexemes) → HasRead (texts.key_at (length text)) texts.atom_of (pending new) unit (query_of r.0) ts (placed text r.1.now))

-- wherever a unit must follow, the error says where the tokens are refused
abbrev pub RefusesUnit : {K A : Type 0} → Texts K A → List ℕ → List Lexeme → List (Pending A) → ParseError → Type 0
RefusesUnit texts text lexemes old e =
    (ts : List Placed) → Waits (texts.key_at (length text)) texts.atom_of (pending old) unit ts (placed text lexemes) → RefusedAt (texts.key_at (length text)) (length text) ts e

-- what follows a unit, if the tokens ts were read so far
abbrev pub ComesNext : {K A : Type 0} → Texts K A → List ℕ → List Lexeme → List (Pending A) → List Placed → Result (Next A) ParseError → Type 0
ComesNext texts text lexemes ps ts (Ok (More rest)) = Waits (texts.key_at (length text)) texts.atom_of ps unit ts (placed text rest.now) × (length rest.now < length lexemes)
ComesNext texts text lexemes ps ts (Ok (End found)) = Spells (texts.key_at (length text)) texts.atom_of whole ts (query_of found) []
ComesNext texts text lexemes ps ts (Err e) = RefusedAt (texts.key_at (length text)) (length text) ts e

-- wherever the unit was read, this follows it
abbrev pub ReadsOn : {K A : Type 0} → Texts K A → List ℕ → List Lexeme → List (Pending A) → List (Pending A) → Pred A → Result (Next A) ParseError → Type 0
ReadsOn texts text lexemes old new read returned =
    (ts : List Placed) → HasRead (texts.key_at (length text)) texts.atom_of (pending old) unit (query_of read) ts (placed text lexemes) → ComesNext texts text lexemes (pending new) ts returned
