-- Which texts answer the tokens of a line, and how a session begins and ends.
use Rattle.std.specs.Prelude.{◌≡◌, ℕ, ◌<◌, true, List, [], ◌∷◌, length, Option, Some, None, Result, Ok, Err, ◌⊎◌}
use Rattle.key_class.specs.Rules.{Rules}
use Rattle.key_class.specs.declared.refusal.Refusal.TheVariants as refusal
use Rattle.key_class.specs.Queries.{Query}
use Rattle.store.specs.States.{StoreState}
use Rattle.query_text.specs.declared.lexeme.Lexeme.{Lexeme}
use Rattle.query_text.specs.Tokens.{Placed, placed}
use Rattle.query_text.specs.ClassTexts.{Texts}
use Rattle.query_text.specs.Grammar.{SpellsQuery, RefusesTokens}
use Rattle.front.specs.declared.request.Request.{Request}
use Rattle.front.specs.declared.answer.Answer.{Answer}
use Rattle.front.specs.declared.answer.Answer.TheVariants as answer
use Rattle.front.specs.Requests.{Command, insert_row, delete_row, move_row, next_item, ask_mark, close_cursor, open_cursor, find_rows, sweep_all, asked_by, verb_of, command_of}
use Rattle.front.specs.Replies.{reply_text}
use Rattle.front.specs.Told.{Told, nothing_told, RepliesInsert, RepliesDelete, RepliesMove, RepliesOpen, RepliesNext, RepliesMark, RepliesFind, RepliesSweep, RepliesClose}
use Rattle.front.specs.AsTold.{IsAsTold, Tells}
use Rattle.front.specs.Conversations.{Exchange, AnswersLines, AnsweredAll, AnsweredWhole, AnsweredFirst}

-- the text of an answer, if there is one
abbrev pub text_of_answer : {K : Type 0} → (K → List ℕ) → Option (Answer K) → List ℕ
text_of_answer key_text None = []
text_of_answer key_text (Some said) = reply_text key_text said

module _ {K A : Type 0} (texts : Texts K A) where
  -- the tokens spell a query, and the answer is one for it; or they are refused at a place; or memory ran out
  abbrev pub WithQuery : ℕ → List Placed → (Query A → Answer K → Told K A → Told K A → Type 0) → Answer K → Told K A → Told K A → Type 0
  WithQuery len ts replies said old new =
      ((q : Query A) × SpellsQuery texts len ts q × replies q said old new)
      ⊎ ((place : ℕ) × RefusesTokens texts len ts place × (said ≡ answer.Refused (refusal.QueryText place)) × (new ≡ old))
      ⊎ ((said ≡ answer.Refused refusal.OutOfMemory) × (new ≡ old))

  module _ (rules : Rules K A) where
    -- this may answer what a line of so many bytes asks
    abbrev pub RepliesTo : ℕ → Command K → Answer K → Told K A → Told K A → Type 0
    RepliesTo len (insert_row key tag) said old new = RepliesInsert key tag said old new
    RepliesTo len (delete_row row) said old new = RepliesDelete row said old new
    RepliesTo len (move_row row key) said old new = RepliesMove row key said old new
    RepliesTo len (open_cursor room from ts) said old new = WithQuery len ts (RepliesOpen room from) said old new
    RepliesTo len (next_item c) said old new = RepliesNext rules c said old new
    RepliesTo len (ask_mark c) said old new = RepliesMark c said old new
    RepliesTo len (find_rows ts) said old new = WithQuery len ts (RepliesFind rules) said old new
    RepliesTo len sweep_all said old new = RepliesSweep said old new
    RepliesTo len (close_cursor c) said old new = RepliesClose c said old new

    -- a command gets an answer to it; a fault of the line is refused at its place
    abbrev pub RepliesAsked : ℕ → Result (Command K) ℕ → Option (Answer K) → Told K A → Told K A → Type 0
    RepliesAsked len (Ok command) said old new = (r : Answer K) × (said ≡ Some r) × RepliesTo len command r old new
    RepliesAsked len (Err place) said old new = (said ≡ Some (answer.Refused (refusal.Line place))) × (new ≡ old)

    -- a line without a token has no answer
    abbrev pub RepliesTokens : ℕ → List Placed → Option (Answer K) → Told K A → Told K A → Type 0
    RepliesTokens len [] said old new = (said ≡ None) × (new ≡ old)
    RepliesTokens len (t ∷ ts) said old new = RepliesAsked len (asked_by texts.key_at len t.place (verb_of t.token) ts) said old new

    -- the text may answer the tokens of a line of so many bytes, and this is then told
    abbrev pub AnswersTold : ℕ → Told K A → List Placed → List ℕ → Told K A → Type 0
    AnswersTold len old ts text new = (said : Option (Answer K)) × (text ≡ text_of_answer texts.key_text said) × RepliesTokens len ts said old new

    -- The answers are those of a store's calls: to a request, to its tokens, and to the query that lexemes spell when
    -- a cursor is opened on it or its rows are found.

    abbrev pub TellsRequest : StoreState K A → StoreState K A → List ℕ → Request K → Answer K → Type 0
    TellsRequest old new text asked said = Tells rules old new (RepliesTo (length text) (command_of text asked) said)

    abbrev pub TellsTokens : StoreState K A → StoreState K A → List ℕ → List Lexeme → Option (Answer K) → Type 0
    TellsTokens old new text lexemes said = Tells rules old new (RepliesTokens (length text) (placed text lexemes) said)

    abbrev pub TellsOpening : StoreState K A → StoreState K A → List ℕ → List Lexeme → ℕ → Option ℕ → Answer K → Type 0
    TellsOpening old new text lexemes room from said = Tells rules old new (WithQuery (length text) (placed text lexemes) (RepliesOpen room from) said)

    abbrev pub TellsFinding : StoreState K A → StoreState K A → List ℕ → List Lexeme → Answer K → Type 0
    TellsFinding old new text lexemes said = Tells rules old new (WithQuery (length text) (placed text lexemes) (RepliesFind rules) said)

-- The client of a new store was told nothing before this conversation, and the store's state agrees with what it was
-- told in it.
abbrev pub FromNothing : {K A : Type 0} → Rules K A → (Told K A → Told K A → Type 0) → StoreState K A → StoreState K A → Type 0
FromNothing {K} {A} rules conversation old new =
    (told : Told K A) × conversation (nothing_told old.limit old.page_limit) told × IsAsTold rules new told

module _ {K A : Type 0} (texts : Texts K A) (rules : Rules K A) where
  -- What the client of a new store was told, by how the session ended: the answers to all lines up to the reader's
  -- end; those to the whole lines before the reader failed; those to some first lines, of which a beginning was
  -- written. The store's state agrees with it.

  abbrev pub ToldAll : StoreState K A → StoreState K A → Exchange → Type 0
  ToldAll old new io = FromNothing rules (λ before after. AnsweredAll (AnswersTold texts rules) before after io) old new

  abbrev pub ToldWhole : StoreState K A → StoreState K A → Exchange → Type 0
  ToldWhole old new io = FromNothing rules (λ before after. AnsweredWhole (AnswersTold texts rules) before after io) old new

  abbrev pub ToldFirst : StoreState K A → StoreState K A → Exchange → Type 0
  ToldFirst old new io = FromNothing rules (λ before after. AnsweredFirst (AnswersTold texts rules) before after io) old new

  -- If the client was told that the pages are full, and then the answers to these lines, and the store's state agrees
  -- with that, fewer than two pages are left.
  abbrev pub LacksPagesOnceTold : StoreState K A → Type 0
  LacksPagesOnceTold new =
      (before told : Told K A) (lines : List (List ℕ)) (text : List ℕ) → before.pages_full ≡ true
      → AnswersLines (AnswersTold texts rules) before lines text told → IsAsTold rules new told → new.pages_left < 2

  -- The text answers the tokens of a line of so many bytes: for whatever was told before that agreed with the store's
  -- state, the text is an allowed answer, and the new state agrees with what is told then.
  pub record AnswersTokens (len : ℕ) (old : StoreState K A) (ts : List Placed) (text : List ℕ) (new : StoreState K A) : Type 0 where
    pub said : Option (Answer K)
    pub is_text : text ≡ text_of_answer texts.key_text said
    pub replies : Tells rules old new (RepliesTokens texts rules len ts said)
