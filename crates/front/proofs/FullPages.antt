-- Once a client was told that the pages are full, it stays told.
use Rattle.std.proofs.Common.{◌≡◌, ℕ, Bool, true, List, [], ◌∷◌, length, Option, Result, Ok, Err, inl, inr, ap, ◌∙◌}
use Rattle.key_class.specs.Queries.{Query}
use Rattle.key_class.specs.declared.refusal.Refusal.{Refusal}
use Rattle.key_class.specs.declared.refusal.Refusal.TheVariants as refusal
use Rattle.key_class.specs.Rules.{Rules}
use Rattle.store.specs.States.{StoreState}
use Rattle.query_text.specs.Tokens.{Placed}
use Rattle.query_text.specs.ClassTexts.{Texts}
use Rattle.front.specs.declared.answer.Answer.{Answer}
use Rattle.front.specs.declared.answer.Answer.TheVariants as answer
use Rattle.front.specs.Requests.{Command, insert_row, delete_row, move_row, next_item, ask_mark, close_cursor, open_cursor, find_rows, sweep_all, asked_by, verb_of}
use Rattle.front.specs.Told.{Told, RefusesToEnd, RepliesInsert, RepliesDelete, RepliesMove, RepliesOpen, RepliesNext, RepliesMark, RepliesFind, RepliesSweep, RepliesClose}
use Rattle.front.specs.Conversations.{AnswersLine, AnswersLines}
use Rattle.front.specs.Sessions.{WithQuery, RepliesTo, RepliesAsked, RepliesTokens, AnswersTold, LacksPagesOnceTold}

module _ {K A : Type 0} where
  abbrev full : Told K A → Bool
  full told = told.pages_full

  insert_keeps : (key : K) (tag : ℕ) (said : Answer K) (old new : Told K A) → RepliesInsert key tag said old new → full old ≡ true → full new ≡ true
  insert_keeps key tag (answer.Committed n) old new h is = ap full h.2 ∙ is
  insert_keeps key tag (answer.Refused refusal.CommitsFull) old new h is = ap full h.1 ∙ is
  insert_keeps key tag (answer.Refused refusal.PagesFull) old new h is = ap full h.2
  insert_keeps key tag (answer.Refused refusal.OutOfMemory) old new h is = ap full h.1 ∙ is
  insert_keeps key tag _ old new h is = absurd h

  end_keeps : (row : ℕ) (why : Refusal) (old new : Told K A) → RefusesToEnd row why old new → full old ≡ true → full new ≡ true
  end_keeps row refusal.NoSuchRow old new h is = ap full h.1 ∙ is
  end_keeps row refusal.AlreadyDeleted old new h is = ap full h.1 ∙ is
  end_keeps row refusal.CommitsFull old new h is = ap full h.2 ∙ is
  end_keeps row refusal.OutOfMemory old new h is = ap full h.2 ∙ is
  end_keeps row refusal.FindersFull old new h is = ap full h.3 ∙ is
  end_keeps row _ old new h is = absurd h

  delete_keeps : (row : ℕ) (said : Answer K) (old new : Told K A) → RepliesDelete row said old new → full old ≡ true → full new ≡ true
  delete_keeps row (answer.Committed n) old new h is = ap full h.3 ∙ is
  delete_keeps row (answer.Refused why) old new h is = end_keeps row why old new h is
  delete_keeps row _ old new h is = absurd h

  move_keeps : (row : ℕ) (key : K) (said : Answer K) (old new : Told K A) → RepliesMove row key said old new → full old ≡ true → full new ≡ true
  move_keeps row key (answer.Committed n) old new h is = ap full h.3 ∙ is
  move_keeps row key (answer.Refused why) old new (inl h) is = end_keeps row why old new h is
  move_keeps row key (answer.Refused why) old new (inr h) is = ap full h.4
  move_keeps row key _ old new h is = absurd h

  open_keeps : (room : ℕ) (from : Option ℕ) (query : Query A) (said : Answer K) (old new : Told K A) → RepliesOpen room from query said old new → full old ≡ true → full new ≡ true
  open_keeps room from query (answer.Opened c) old new h is = ap full h.3 ∙ is
  open_keeps room from query (answer.Refused refusal.BadConfig) old new h is = ap full h.1 ∙ is
  open_keeps room from query (answer.Refused refusal.FromFuture) old new h is = ap full h.2 ∙ is
  open_keeps room from query (answer.Refused refusal.CursorsFull) old new h is = ap full h.2 ∙ is
  open_keeps room from query (answer.Refused refusal.OutOfMemory) old new h is = ap full h.2 ∙ is
  open_keeps room from query _ old new h is = absurd h

  mark_keeps : (c : ℕ) (said : Answer K) (old new : Told K A) → RepliesMark c said old new → full old ≡ true → full new ≡ true
  mark_keeps c answer.Asked old new h is = ap full h.2 ∙ is
  mark_keeps c (answer.Refused why) old new h is = ap full h.1 ∙ is
  mark_keeps c _ old new h is = absurd h

  close_keeps : (c : ℕ) (said : Answer K) (old new : Told K A) → RepliesClose c said old new → full old ≡ true → full new ≡ true
  close_keeps c answer.Closed old new h is = ap full h.2 ∙ is
  close_keeps c (answer.Refused why) old new h is = ap full h.1 ∙ is
  close_keeps c _ old new h is = absurd h

  sweep_keeps : (said : Answer K) (old new : Told K A) → RepliesSweep said old new → full old ≡ true → full new ≡ true
  sweep_keeps (answer.Swept n) old new h is = ap full h.5 ∙ is
  sweep_keeps (answer.Refused refusal.OutOfMemory) old new h is = ap full h.3 ∙ is
  sweep_keeps _ old new h is = absurd h

  module _ (rules : Rules K A) where
    find_keeps : (query : Query A) (said : Answer K) (old new : Told K A) → RepliesFind rules query said old new → full old ≡ true → full new ≡ true
    find_keeps query (answer.Found rows) old new h is = ap full h.1 ∙ is
    find_keeps query (answer.Refused refusal.OutOfMemory) old new h is = ap full h ∙ is
    find_keeps query _ old new h is = absurd h

    next_keeps : (c : ℕ) (said : Answer K) (old new : Told K A) → RepliesNext rules c said old new → full old ≡ true → full new ≡ true
    next_keeps c (answer.Given given) old new h is = ap full h.5 ∙ is
    next_keeps c answer.Empty old new h is = ap full h.4 ∙ is
    next_keeps c (answer.Refused why) old new h is = ap full h.1 ∙ is
    next_keeps c _ old new h is = absurd h

module _ {K A : Type 0} (texts : Texts K A) where
  query_keeps : (len : ℕ) (ts : List Placed) (replies : Query A → Answer K → Told K A → Told K A → Type 0) (said : Answer K) (old new : Told K A)
      → ((q : Query A) → replies q said old new → full old ≡ true → full new ≡ true) → WithQuery texts len ts replies said old new → full old ≡ true → full new ≡ true
  query_keeps len ts replies said old new k (inl h) is = k h.0 h.2 is
  query_keeps len ts replies said old new k (inr (inl h)) is = ap full h.3 ∙ is
  query_keeps len ts replies said old new k (inr (inr h)) is = ap full h.1 ∙ is

  module _ (rules : Rules K A) where
    command_keeps : (len : ℕ) (command : Command K) (said : Answer K) (old new : Told K A) → RepliesTo texts rules len command said old new → full old ≡ true → full new ≡ true
    command_keeps len (insert_row key tag) said old new h is = insert_keeps key tag said old new h is
    command_keeps len (delete_row row) said old new h is = delete_keeps row said old new h is
    command_keeps len (move_row row key) said old new h is = move_keeps row key said old new h is
    command_keeps len (open_cursor room from ts) said old new h is = query_keeps len ts (RepliesOpen room from) said old new (λ q. open_keeps room from q said old new) h is
    command_keeps len (next_item c) said old new h is = next_keeps rules c said old new h is
    command_keeps len (ask_mark c) said old new h is = mark_keeps c said old new h is
    command_keeps len (find_rows ts) said old new h is = query_keeps len ts (RepliesFind rules) said old new (λ q. find_keeps rules q said old new) h is
    command_keeps len sweep_all said old new h is = sweep_keeps said old new h is
    command_keeps len (close_cursor c) said old new h is = close_keeps c said old new h is

    asked_keeps : (len : ℕ) (asked : Result (Command K) ℕ) (said : Option (Answer K)) (old new : Told K A) → RepliesAsked texts rules len asked said old new → full old ≡ true → full new ≡ true
    asked_keeps len (Ok command) said old new h is = command_keeps len command h.0 old new h.2 is
    asked_keeps len (Err place) said old new h is = ap full h.1 ∙ is

    tokens_keep : (len : ℕ) (ts : List Placed) (said : Option (Answer K)) (old new : Told K A) → RepliesTokens texts rules len ts said old new → full old ≡ true → full new ≡ true
    tokens_keep len [] said old new h is = ap full h.1 ∙ is
    tokens_keep len (t ∷ ts) said old new h is = asked_keeps len (asked_by texts.key_at len t.place (verb_of t.token) ts) said old new h is

    line_keeps : (old new : Told K A) (line text : List ℕ) → AnswersLine (AnswersTold texts rules) old line text new → full old ≡ true → full new ≡ true
    line_keeps old new line text (inl h) is = ap full h.2 ∙ is
    line_keeps old new line text (inr h) is = tokens_keep (length line) h.1 h.3.0 old new h.3.2 is

    lines_keep : (old new : Told K A) (lines : List (List ℕ)) (text : List ℕ) → AnswersLines (AnswersTold texts rules) old lines text new → full old ≡ true → full new ≡ true
    lines_keep old new [] text h is = ap full h.1 ∙ is
    lines_keep old new (line ∷ lines) text h is = lines_keep h.1 new lines h.2 h.4 (line_keeps old h.1 line h.0 h.3 is)

    pub lacks_pages : (store : StoreState K A) → LacksPagesOnceTold texts rules store
    lacks_pages store before told lines text is answers as_told = as_told.pages (lines_keep before told lines text answers is)
