-- Which texts answer which event lines, and what becomes of the world.
use Rattle.std.specs.Prelude.{◌≡◌, ℕ, length, List, [], ◌∷◌, Result, Ok, Err, ◌⊎◌}
use Rattle.key_class.specs.Rules.{Rules}
use Rattle.key_class.specs.declared.refusal.Refusal.{Refusal}
use Rattle.key_class.specs.declared.refusal.Refusal.TheVariants as refusal
use Rattle.mailbox.specs.Outlets.{Tray, tray_rule}
use Rattle.query_text.specs.Tokens.{Placed}
use Rattle.query_text.specs.ClassTexts.{Texts}
use Rattle.world.specs.States.{State}
use Rattle.world.specs.Steps.{Step}
use Rattle.world.specs.declared.event.Event.{Event}
use Rattle.world.specs.declared.reply.Reply.{Reply}
use Rattle.world.specs.declared.reply.Reply.TheVariants as reply
use Rattle.front.specs.declared.event_request.EventRequest.{EventRequest}
use Rattle.front.specs.Conversations.{Exchange, AnsweredAll, AnsweredWhole, AnsweredFirst}
use Rattle.front.specs.EventLines.{Asked, IsEvent, IsNoEvent, event_asked_by, asked_of, event_verb_of}
use Rattle.front.specs.EventReplies.{reply_line}
use Rattle.front.specs.Replies.{refusal_line}

-- a reply of a world whose cursors have trays, so that opening one gives no consumer's end
abbrev pub TrayReply : Type 0 → Type 0
TrayReply K = Reply K Unit

module _ {K A : Type 0} (texts : Texts K A) (rules : Rules K A) where
  -- What a line of so many bytes asks is answered so: the event is one step of the world, with this reply; or there
  -- is no event, and nothing changes.
  abbrev pub RepliesToEvent : ℕ → State K A → Asked K A → TrayReply K → State K A → Type 0
  RepliesToEvent len old asked said new =
      ((event : Event K A) × IsEvent texts len asked event × Step rules tray_rule 0 old event said new)
      ⊎ ((why : Refusal) × IsNoEvent texts len asked why × (said ≡ reply.Refused why) × (new ≡ old))

  -- the same of a request, with lexemes of a text
  abbrev pub CarriesOut : List ℕ → EventRequest K → State K A → State K A → TrayReply K → Type 0
  CarriesOut text asked old new said = RepliesToEvent (length text) old (asked_of text asked) said new

  -- what is asked is answered by the line of the event's reply; a fault of the line is refused at its place
  abbrev pub AnswersAsked : ℕ → State K A → Result (Asked K A) ℕ → List ℕ → State K A → Type 0
  AnswersAsked len old (Ok asked) text new = (said : TrayReply K) × RepliesToEvent len old asked said new × (text ≡ reply_line texts.key_text said)
  AnswersAsked len old (Err place) text new = (text ≡ refusal_line (refusal.Line place)) × (new ≡ old)

  -- a line without a token has no answer
  abbrev pub AnswersEventTokens : ℕ → State K A → List Placed → List ℕ → State K A → Type 0
  AnswersEventTokens len old [] text new = (text ≡ []) × (new ≡ old)
  AnswersEventTokens len old (t ∷ ts) text new = AnswersAsked len old (event_asked_by texts.key_at len t.place (event_verb_of t.token) ts) text new

  -- What a world was given, by how the replay ended: the events of all lines up to the reader's end; those of the
  -- whole lines before the reader failed; those of some first lines, with a beginning of their answers written.

  abbrev pub ReplayedAll : State K A → State K A → Exchange → Type 0
  ReplayedAll old new io = AnsweredAll AnswersEventTokens old new io

  abbrev pub ReplayedWhole : State K A → State K A → Exchange → Type 0
  ReplayedWhole old new io = AnsweredWhole AnswersEventTokens old new io

  abbrev pub ReplayedFirst : State K A → State K A → Exchange → Type 0
  ReplayedFirst old new io = AnsweredFirst AnswersEventTokens old new io
