-- Events as methods: each has an answer of its own type, which stands for a reply to the event.
use Rattle.std.specs.Prelude.{ℕ, Option, Some, None, Result, Ok, Err}
use Rattle.key_class.specs.Rules.{Rules}
use Rattle.key_class.specs.declared.pred.Pred.{Pred}
use Rattle.key_class.specs.declared.refusal.Refusal.{Refusal}
use Rattle.mailbox.specs.Outlets.{Rule}
use Rattle.change_list.specs.declared.item.Item.{Item}
use Rattle.cursor.specs.declared.cursor.Turned.{Turned}
use Rattle.cursor.specs.declared.cursor.Turned.TheVariants as turned
use Rattle.world.specs.declared.event.Event.{Event}
use Rattle.world.specs.declared.event.Event.TheVariants as event
use Rattle.world.specs.declared.reply.Reply.{Reply}
use Rattle.world.specs.declared.reply.Reply.TheVariants as reply
use Rattle.world.specs.Promises.{ServesAll, FitsAtOpening, LowersCursorWork, KeepsMailboxes}
use Rattle.world.specs.Stamps.{Stamp}
use Rattle.world.specs.States.{State, IsSoundWorld}
use Rattle.world.specs.Steps.{Step}

module _ (E : Type 0) {K : Type 0} where
  -- the reply for a commit
  abbrev pub reply_of_commit : Result (Stamp K) Refusal → Reply K E
  reply_of_commit (Ok stamp) = reply.Committed stamp
  reply_of_commit (Err why) = reply.Refused why

  -- the reply for a visit of a finder, which is a commit if it met its row
  abbrev pub reply_of_visit : Result (Option (Stamp K)) Refusal → Reply K E
  reply_of_visit (Ok (Some stamp)) = reply.Committed stamp
  reply_of_visit (Ok None) = reply.Seeking
  reply_of_visit (Err why) = reply.Refused why

  -- the reply for a new finder, by its serial
  abbrev pub reply_of_finder : Result ℕ Refusal → Reply K E
  reply_of_finder (Ok serial) = reply.Finder serial
  reply_of_finder (Err why) = reply.Refused why

  -- the reply for a sweep, by how many dead rows were removed
  abbrev pub reply_of_sweep : Result ℕ Refusal → Reply K E
  reply_of_sweep (Ok count) = reply.Swept count
  reply_of_sweep (Err why) = reply.Refused why

  -- the reply for a new cursor: its serial, and the other end of its mailbox
  abbrev pub reply_of_opening : Result (ℕ × E) Refusal → Reply K E
  reply_of_opening (Ok (serial, end)) = reply.Opened serial end
  reply_of_opening (Err why) = reply.Refused why

  -- the reply for a turn
  abbrev pub reply_of_turn : Result Turned Refusal → Reply K E
  reply_of_turn (Ok turned.Offered) = reply.Offered
  reply_of_turn (Ok (turned.Visited page)) = reply.Visited page
  reply_of_turn (Ok (turned.Passed n)) = reply.Passed n
  reply_of_turn (Err why) = reply.Refused why

  -- the reply when a mark was asked for
  abbrev pub reply_of_asking : Result (Unit {0}) Refusal → Reply K E
  reply_of_asking (Ok done) = reply.Asked
  reply_of_asking (Err why) = reply.Refused why

  -- the reply for an item, if the mailbox has one
  abbrev pub reply_of_taking : Result (Option (Item K)) Refusal → Reply K E
  reply_of_taking (Ok (Some item)) = reply.Taken item
  reply_of_taking (Ok None) = reply.Nothing
  reply_of_taking (Err why) = reply.Refused why

  -- the reply when a cursor was closed
  abbrev pub reply_of_closing : Result (Unit {0}) Refusal → Reply K E
  reply_of_closing (Ok done) = reply.Closed
  reply_of_closing (Err why) = reply.Refused why

module _ (E : Type 0) {K A : Type 0} (rules : Rules K A) (rule : Rule) where
  -- one event with this reply, and what every step keeps
  pub record IsOneStep (seat : ℕ) (old : State K A) (event : Event K A) (reply : Reply K E) (new : State K A) : Type 0 where
    pub step : Step rules rule seat old event reply new
    pub sound : IsSoundWorld rules.is_cover new
    pub serves : ServesAll rules rule old event reply new
    pub opening : FitsAtOpening rules rule reply new
    pub less_work : LowersCursorWork rules rule old event reply new
    pub mailboxes : KeepsMailboxes rules rule old new

  -- a row is added to a leaf
  abbrev pub PlacesRow : ℕ → State K A → ℕ → K → ℕ → Result (Stamp K) Refusal → State K A → Type 0
  PlacesRow seat old leaf key tag made new = IsOneStep seat old (event.Place leaf key tag) (reply_of_commit E made) new

  -- a finder of a row is opened
  abbrev pub OpensFinder : State K A → ℕ → Result ℕ Refusal → State K A → Type 0
  OpensFinder old row made new = IsOneStep 0 old (event.Find row) (reply_of_finder E made) new

  -- a finder visits a page, and deletes its row if it meets it
  abbrev pub DeletesMet : ℕ → State K A → ℕ → Result (Option (Stamp K)) Refusal → State K A → Type 0
  DeletesMet seat old f made new = IsOneStep seat old (event.Seek f) (reply_of_visit E made) new

  -- a finder visits a page, and moves its row if it meets it
  abbrev pub MovesMet : ℕ → State K A → ℕ → ℕ → K → Result (Option (Stamp K)) Refusal → State K A → Type 0
  MovesMet seat old f leaf key made new = IsOneStep seat old (event.Move f leaf key) (reply_of_visit E made) new

  -- a leaf is swept
  abbrev pub SweepsPage : State K A → ℕ → Result ℕ Refusal → State K A → Type 0
  SweepsPage old page made new = IsOneStep 0 old (event.Sweep page) (reply_of_sweep E made) new

  -- a cursor is opened
  abbrev pub OpensCursor : State K A → Pred A → ℕ → Result (ℕ × E) Refusal → State K A → Type 0
  OpensCursor old query room made new = IsOneStep 0 old (event.Open query room) (reply_of_opening E made) new

  -- a cursor is opened that follows a commit
  abbrev pub OpensFollower : State K A → Pred A → ℕ → ℕ → Result (ℕ × E) Refusal → State K A → Type 0
  OpensFollower old query room n made new = IsOneStep 0 old (event.Follow query room n) (reply_of_opening E made) new

  -- a cursor turns
  abbrev pub TurnsCursor : State K A → ℕ → Result Turned Refusal → State K A → Type 0
  TurnsCursor old c made new = IsOneStep 0 old (event.Turn c) (reply_of_turn E made) new

  -- a cursor is asked for a mark
  abbrev pub AsksCursor : State K A → ℕ → Result (Unit {0}) Refusal → State K A → Type 0
  AsksCursor old c made new = IsOneStep 0 old (event.AskMark c) (reply_of_asking E made) new

  -- the front of a cursor's mailbox is taken
  abbrev pub TakesFront : State K A → ℕ → Result (Option (Item K)) Refusal → State K A → Type 0
  TakesFront old c made new = IsOneStep 0 old (event.Take c) (reply_of_taking E made) new

  -- a cursor is closed
  abbrev pub ClosesCursor : State K A → ℕ → Result (Unit {0}) Refusal → State K A → Type 0
  ClosesCursor old c made new = IsOneStep 0 old (event.Close c) (reply_of_closing E made) new
