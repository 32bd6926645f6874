-- Several turns of a cursor in a row.
use Rattle.std.specs.Prelude.{◌≡◌, ◌≢◌, ◌⊎◌, ℕ, ◌<◌, List, length, slice_get, All, Option, Some}
use Rattle.std.specs.declared.alloc.Global.{Global}
use Rattle.rtrb.specs.declared.AnyItems.{AnyItems}
use Rattle.rtrb.specs.declared.consumer.Consumer.{Consumer}
use Rattle.key_class.specs.Rules.{Rules}
use Rattle.key_class.specs.declared.refusal.Refusal.{Refusal}
use Rattle.mailbox.specs.Rings.{Ring}
use Rattle.change_list.specs.declared.item.Item.{Item}
use Rattle.world.specs.declared.event.Event.TheVariants as event
use Rattle.world.specs.declared.reply.Reply.{Reply}
use Rattle.world.specs.declared.reply.Reply.TheVariants as reply
use Rattle.desk.specs.Visits.{IsReplied}

-- a desk's reply to an event
abbrev pub DeskReply : Type 0 → Type 0
DeskReply K = Reply K (Consumer (Item K) Global AnyItems)

module _ {K A : Type 0} (rules : Rules K A) where
  -- a turn of the cursor was made, with this reply
  pub record IsTurnMade (cursor : ℕ) (answer : DeskReply K) : Type 0 where
    pub replied : IsReplied rules (event.Turn cursor) answer
    pub done : (why : Refusal) → answer ≢ reply.Refused why

  -- this many turns of the cursor were made in a row, and the last got this reply
  pub record TurnsInARow (cursor made : ℕ) (last : Option (DeskReply K)) : Type 0 where
    -- the reply to each of them, the latest first
    pub answers : List (DeskReply K)
    pub turned : All (IsTurnMade cursor) answers
    pub count : length answers ≡ made
    pub latest : last ≡ slice_get answers 0

  -- this many turns were made of more that were asked for, and then one was refused
  pub record EndsByRefusal (cursor times made : ℕ) (last : Option (DeskReply K)) : Type 0 where
    pub fewer : made < times
    pub before : Option (DeskReply K)
    pub turned : TurnsInARow cursor made before
    pub why : Refusal
    pub is : last ≡ Some (reply.Refused why)
    pub refused : IsReplied rules (event.Turn cursor) (reply.Refused why)

  -- as many turns as were asked for, or those up to the first that was refused
  abbrev pub MakesTurns : ℕ → ℕ → ℕ → Option (DeskReply K) → Type 0
  MakesTurns cursor times made last = ((made ≡ times) × TurnsInARow cursor made last) ⊎ EndsByRefusal cursor times made last
