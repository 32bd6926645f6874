-- What a trace needs to know of a step.
use Rattle.std.proofs.Common.{◌≡◌, ◌+◌, ◌<◌, ◌≤◌, ℕ, Bool, true, false, List, [], ◌∷◌, ◌++◌, length, Some, None, ◌⊎◌}
use Rattle.std.specs.Prelude.{option_to_list}
use Rattle.key_class.specs.Rules.{Rules}
use Rattle.mailbox.specs.Outlets.{Rule}
use Rattle.key_class.specs.Queries.{query_of}
use Rattle.key_class.specs.declared.pred.Pred.{Pred}
use Rattle.key_class.specs.declared.refusal.Refusal.TheVariants as refusal
use Rattle.change_list.specs.declared.write.Write.{Write}
use Rattle.change_list.specs.declared.write.Write.TheVariants.{Insert, Delete, Move}
use Rattle.change_list.specs.declared.item.Item.{Item}
use Rattle.change_list.specs.Changes.{IsLegal}
use Rattle.change_list.specs.Cursors.{Fits}
use Rattle.cursor.specs.OpenCursors.{OpenCursor, shown}
use Rattle.descent.specs.Finders.{OpenFinder}
use Rattle.world.specs.declared.event.Event.{Event}
use Rattle.world.specs.declared.event.Event.TheVariants as event
use Rattle.world.specs.declared.reply.Reply.{Reply}
use Rattle.world.specs.declared.reply.Reply.TheVariants as reply
use Rattle.world.specs.States.{State, cursor_at, finder_at}
use Rattle.world.specs.Traces.{written, taken_by, asks}
use Rattle.world.specs.Promises.{ServesAll}

module _ {K A : Type 0} where
  -- a cursor that is open before and after, and whose mailbox had the item at its front
  pub record Taking (old : State K A) (c : ℕ) (item : Item K) (new : State K A) : Type 0 where
    pub before : OpenCursor K A
    pub after : OpenCursor K A
    pub rest : List (Item K)
    pub was_open : cursor_at old c ≡ Some before
    pub is_open : cursor_at new c ≡ Some after
    pub front : before.unread ≡ item ∷ rest

  -- a serial that was given, and whose cursor is closed
  pub record IsShut (s : State K A) (c : ℕ) : Type 0 where
    pub positive : 0 < c
    pub given : c ≤ s.last
    pub closed : cursor_at s c ≡ None

module _ {K A : Type 0} (rules : Rules K A) (rule : Rule) where
  -- a cursor that wasn't there before, and begins behind commit s
  pub record IsFresh (old new : State K A) (follows : Bool) (s : ℕ) (query : Pred A) (c : ℕ) : Type 0 where
    pub serial : old.last < c
    pub given : c ≤ new.last
    pub cursor : OpenCursor K A
    pub is_open : cursor_at new c ≡ Some cursor
    pub query_is : cursor.query ≡ query_of query
    pub follows_is : cursor.follows ≡ follows
    pub opened : cursor.opened ≡ s
    pub unread : cursor.unread ≡ []
    pub fits : Fits rules.is_match new.commits (shown rules rule new.search.tree cursor) []

module _ {K A : Type 0} where
  -- a commit is the insert that was asked for, or the delete or the move of the row that the finder looks for
  abbrev pub WritesAs : State K A → Event K A → Write K → Type 0
  WritesAs old (event.Place page key tag) write = write ≡ Insert key tag
  WritesAs old (event.Seek f) write = (k : OpenFinder K) × (finder_at old f ≡ Some k) × (write ≡ Delete k.row)
  WritesAs old (event.Move f leaf key) write = (k : OpenFinder K) × (finder_at old f ≡ Some k) × (write ≡ Move k.row key)
  WritesAs old e write = ⊥

module _ {K A E : Type 0} (rules : Rules K A) (rule : Rule) where
  abbrev pub Opening : State K A → State K A → Event K A → Reply K E → Type 0
  Opening old new (event.Open query room) (reply.Opened c end) = IsFresh rules rule old new false (length old.commits) query c
  Opening old new (event.Follow query room n) (reply.Opened c end) = IsFresh rules rule old new true n query c
  Opening old new e (reply.Opened c end) = ⊥
  Opening old new e r = Unit {0}

  -- the reply tells the opening of cursor c
  pub record OpensIt (r : Reply K E) (c : ℕ) : Type 0 where
    pub end : E
    pub is : r ≡ reply.Opened c end

  abbrev pub Closing : State K A → Event K A → Reply K E → Type 0
  Closing new (event.Close c) reply.Closed = IsShut new c
  Closing new e r = Unit {0}

  abbrev pub Numbering : State K A → Reply K E → Type 0
  Numbering old (reply.Committed stamp) = stamp.number ≡ length old.commits + 1
  Numbering old r = Unit {0}

  -- a new finder has a serial above the last
  abbrev pub Finding : State K A → State K A → Event K A → Reply K E → Type 0
  Finding old new (event.Find row) (reply.Finder f) = (old.last_finder < f) × (f ≤ new.last_finder)
  Finding old new e r = Unit {0}

  abbrev pub Writing : State K A → Event K A → Reply K E → Type 0
  Writing old e (reply.Committed stamp) = WritesAs old e stamp.write
  Writing old e r = Unit {0}

  -- an open finder looks for the row for which it was open before, or was opened for
  abbrev pub WasAsked : State K A → Event K A → Reply K E → ℕ → ℕ → Type 0
  WasAsked old e r f row = ((k : OpenFinder K) × (finder_at old f ≡ Some k) × (k.row ≡ row)) ⊎ (◌≡◌ {A = Event K A × Reply K E} (e, r) (event.Find row, reply.Finder f))

  pub record FinderEffect (old : State K A) (e : Event K A) (r : Reply K E) (new : State K A) : Type 0 where
    pub last : old.last_finder ≤ new.last_finder
    pub asked : (f : ℕ) (k : OpenFinder K) → finder_at new f ≡ Some k → WasAsked old e r f k.row
    pub finding : Finding old new e r
    pub writing : Writing old e r

  pub record Effect (old : State K A) (e : Event K A) (r : Reply K E) (new : State K A) : Type 0 where
    pub commits : new.commits ≡ old.commits ++ option_to_list (written (e, r))
    pub legal : IsLegal new.commits
    pub serves : ServesAll rules rule old e r new
    pub last : old.last ≤ new.last
    pub within : (c : ℕ) (k : OpenCursor K A) → cursor_at new c ≡ Some k → c ≤ new.last
    -- a closed serial stays closed
    pub shut : (c : ℕ) → c ≤ old.last → cursor_at old c ≡ None → cursor_at new c ≡ None
    -- a cursor that appears has a new serial, holds nothing, is asked for no mark, is opened by the event, and nothing given fits it
    pub appears : (c : ℕ) (k : OpenCursor K A) → cursor_at old c ≡ None → cursor_at new c ≡ Some k → (old.last < c) × (k.unread ≡ []) × (k.asked ≡ false) × OpensIt r c × Fits rules.is_match new.commits (shown rules rule new.search.tree k) []
    pub takes : (c : ℕ) (item : Item K) → taken_by c (e, r) ≡ Some item → Taking old c item new
    pub opening : Opening old new e r
    pub closing : Closing new e r
    pub silent : (c : ℕ) → IsShut old c → asks e c → r ≡ reply.Refused refusal.CursorClosed
    pub numbering : Numbering old r
    pub finders : FinderEffect old e r new

-- a serial that is answered is a new one
pub opening_serial : {K A E : Type 0} (rules : Rules K A) (rule : Rule) (old new : State K A) (e : Event K A) (c : ℕ) (end : E) → Opening {E = E} rules rule old new e (reply.Opened c end)
    → (old.last < c) × (c ≤ new.last)
opening_serial rules rule old new (event.Open query room) c end f = (f.serial, f.given)
opening_serial rules rule old new (event.Follow query room n) c end f = (f.serial, f.given)
opening_serial rules rule old new e c end f = absurd f
