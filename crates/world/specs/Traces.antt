-- A trace: what its events committed, and what each cursor delivered. Pages, links, stacks and mailboxes aren't mentioned.
-- K is the type of keys, A of a query's atoms, E of the other end of a mailbox.
use Rattle.std.specs.Prelude.{◌≡◌, ℕ, suc, ◌+◌, ◌<◌, ◌≤◌, Bool, List, length, take, Option, Some, None, slice_get, nat_eq, if◌then◌else◌}
use Rattle.std.specs.List.{filter_map, zip}
use Rattle.key_class.specs.Rules.{Rules}
use Rattle.key_class.specs.Queries.{query_of, matches_query}
use Rattle.key_class.specs.declared.pred.Pred.{Pred}
use Rattle.key_class.specs.declared.refusal.Refusal.TheVariants as refusal
use Rattle.change_list.specs.declared.write.Write.{Write}
use Rattle.change_list.specs.declared.write.Write.TheVariants.{Insert, Delete, Move}
use Rattle.change_list.specs.declared.item.Item.{Item}
use Rattle.change_list.specs.declared.item.Item.TheVariants as item
use Rattle.change_list.specs.Changes.{IsLegal}
use Rattle.change_list.specs.Listings.{IsListing, BeginsListing, AreChanges, BeginsChanges, without_marks}
use Rattle.world.specs.declared.event.Event.{Event}
use Rattle.world.specs.declared.event.Event.TheVariants as event
use Rattle.world.specs.declared.reply.Reply.{Reply}
use Rattle.world.specs.declared.reply.Reply.TheVariants as reply
use Rattle.world.specs.Stamps.{Stamp}

module _ {K : Type 0} where
  abbrev pub mark_number : Item K → Option ℕ
  mark_number (item.Mark n) = Some n
  mark_number other = None

  -- the numbers of the marks among some items
  abbrev pub marks_of : List (Item K) → List ℕ
  marks_of items = filter_map mark_number items

module _ {K A : Type 0} where
  -- the event is about cursor c
  abbrev pub asks : Event K A → ℕ → Type 0
  asks (event.Turn d) c = d ≡ c
  asks (event.AskMark d) c = d ≡ c
  asks (event.Take d) c = d ≡ c
  asks (event.Close d) c = d ≡ c
  asks event c = ⊥

-- an event with its reply
abbrev pub Moment : (K A E : Type 0) → Type 0
Moment K A E = Event K A × Reply K E

-- events with their replies, in order
abbrev pub Trace : (K A E : Type 0) → Type 0
Trace K A E = List (Moment K A E)

module _ {K A E : Type 0} where
  -- at this place of the trace is the event, with this reply; the first place is 0
  abbrev pub IsMoment : Trace K A E → ℕ → Event K A → Reply K E → Type 0
  IsMoment trace place event reply = slice_get trace place ≡ Some (event, reply)

  -- the write of a reply that tells a commit
  abbrev pub written : Moment K A E → Option (Write K)
  written (event, reply.Committed stamp) = Some stamp.write
  written (event, reply) = None

  -- the commits of a trace, in order
  abbrev pub commits_of : Trace K A E → List (Write K)
  commits_of trace = filter_map written trace

  -- how many commits were made before a place of the trace
  abbrev pub commits_before : ℕ → Trace K A E → ℕ
  commits_before place trace = length (commits_of (take place trace))

  abbrev pub taken_by : ℕ → Moment K A E → Option (Item K)
  taken_by c (event.Take d, reply.Taken item) = if nat_eq d c then Some item else None
  taken_by c (event, reply) = None

  -- what was taken from cursor c, in order
  abbrev pub taken : ℕ → Trace K A E → List (Item K)
  taken c trace = filter_map (taken_by c) trace

  -- what cursor c has delivered, in order: what was taken, without marks
  abbrev pub delivered : ℕ → Trace K A E → List (Item K)
  delivered c trace = without_marks (taken c trace)

  -- at this place of the trace a mark was asked of cursor c, when at most n commits had been made
  pub record IsAsking (trace : Trace K A E) (c place n : ℕ) : Type 0 where
    pub asked : IsMoment trace place (event.AskMark c) reply.Asked
    pub commits : commits_before place trace ≤ n

  -- Each mark taken from cursor c was asked for by an event of its own: before the mark was taken, after the asking
  -- of the mark before, and when there were at most as many commits as the mark's number.
  pub record HasAskings (trace : Trace K A E) (c : ℕ) : Type 0 where
    pub places : List ℕ
    pub rising : (j first second : ℕ) → slice_get places j ≡ Some first → slice_get places (suc j) ≡ Some second → first < second
    pub each : (i n : ℕ) → IsMoment trace i (event.Take c) (reply.Taken (item.Mark n))
        → (place : ℕ) × (slice_get places (length (marks_of (taken c (take i trace)))) ≡ Some place) × (place < i) × IsAsking trace c place n

  -- the place of a trace at which a cursor was opened, with its query
  pub record IsOpening (trace : Trace K A E) (i c : ℕ) (query : Pred A) : Type 0 where
    pub room : ℕ
    pub end : E
    pub is : IsMoment trace i (event.Open query room) (reply.Opened c end)

  -- the place of a trace at which a cursor was opened that follows commit n, with its query
  pub record IsFollowing (trace : Trace K A E) (i c n : ℕ) (query : Pred A) : Type 0 where
    pub room : ℕ
    pub end : E
    pub is : IsMoment trace i (event.Follow query room n) (reply.Opened c end)

  -- cursor c was opened
  pub record WasOpened (trace : Trace K A E) (c : ℕ) : Type 0 where
    pub place : ℕ
    pub opening : Event K A
    pub end : E
    pub is : IsMoment trace place opening (reply.Opened c end)

  -- a finder of the row was opened with that serial
  pub record HasFinder (trace : Trace K A E) (f row : ℕ) : Type 0 where
    pub place : ℕ
    pub is : IsMoment trace place (event.Find row) (reply.Finder f)

  -- what an event writes: a place inserts its row; a seek deletes and a move moves the row that its finder looks for
  abbrev pub IsWriteOf : Trace K A E → Event K A → Write K → Type 0
  IsWriteOf before (event.Place page key tag) write = write ≡ Insert key tag
  IsWriteOf before (event.Seek f) write = (row : ℕ) × HasFinder before f row × (write ≡ Delete row)
  IsWriteOf before (event.Move f leaf key) write = (row : ℕ) × HasFinder before f row × (write ≡ Move row key)
  IsWriteOf before event write = ⊥

  -- The headline. The commits are numbered in order, each is the write of its event, and they are a legal list. What a
  -- cursor has delivered begins a listing for its query from its opening to the last commit. A mark that was taken shows
  -- that all of it up to the mark's commit was delivered, and was asked for. A closed cursor delivers nothing more. What a
  -- cursor opened from commit n has delivered begins the matching changes after n, each once, in commit order.
  pub record IsFaithful (matching : A → K → Bool) (trace : Trace K A E) : Type 0 where
    pub numbered : (i : ℕ) (e : Event K A) (stamp : Stamp K) → IsMoment trace i e (reply.Committed stamp) → stamp.number ≡ commits_before i trace + 1
    pub writes : (i : ℕ) (e : Event K A) (stamp : Stamp K) → IsMoment trace i e (reply.Committed stamp) → IsWriteOf (take i trace) e stamp.write
    pub legal : IsLegal (commits_of trace)
    -- no serial is given to two finders
    pub finders : (i j f row other : ℕ) → IsMoment trace i (event.Find row) (reply.Finder f) → IsMoment trace j (event.Find other) (reply.Finder f) → i ≡ j
    -- no serial is given to two cursors
    pub cursors : (i j c : ℕ) (e f : Event K A) (end other : E) → IsMoment trace i e (reply.Opened c end) → IsMoment trace j f (reply.Opened c other) → i ≡ j
    -- what is taken from a cursor is taken after its opening
    pub opened : (j c : ℕ) (x : Item K) → IsMoment trace j (event.Take c) (reply.Taken x) → WasOpened (take j trace) c
    pub delivers : (i c : ℕ) (query : Pred A) → IsOpening trace i c query
        → BeginsListing (matches_query matching (query_of query)) (commits_before i trace) (length (commits_of trace)) (commits_of trace) (delivered c trace)
    pub marks : (i j c n : ℕ) (query : Pred A) → IsOpening trace i c query → IsMoment trace j (event.Take c) (reply.Taken (item.Mark n))
        → IsListing (matches_query matching (query_of query)) (commits_before i trace) n (commits_of trace) (delivered c (take j trace))
    pub follows : (i c n : ℕ) (query : Pred A) → IsFollowing trace i c n query
        → BeginsChanges (matches_query matching (query_of query)) n (length (commits_of trace)) (commits_of trace) (delivered c trace)
    pub marks_behind : (i j c n m : ℕ) (query : Pred A) → IsFollowing trace i c n query → IsMoment trace j (event.Take c) (reply.Taken (item.Mark m))
        → AreChanges (matches_query matching (query_of query)) n m (commits_of trace) (delivered c (take j trace))
    pub askings : (c : ℕ) → HasAskings trace c
    pub closed : (i j c : ℕ) (later : Event K A) (answer : Reply K E) → IsMoment trace i (event.Close c) reply.Closed → i < j → IsMoment trace j later answer → asks later c
        → answer ≡ reply.Refused refusal.CursorClosed

  -- This holds at every moment: each beginning of the trace is faithful. Hence the number of a mark is at most the
  -- number of commits at the moment when it is taken.
  abbrev pub IsAlwaysFaithful : (A → K → Bool) → Trace K A E → Type 0
  IsAlwaysFaithful matching trace = (count : ℕ) → IsFaithful matching (take count trace)

  -- the trace of the events with their replies is faithful at every moment
  abbrev pub AreFaithful : Rules K A → List (Event K A) → List (Reply K E) → Type 0
  AreFaithful rules events replies = IsAlwaysFaithful rules.is_match (zip events replies)
