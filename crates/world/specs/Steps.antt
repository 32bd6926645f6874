-- How each event changes a world, and what is replied.
use Rattle.std.specs.Prelude.{◌≡◌, ℕ, suc, ◌+◌, Bool, true, false, ◌||◌, ◌&&◌, nat_eq, nat_le, nat_lt, List, [], ◌∷◌, ◌++◌, length, filter, Option, Some, None, is_none, Ok, Err, Result, ◌⊎◌}
use Rattle.std.specs.List.{zip}
use Rattle.key_class.specs.Rules.{Rules}
use Rattle.mailbox.specs.Outlets.{Rule, tray_rule}
use Rattle.key_class.specs.Limits.{greatest_serial, most_cursors, most_depth, most_finders, most_room}
use Rattle.key_class.specs.Queries.{query_of, depth_of}
use Rattle.key_class.specs.declared.pred.Pred.{Pred}
use Rattle.key_class.specs.declared.refusal.Refusal.{Refusal}
use Rattle.key_class.specs.declared.refusal.Refusal.TheVariants as refusal
use Rattle.change_list.specs.Changes.{HasKey, is_ended, row_at}
use Rattle.change_list.specs.declared.write.Write.TheVariants.{Insert, Delete, Move}
use Rattle.change_list.specs.declared.config.Config.{Config}
use Rattle.change_list.specs.declared.item.Item.{Item}
use Rattle.change_list.specs.declared.item.Row.{Row}
use Rattle.row_version.specs.Entries.{is_needed}
use Rattle.page_table.specs.Stacks.{StackItem}
use Rattle.page_table.specs.Trees.{page_at, after_rows}
use Rattle.split.specs.Steps.{after_split, after_post, after_grow, after_enlarge}
use Rattle.split.specs.Tests.{first_failing, place_tests, enlarge_tests, split_tests, post_tests, grow_tests, sweep_tests, HasUnneeded}
use Rattle.page_table.specs.LeafChanges.{after_bury, after_move, after_sweep}
use Rattle.scan.specs.Scanning.{PushesSome}
use Rattle.cursor.specs.declared.cursor.Turned.{Turned}
use Rattle.cursor.specs.declared.cursor.Turned.TheVariants as turned
use Rattle.cursor.specs.OpenCursors.{OpenCursor, Turns}
use Rattle.descent.specs.Finders.{OpenFinder, is_at_row, FindsRow, GoesFurther}
use Rattle.collector.specs.Horizons.{IsHorizon}
use Rattle.world.specs.declared.event.Event.{Event}
use Rattle.world.specs.declared.event.Event.TheVariants as event
use Rattle.world.specs.declared.reply.Reply.{Reply}
use Rattle.world.specs.declared.reply.Reply.TheVariants as reply
use Rattle.world.specs.Serials.{without}
use Rattle.world.specs.Stamps.{Stamp}
use Rattle.world.specs.States.{State, IsNextStamp, Meets, new_state, cursor_at, finder_at, with_pages, with_cursor, with_finder}
use Rattle.world.specs.Traces.{Trace}

-- the first test that fails gives the refusal
abbrev pub FirstFails : List (Bool × Refusal) → Refusal → Type 0
FirstFails tests why = first_failing tests ≡ Some why

-- these tests, if something is met; otherwise none of them fails
abbrev pub where_met : Bool → List (Bool × Refusal) → List (Bool × Refusal)
where_met met [] = []
where_met met ((fails, why) ∷ tests) = (met && fails, why) ∷ where_met met tests

-- the room or the query's depth is out of range
abbrev pub is_bad_opening : {A : Type 0} → Pred A → ℕ → Bool
is_bad_opening query room = nat_eq room 0 || (nat_lt most_room room || nat_lt most_depth (depth_of (query_of query)))

module _ {K A : Type 0} where
  -- the serial was given, and its cursor is open
  abbrev pub cursor_tests : State K A → ℕ → List (Bool × Refusal)
  cursor_tests old c =
      (nat_eq c 0 || nat_lt old.last c, refusal.NoSuchCursor)
      ∷ (is_none (cursor_at old c), refusal.CursorClosed)
      ∷ []

  -- there is no room or no serial for one more cursor
  abbrev pub is_full_of_cursors : State K A → Bool
  is_full_of_cursors old = nat_le most_cursors (length old.cursors) || nat_le greatest_serial old.last

  -- the room and the query's depth are in range, and there is room and a serial for one more cursor
  abbrev pub open_tests : State K A → Pred A → ℕ → List (Bool × Refusal)
  open_tests old query room = (is_bad_opening query room, refusal.BadConfig) ∷ (is_full_of_cursors old, refusal.CursorsFull) ∷ []

  -- the same for a cursor that follows commit n, which must exist
  abbrev pub follow_tests : State K A → Pred A → ℕ → ℕ → List (Bool × Refusal)
  follow_tests old query room n =
      (is_bad_opening query room, refusal.BadConfig)
      ∷ (nat_lt (length old.commits) n, refusal.FromFuture)
      ∷ (is_full_of_cursors old, refusal.CursorsFull)
      ∷ []

  -- there is room for one more commit
  abbrev pub commit_tests : State K A → List (Bool × Refusal)
  commit_tests old = (nat_le old.limit (length old.commits), refusal.CommitsFull) ∷ []

  -- there is no room or no serial for one more finder
  abbrev pub is_full_of_finders : State K A → Bool
  is_full_of_finders old = nat_le most_finders (length old.finders) || nat_le greatest_serial old.last_finder

  -- the row was made and isn't ended, and there is room and a serial for one more finder
  abbrev pub find_tests : State K A → ℕ → List (Bool × Refusal)
  find_tests old row =
      (is_none (row_at old.commits row), refusal.NoSuchRow)
      ∷ (is_ended old.commits row, refusal.AlreadyDeleted)
      ∷ (is_full_of_finders old, refusal.FindersFull)
      ∷ []

  -- the finder is open
  abbrev pub finder_tests : State K A → ℕ → List (Bool × Refusal)
  finder_tests old f = (is_none (finder_at old f), refusal.NoSuchFinder) ∷ []

  -- its row isn't ended; and further tests, if the page that it visits next holds the row
  abbrev pub row_tests : State K A → List (Bool × Refusal) → Option (OpenFinder K) → List (Bool × Refusal)
  row_tests old further (Some k) = (is_ended old.commits k.row, refusal.AlreadyDeleted) ∷ where_met (is_at_row old.search.tree k) further
  row_tests old further None = []

  -- the tests of a visit of a finder, with the further tests of what is done if it meets its row
  abbrev pub visit_tests : State K A → ℕ → List (Bool × Refusal) → List (Bool × Refusal)
  visit_tests old f further = finder_tests old f ++ row_tests old further (finder_at old f)

  -- a new cursor after a commit, with these pages to visit
  abbrev pub begun_cursor : State K A → Pred A → ℕ → Bool → ℕ → List StackItem → OpenCursor K A
  begun_cursor old query room follows opened stack = record {
    serial = old.last + 1;
    query = query_of query;
    follows = follows;
    opened = opened;
    stack = stack;
    pending = [];
    position = opened;
    asked = false;
    room = room;
    unread = [];
  }

  -- a cursor at the present commits, whose scan begins at the root
  abbrev pub opened_cursor : State K A → Pred A → ℕ → OpenCursor K A
  opened_cursor old query room = begun_cursor old query room false (length old.commits) ((record { page = 0; memo = old.search.tree.counter }) ∷ [])

  -- a cursor that follows commit n, without a snapshot and so without a scan
  abbrev pub following_cursor : State K A → Pred A → ℕ → ℕ → OpenCursor K A
  following_cursor old query room n = begun_cursor old query room true n []

  -- the commit is the next one, and its row is at the end of a leaf
  pub record Places (seat : ℕ) (old : State K A) (page : ℕ) (key : K) (tag : ℕ) (stamp : Stamp K) (new : State K A) : Type 0 where
    pub stamped : IsNextStamp old seat (Insert key tag) stamp
    pub after : new ≡ record old {
      search = record old.search { tree = after_rows old.search.tree page ((page_at old.search.tree page).rows ++ (record { key = key; row = length old.commits + 1; tag = tag; died = None }) ∷ []) };
      commits = old.commits ++ Insert key tag ∷ [];
    }

  pub record Posts (old : State K A) (page child : ℕ) (new : State K A) : Type 0 where
    pub sibling : ℕ
    pub is_right : (page_at old.search.tree child).right ≡ Some sibling
    pub after : new ≡ with_pages old (after_post old.search.tree page child sibling)

  -- a finder of the row begins at the root
  pub record Finds (old : State K A) (row f : ℕ) (new : State K A) : Type 0 where
    pub key : K
    pub made : HasKey old.commits row key
    pub serial : f ≡ old.last_finder + 1
    pub after : new ≡ record old {
      finders = old.finders ++ (record { serial = old.last_finder + 1; row = row; key = key; stack = (record { page = 0; memo = old.search.tree.counter }) ∷ [] }) ∷ [];
      last_finder = old.last_finder + 1;
    }

  -- the page that the finder visits holds its row: the next commit deletes the row, and the finder ends
  pub record Buries (seat : ℕ) (old : State K A) (f : ℕ) (stamp : Stamp K) (new : State K A) : Type 0 where
    pub finder : OpenFinder K
    pub is_open : finder_at old f ≡ Some finder
    pub page : ℕ
    pub finds : FindsRow old.search.tree finder page
    pub stamped : IsNextStamp old seat (Delete finder.row) stamp
    pub after : new ≡ record old {
      search = record old.search { tree = after_bury old.search.tree page finder.row (length old.commits + 1) };
      commits = old.commits ++ Delete finder.row ∷ [];
      finders = without (λ k. k.serial) f old.finders;
    }

  -- The page that the finder visits holds its row: the next commit moves the row, which is dead from then on, the
  -- leaf has the new row, with the new key, at its end, and the finder ends.
  pub record MovesRow (seat : ℕ) (old : State K A) (f leaf : ℕ) (key : K) (stamp : Stamp K) (new : State K A) : Type 0 where
    pub finder : OpenFinder K
    pub is_open : finder_at old f ≡ Some finder
    pub page : ℕ
    pub finds : FindsRow old.search.tree finder page
    pub row : Row K
    pub is_row : row_at old.commits finder.row ≡ Some row
    pub stamped : IsNextStamp old seat (Move finder.row key) stamp
    pub after : new ≡ record old {
      search = record old.search { tree = after_move old.search.tree page finder.row (length old.commits + 1) leaf (record { key = key; row = length old.commits + 1; tag = row.tag; died = None }) };
      commits = old.commits ++ Move finder.row key ∷ [];
      finders = without (λ k. k.serial) f old.finders;
    }

  -- the dead rows that aren't needed are removed, and their number is replied
  pub record SweepsLeaf (old : State K A) (page count : ℕ) (new : State K A) : Type 0 where
    pub horizon : ℕ
    pub is : IsHorizon (length old.commits) old.cursors horizon
    pub counted : count + length (filter (is_needed horizon) (page_at old.search.tree page).rows) ≡ length (page_at old.search.tree page).rows
    pub after : new ≡ with_pages old (after_sweep old.search.tree page horizon)

  -- memory ran out, and there is something to remove
  pub record RefusesSweep (old : State K A) (page : ℕ) (why : Refusal) : Type 0 where
    pub memory : why ≡ refusal.OutOfMemory
    pub horizon : ℕ
    pub is : IsHorizon (length old.commits) old.cursors horizon
    pub some : HasUnneeded horizon old.search.tree page

  -- the cursor is open, with the next serial
  pub record Opens (old : State K A) (cursor : OpenCursor K A) (c : ℕ) (new : State K A) : Type 0 where
    pub serial : c ≡ old.last + 1
    pub after : new ≡ record old { cursors = old.cursors ++ cursor ∷ []; last = old.last + 1 }

  pub record Asks (old : State K A) (c : ℕ) (new : State K A) : Type 0 where
    pub before : OpenCursor K A
    pub is_open : cursor_at old c ≡ Some before
    pub after : new ≡ with_cursor old (record before { asked = true })

  pub record TakesItem (old : State K A) (c : ℕ) (item : Item K) (new : State K A) : Type 0 where
    pub before : OpenCursor K A
    pub is_open : cursor_at old c ≡ Some before
    pub rest : List (Item K)
    pub front : before.unread ≡ item ∷ rest
    pub after : new ≡ with_cursor old (record before { unread = rest })

  pub record FindsNothing (old : State K A) (c : ℕ) (new : State K A) : Type 0 where
    pub before : OpenCursor K A
    pub is_open : cursor_at old c ≡ Some before
    pub empty : before.unread ≡ []
    pub unchanged : new ≡ old

module _ {K A : Type 0} (rules : Rules K A) (rule : Rule) where
  -- the cursor c turned so
  pub record TurnsAt (old : State K A) (c : ℕ) (how : Result Turned Refusal) (new : State K A) : Type 0 where
    pub before : OpenCursor K A
    pub later : OpenCursor K A
    pub is_open : cursor_at old c ≡ Some before
    pub turn : Turns rules rule old.search.tree old.commits before how later
    pub after : new ≡ with_cursor old later

  -- the page that the finder visits doesn't hold its row, and the finder goes on
  pub record SeeksOn (old : State K A) (f : ℕ) (new : State K A) : Type 0 where
    pub before : OpenFinder K
    pub later : OpenFinder K
    pub is_open : finder_at old f ≡ Some before
    pub page : ℕ
    pub further : GoesFurther rules.is_cover old.search.tree before page later
    pub after : new ≡ with_finder old later

  -- memory ran out, and the page that the finder visits holds its row, or something is pushed after it
  pub record RefusesVisit (old : State K A) (f : ℕ) (why : Refusal) : Type 0 where
    pub memory : why ≡ refusal.OutOfMemory
    pub finder : OpenFinder K
    pub is_open : finder_at old f ≡ Some finder
    pub grows : (is_at_row old.search.tree finder ≡ true) ⊎ PushesSome (λ bound. rules.is_cover bound finder.key) old.search.tree finder.stack

  -- why a visit of a finder is refused, apart from the tests of what is done if it meets its row
  abbrev pub IsRefusedVisit : State K A → ℕ → Refusal → Type 0
  IsRefusedVisit old f why = (further : List (Bool × Refusal))
      → (first_failing (visit_tests old f further) ≡ Some why) ⊎ ((first_failing (visit_tests old f further) ≡ None) × RefusesVisit old f why)

  -- a visit of a finder: it meets its row on a page, and has this place among the finders; or it goes on; or it is
  -- refused
  abbrev pub VisitsFor : State K A → ℕ → Result (Option (ℕ × ℕ)) Refusal → State K A → Type 0
  VisitsFor old f (Ok (Some (at, page))) new = Meets old f at page × (new ≡ old)
  VisitsFor old f (Ok None) new = ((further : List (Bool × Refusal)) → first_failing (visit_tests old f further) ≡ None) × SeeksOn old f new
  VisitsFor old f (Err why) new = IsRefusedVisit old f why × (new ≡ old)

  pub record RefusesTurn (old : State K A) (c : ℕ) (why : Refusal) : Type 0 where
    pub cursor : OpenCursor K A
    pub is_open : cursor_at old c ≡ Some cursor
    pub turn : Turns rules rule old.search.tree old.commits cursor (Err why) cursor

module _ {K A : Type 0} where
  -- an equal event; the copy of a query has other addresses
  abbrev pub IsCopy : Event K A → Event K A → Type 0
  IsCopy (event.Open query room) copy = (other : Pred A) × (query_of other ≡ query_of query) × (copy ≡ event.Open other room)
  IsCopy (event.Follow query room n) copy = (other : Pred A) × (query_of other ≡ query_of query) × (copy ≡ event.Follow other room n)
  IsCopy event copy = copy ≡ event

module _ {K A : Type 0} (rules : Rules K A) (rule : Rule) where
  -- the tests of an event in order, each true if it fails
  abbrev pub tests : State K A → Event K A → List (Bool × Refusal)
  tests old (event.Enlarge page child key) = enlarge_tests rules.is_cover old.search page child key
  tests old (event.Place page key tag) = place_tests rules.is_cover old.search page key ++ commit_tests old
  tests old (event.Split page sides) = split_tests old.search page sides
  tests old (event.Post page child) = post_tests old.search page child
  tests old (event.Grow sides) = grow_tests old.search sides
  tests old (event.Find row) = find_tests old row
  tests old (event.Seek f) = visit_tests old f (commit_tests old)
  tests old (event.Move f leaf key) = visit_tests old f (place_tests rules.is_cover old.search leaf key ++ commit_tests old)
  tests old (event.Unfind f) = finder_tests old f
  tests old (event.Sweep page) = sweep_tests old.search page
  tests old (event.Open query room) = open_tests old query room
  tests old (event.Follow query room n) = follow_tests old query room n
  tests old (event.Turn c) = cursor_tests old c
  tests old (event.AskMark c) = cursor_tests old c
  tests old (event.Take c) = cursor_tests old c ++ (rule.is_emptied_elsewhere, refusal.NotHere) ∷ []
  tests old (event.Close c) = cursor_tests old c

  -- If all tests pass, an event that opens something or changes a page is refused only for lack of memory; so is a
  -- seek or a move, if it ends its row or pushes a page, and a sweep, if it removes something. A turn is refused by
  -- its own rule. Ending a finder, asking for a mark, taking and closing are never refused then.
  abbrev pub RefusesLater : State K A → Event K A → Refusal → Type 0
  RefusesLater old (event.Seek f) why = RefusesVisit rules rule old f why
  RefusesLater old (event.Move f leaf key) why = RefusesVisit rules rule old f why
  RefusesLater old (event.Unfind f) why = ⊥
  RefusesLater old (event.Sweep page) why = RefusesSweep old page why
  RefusesLater old (event.Turn c) why = RefusesTurn rules rule old c why
  RefusesLater old (event.AskMark c) why = ⊥
  RefusesLater old (event.Take c) why = ⊥
  RefusesLater old (event.Close c) why = ⊥
  RefusesLater old event why = why ≡ refusal.OutOfMemory

  -- why an event is refused: by the first test that fails; and nothing changes then
  pub record IsRefused (old : State K A) (event : Event K A) (why : Refusal) (new : State K A) : Type 0 where
    pub cause : (first_failing (tests old event) ≡ Some why) ⊎ ((first_failing (tests old event) ≡ None) × RefusesLater old event why)
    pub unchanged : new ≡ old

module _ {K A E : Type 0} (rules : Rules K A) (rule : Rule) where
  -- how an event changes a world, with its reply
  abbrev pub Changes : ℕ → State K A → Event K A → Reply K E → State K A → Type 0
  Changes seat old (event.Enlarge page child key) reply.Enlarged new = new ≡ with_pages old (after_enlarge rules.union_of old.search.tree page child key)
  Changes seat old (event.Place page key tag) (reply.Committed stamp) new = Places seat old page key tag stamp new
  Changes seat old (event.Split page sides) (reply.Split sibling) new =
      (sibling ≡ length old.search.tree.pages) × (new ≡ with_pages old (after_split rules.union_of old.search.tree page sides))
  Changes seat old (event.Post page child) reply.Posted new = Posts old page child new
  Changes seat old (event.Grow sides) (reply.Grown first second) new =
      (first ≡ length old.search.tree.pages) × (second ≡ suc (length old.search.tree.pages)) × (new ≡ with_pages old (after_grow rules.union_of old.search.tree sides))
  Changes seat old (event.Find row) (reply.Finder f) new = Finds old row f new
  Changes seat old (event.Seek f) (reply.Committed stamp) new = Buries seat old f stamp new
  Changes seat old (event.Seek f) reply.Seeking new = SeeksOn rules rule old f new
  Changes seat old (event.Move f leaf key) (reply.Committed stamp) new = MovesRow seat old f leaf key stamp new
  Changes seat old (event.Move f leaf key) reply.Seeking new = SeeksOn rules rule old f new
  Changes seat old (event.Unfind f) reply.Unfound new = new ≡ record old { finders = without (λ k. k.serial) f old.finders }
  Changes seat old (event.Sweep page) (reply.Swept count) new = SweepsLeaf old page count new
  Changes seat old (event.Open query room) (reply.Opened c end) new = Opens old (opened_cursor old query room) c new
  Changes seat old (event.Follow query room n) (reply.Opened c end) new = Opens old (following_cursor old query room n) c new
  Changes seat old (event.Turn c) reply.Offered new = TurnsAt rules rule old c (Ok turned.Offered) new
  Changes seat old (event.Turn c) (reply.Visited page) new = TurnsAt rules rule old c (Ok (turned.Visited page)) new
  Changes seat old (event.Turn c) (reply.Passed n) new = TurnsAt rules rule old c (Ok (turned.Passed n)) new
  Changes seat old (event.AskMark c) reply.Asked new = Asks old c new
  Changes seat old (event.Take c) (reply.Taken item) new = TakesItem old c item new
  Changes seat old (event.Take c) reply.Nothing new = FindsNothing old c new
  Changes seat old (event.Close c) reply.Closed new = new ≡ record old { cursors = without (λ k. k.serial) c old.cursors }
  Changes seat old event reply new = ⊥

  pub record IsCarriedOut (seat : ℕ) (old : State K A) (event : Event K A) (reply : Reply K E) (new : State K A) : Type 0 where
    pub passed : first_failing (tests rules rule old event) ≡ None
    pub change : Changes seat old event reply new

  -- from old, an event for a seat may have this reply, and leads to new
  abbrev pub Step : ℕ → State K A → Event K A → Reply K E → State K A → Type 0
  Step seat old event (reply.Refused why) new = IsRefused rules rule old event why new
  Step seat old event reply new = IsCarriedOut seat old event reply new

  -- whatever the seat, the event has this reply and leads to new: a step that makes no commit
  abbrev pub Acts : State K A → Event K A → Reply K E → State K A → Type 0
  Acts old event reply new = (seat : ℕ) → Step seat old event reply new

  -- from old, the events of a trace have these replies, one step after another, and lead to new
  abbrev pub Runs : State K A → Trace K A E → State K A → Type 0
  Runs old [] new = new ≡ old
  Runs old (moment ∷ trace) new = (mid : State K A) × Step 0 old moment.0 moment.1 mid × Runs mid trace new

module _ {K A E : Type 0} (rules : Rules K A) where
  -- from a new world with trays, the events have these replies
  abbrev pub IsRun : Config → List (Event K A) → List (Reply K E) → Type 0
  IsRun config events replies = (last : State K A) × Runs rules tray_rule (new_state config) (zip events replies) last
