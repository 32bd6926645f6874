-- What contracts see of an open cursor, and a turn of it.
use Rattle.std.specs.Prelude.{◌≡◌, ℕ, ◌+◌, ◌<◌, ◌≤◌, Bool, true, false, nat_lt, List, [], ◌∷◌, ◌++◌, length, drop, Option, Some, None, Result, Ok, Err, OnOk, slice_get, if◌then◌else◌}
use Rattle.std.specs.Arc.{arc_value}
use Rattle.std.specs.declared.sync.Arc.{Arc}
use Rattle.key_class.specs.declared.pred.Pred.{Pred}
use Rattle.key_class.specs.Rules.{Rules}
use Rattle.key_class.specs.Queries.{Query, query_of, matches_query, consistent_with_query}
use Rattle.key_class.specs.declared.refusal.Refusal.{Refusal}
use Rattle.key_class.specs.declared.refusal.Refusal.TheVariants as refusal
use Rattle.change_list.specs.declared.write.Write.{Write}
use Rattle.change_list.specs.declared.item.Row.{Row}
use Rattle.change_list.specs.declared.item.Item.{Item}
use Rattle.change_list.specs.declared.item.Item.TheVariants as item
use Rattle.change_list.specs.Changes.{item_at}
use Rattle.change_list.specs.Cursors.{CursorState, work}
use Rattle.mailbox.specs.Outlets.{Rule}
use Rattle.page_table.specs.Soundness.{IsSound}
use Rattle.page_table.specs.Trees.{Tree}
use Rattle.page_table.specs.Stacks.{StackItem, pages_left}
use Rattle.scan.specs.Scanning.{Visits, VisitGrows, to_find}
use Rattle.cursor.specs.declared.cursor.Turned.{Turned}
use Rattle.cursor.specs.declared.cursor.Turned.TheVariants as turned

-- an open cursor over a tree
pub record OpenCursor (K A : Type 0) : Type 0 where
  pub serial : ℕ
  pub query : Query A
  -- it follows a commit, so it was opened without a snapshot
  pub follows : Bool
  -- the number of commits at its opening, or the commit that it follows
  pub opened : ℕ
  -- the pages that its scan still has to visit, the next one last
  pub stack : List StackItem
  -- rows that it found and hasn't offered yet
  pub pending : List (Row K)
  -- the changes up to this commit were offered or passed
  pub position : ℕ
  -- a mark was asked for and not offered yet
  pub asked : Bool
  -- how many items its outlet has room for
  pub room : ℕ
  -- what was offered and not taken on this side
  pub unread : List (Item K)

-- what a turn has to do
pub data Task (K : Type 0) : Type 0 where
  offer : Item K → Task K
  visit : Task K
  pass : Task K
  rest : Task K

abbrev pub is_scanning : List StackItem → Bool
is_scanning [] = false
is_scanning (i ∷ items) = true

module _ {K : Type 0} where
  abbrev pub task_of : Option (Row K) → Bool → Option (Option (Item K)) → Bool → ℕ → Task K
  task_of (Some row) scanning change asked position = offer (item.Row row)
  task_of None true change asked position = visit
  task_of None false (Some (Some change)) asked position = offer change
  task_of None false (Some None) asked position = pass
  task_of None false None true position = offer (item.Mark position)
  task_of None false None false position = rest

module _ {K A : Type 0} where
  -- a cursor that begins after a commit, with these pages to visit; it follows the commit, or has a snapshot
  abbrev pub new_cursor : {O Z : Type 0} → (O → ℕ) → (O → List (Item K)) → ℕ → Arc (Pred A) Z → Bool → ℕ → List StackItem → O → OpenCursor K A
  new_cursor room_of unread serial query follows opened stack outlet = record {
    serial = serial;
    query = query_of (arc_value query);
    follows = follows;
    opened = opened;
    stack = stack;
    pending = [];
    position = opened;
    asked = false;
    room = room_of outlet;
    unread = unread outlet;
  }

  -- the cursor, once its outlet took the item of its task
  abbrev pub sent : Item K → OpenCursor K A → OpenCursor K A
  sent (item.Row row) k = record k { pending = drop 1 k.pending; unread = k.unread ++ item.Row row ∷ [] }
  sent (item.Inserted row) k = record k { position = k.position + 1; unread = k.unread ++ item.Inserted row ∷ [] }
  sent (item.Deleted n row) k = record k { position = k.position + 1; unread = k.unread ++ item.Deleted n row ∷ [] }
  sent (item.Moved row other) k = record k { position = k.position + 1; unread = k.unread ++ item.Moved row other ∷ [] }
  sent (item.Mark n) k = record k { asked = false; unread = k.unread ++ item.Mark n ∷ [] }

module _ {K A : Type 0} (rules : Rules K A) (rule : Rule) where
  -- the keys that a cursor's query asks for, and the bounds below which such a key may be
  abbrev pub wants : OpenCursor K A → K → Bool
  wants k = matches_query rules.is_match k.query

  abbrev pub admits : OpenCursor K A → K → Bool
  admits k = consistent_with_query rules.is_consistent k.query

  -- the next commit, if there is one, and its item, if it is wanted
  abbrev pub next_change : List (Write K) → OpenCursor K A → Option (Option (Item K))
  next_change commits k = if nat_lt k.position (length commits) then Some (item_at (wants k) commits k.position) else None

  -- The first of these that applies: a pending row is offered; a page is visited; the next change is offered, or a
  -- commit that doesn't match is passed; a mark that was asked for is offered; there is nothing to do.
  abbrev pub task : List (Write K) → OpenCursor K A → Task K
  task commits k = task_of (slice_get k.pending 0) (is_scanning k.stack) (next_change commits k) k.asked k.position

  pub record VisitsPage (t : Tree K) (old : OpenCursor K A) (page : ℕ) (new : OpenCursor K A) : Type 0 where
    pub stack : List StackItem
    pub noted : List (Row K)
    pub visits : Visits (admits old) (wants old) old.opened t old.stack page noted stack
    pub after : new ≡ record old { stack = stack; pending = noted }

  -- the outlet takes an item, or hands it back
  pub record Sends (commits : List (Write K)) (old new : OpenCursor K A) : Type 0 where
    pub item : Item K
    pub due : task commits old ≡ offer item
    pub taken : rule.may_take old.room (length old.unread) ≡ true
    pub after : new ≡ sent item old

  pub record IsHandedBack (commits : List (Write K)) (old new : OpenCursor K A) : Type 0 where
    pub item : Item K
    pub due : task commits old ≡ offer item
    pub refused : rule.may_refuse old.room (length old.unread) ≡ true
    pub unchanged : new ≡ old

  -- one turn
  abbrev pub Turns : Tree K → List (Write K) → OpenCursor K A → Result Turned Refusal → OpenCursor K A → Type 0
  Turns t commits old (Ok turned.Offered) new = Sends commits old new
  Turns t commits old (Ok (turned.Visited page)) new = (task commits old ≡ visit) × VisitsPage t old page new
  Turns t commits old (Ok (turned.Passed n)) new = (task commits old ≡ pass) × (n ≡ old.position + 1) × (new ≡ record old { position = n })
  Turns t commits old (Err refusal.NoRoom) new = IsHandedBack commits old new
  Turns t commits old (Err refusal.Idle) new = (task commits old ≡ rest) × (new ≡ old)
  Turns t commits old (Err refusal.OutOfMemory) new = (task commits old ≡ visit) × (new ≡ old) × VisitGrows (admits old) (wants old) old.opened t old.stack
  Turns t commits old (Err why) new = ⊥

  -- the turn is the same over any commits, if it is a visit; over any tree, if it isn't; and after the last commit
  abbrev pub TurnsByTree : Tree K → OpenCursor K A → Result Turned Refusal → OpenCursor K A → Type 0
  TurnsByTree t old result new = (commits : List (Write K)) → Turns t commits old result new

  abbrev pub TurnsByCommits : List (Write K) → OpenCursor K A → Result Turned Refusal → OpenCursor K A → Type 0
  TurnsByCommits commits old result new = (t : Tree K) → Turns t commits old result new

  abbrev pub TurnsPastEnd : OpenCursor K A → Result Turned Refusal → OpenCursor K A → Type 0
  TurnsPastEnd old result new = (t : Tree K) (commits : List (Write K)) → length commits ≤ old.position → Turns t commits old result new

  -- what a client may know about it
  abbrev pub shown : Tree K → OpenCursor K A → CursorState K A
  shown t k = record {
    serial = k.serial;
    query = k.query;
    follows = k.follows;
    opened = k.opened;
    scanning = is_scanning k.stack;
    remaining = k.pending ++ to_find (wants k) k.opened t k.stack;
    position = k.position;
    asked = k.asked;
  }

  -- how much it still has to do: pages to visit, rows to give, commits to pass, and a mark if one is asked for
  abbrev pub tree_work : Tree K → List (Write K) → OpenCursor K A → ℕ
  tree_work t commits k = length (pages_left t k.stack) + work commits (shown t k)

  -- in a sound tree a turn that is made lowers what it still has to do
  abbrev pub Lessens : {T E : Type 0} → Tree K → List (Write K) → OpenCursor K A → Result T E → OpenCursor K A → Type 0
  Lessens t commits old result new = OnOk result ((fan : ℕ) → IsSound rules.is_cover fan t → tree_work t commits new < tree_work t commits old)
