-- What a client of a session was told so far, and which answers are allowed to which requests.
use Rattle.std.specs.Prelude.{◌≡◌, ℕ, ◌+◌, ◌-◌, ◌<◌, ◌≤◌, Bool, true, false, List, [], ◌∷◌, ◌++◌, length, Option, Some, None, Result, Ok, Err, ◌⊎◌, IsPermutation, nat_eq, if◌then◌else◌}
use Rattle.std.specs.List.{AllByRecursion}
use Rattle.key_class.specs.declared.refusal.Refusal.{Refusal}
use Rattle.key_class.specs.declared.refusal.Refusal.TheVariants as refusal
use Rattle.key_class.specs.Limits.{greatest_serial, most_cursors, most_room}
use Rattle.key_class.specs.Queries.{Query}
use Rattle.key_class.specs.Rules.{Rules, satisfies}
use Rattle.change_list.specs.declared.write.Write.{Write}
use Rattle.change_list.specs.declared.write.Write.TheVariants as write
use Rattle.change_list.specs.declared.write.Status.TheVariants as status
use Rattle.change_list.specs.declared.item.Item.{Item}
use Rattle.change_list.specs.declared.item.Item.TheVariants as item
use Rattle.change_list.specs.Changes.{status_of, snapshot}
use Rattle.change_list.specs.Listings.{IsListingFor, BeginsListingFor, without_marks}
use Rattle.store.specs.States.{DeadRow}
use Rattle.front.specs.declared.answer.Answer.{Answer}
use Rattle.front.specs.declared.answer.Answer.TheVariants as answer

-- an open cursor, as its client sees it
pub record ClientCursor (K A : Type 0) : Type 0 where
  pub query : Query A
  -- it follows a commit, so it was opened without a snapshot
  pub follows : Bool
  -- the number of commits at its opening, or the commit that it follows
  pub opened : ℕ
  -- the items that it gave, marks included
  pub given : List (Item K)
  -- a mark was asked for and not given yet
  pub asked : Bool

pub record Told (K A : Type 0) : Type 0 where
  -- the greatest number of commits
  pub limit : ℕ
  pub commits : List (Write K)
  -- the greatest number of pages
  pub page_limit : ℕ
  -- for each serial the open cursor, or the refusal that its use gets
  pub cursors : ℕ → Result (ClientCursor K A) Refusal
  -- how many cursors are open
  pub open_cursors : ℕ
  -- the last serial that was given
  pub last : ℕ
  -- the dead rows that no sweep has removed, in any order
  pub dead : List DeadRow
  -- the most finders that can have been opened
  pub finders : ℕ
  -- the client was once told that the pages are full
  pub pages_full : Bool

abbrev pub IsBadRoom : ℕ → Type 0
IsBadRoom room = (room ≡ 0) ⊎ (most_room < room)

module _ {K A : Type 0} where
  -- what a client was told before the first line
  abbrev pub nothing_told : ℕ → ℕ → Told K A
  nothing_told limit page_limit = record { limit = limit; commits = []; page_limit = page_limit; cursors = λ c. Err refusal.NoSuchCursor; open_cursors = 0; last = 0; dead = []; finders = 0; pages_full = false }

  -- the serial gets this cursor, or this refusal; the other serials keep what they have
  abbrev pub with_client_cursor : (ℕ → Result (ClientCursor K A) Refusal) → ℕ → Result (ClientCursor K A) Refusal → ℕ → Result (ClientCursor K A) Refusal
  with_client_cursor cursors c now d = if nat_eq d c then now else cursors d

  abbrev pub IsFullAsTold : Told K A → Type 0
  IsFullAsTold told = told.limit ≤ length told.commits

  abbrev pub HasNoCursorLeft : Told K A → Type 0
  HasNoCursorLeft told = (most_cursors ≤ told.open_cursors) ⊎ (greatest_serial ≤ told.last)

  -- it is possible that no finder is left
  abbrev pub MayLackFinders : Told K A → Type 0
  MayLackFinders told = greatest_serial ≤ told.finders

  -- it is possible that fewer than two pages are left: at most one more was made than there are commits
  abbrev pub MayLackPages : Told K A → Type 0
  MayLackPages told = told.page_limit < (length told.commits + 1) + 2

  -- the client is told that the pages are full, and nothing else changes
  abbrev pub TellsPagesFull : Told K A → Told K A → Type 0
  TellsPagesFull old new = new ≡ record old { pages_full = true }

  abbrev pub RepliesInsert : K → ℕ → Answer K → Told K A → Told K A → Type 0
  RepliesInsert key tag (answer.Committed n) old new =
      (¬ IsFullAsTold old) × (n ≡ length old.commits + 1) × (new ≡ record old { commits = old.commits ++ write.Insert key tag ∷ [] })
  RepliesInsert key tag (answer.Refused refusal.CommitsFull) old new = IsFullAsTold old × (new ≡ old)
  RepliesInsert key tag (answer.Refused refusal.PagesFull) old new = (¬ IsFullAsTold old) × MayLackPages old × TellsPagesFull old new
  RepliesInsert key tag (answer.Refused refusal.OutOfMemory) old new = (¬ IsFullAsTold old) × (new ≡ old)
  RepliesInsert key tag _ old new = ⊥

  -- why ending a row is refused
  abbrev pub RefusesToEnd : ℕ → Refusal → Told K A → Told K A → Type 0
  RefusesToEnd row refusal.NoSuchRow old new = (status_of old.commits row ≡ status.NeverIssued) × (new ≡ old)
  RefusesToEnd row refusal.AlreadyDeleted old new = (status_of old.commits row ≡ status.Dead) × (new ≡ old)
  RefusesToEnd row refusal.CommitsFull old new = (status_of old.commits row ≡ status.Live) × IsFullAsTold old × (new ≡ old)
  RefusesToEnd row refusal.OutOfMemory old new = (status_of old.commits row ≡ status.Live) × (¬ IsFullAsTold old) × (new ≡ record old { finders = old.finders + 1 })
  RefusesToEnd row refusal.FindersFull old new = (status_of old.commits row ≡ status.Live) × (¬ IsFullAsTold old) × MayLackFinders old × (new ≡ old)
  RefusesToEnd row _ old new = ⊥

  -- the row may be ended, but too few pages may be left for the new key
  abbrev pub LacksPagesFor : ℕ → Refusal → Told K A → Told K A → Type 0
  LacksPagesFor row why old new = (why ≡ refusal.PagesFull) × (status_of old.commits row ≡ status.Live) × (¬ IsFullAsTold old) × MayLackPages old × TellsPagesFull old new

  abbrev pub RepliesDelete : ℕ → Answer K → Told K A → Told K A → Type 0
  RepliesDelete row (answer.Committed n) old new =
      (status_of old.commits row ≡ status.Live) × (¬ IsFullAsTold old) × (n ≡ length old.commits + 1)
      × (new ≡ record old { commits = old.commits ++ write.Delete row ∷ []; dead = (record { row = row; died = n }) ∷ old.dead; finders = old.finders + 1 })
  RepliesDelete row (answer.Refused why) old new = RefusesToEnd row why old new
  RepliesDelete row _ old new = ⊥

  abbrev pub RepliesMove : ℕ → K → Answer K → Told K A → Told K A → Type 0
  RepliesMove row key (answer.Committed n) old new =
      (status_of old.commits row ≡ status.Live) × (¬ IsFullAsTold old) × (n ≡ length old.commits + 1)
      × (new ≡ record old { commits = old.commits ++ write.Move row key ∷ []; dead = (record { row = row; died = n }) ∷ old.dead; finders = old.finders + 1 })
  RepliesMove row key (answer.Refused why) old new = RefusesToEnd row why old new ⊎ LacksPagesFor row why old new
  RepliesMove row key _ old new = ⊥

  -- a new cursor of the client: at the present commits, or after a commit that it follows
  abbrev pub client_cursor : Told K A → Query A → Option ℕ → ClientCursor K A
  client_cursor told query None = record { query = query; follows = false; opened = length told.commits; given = []; asked = false }
  client_cursor told query (Some commit) = record { query = query; follows = true; opened = commit; given = []; asked = false }

  -- the commit to follow doesn't exist yet
  abbrev pub IsAhead : Told K A → Option ℕ → Type 0
  IsAhead told None = ⊥
  IsAhead told (Some commit) = length told.commits < commit

  -- the room is in range, and the commit to follow exists
  pub record MayBegin (told : Told K A) (room : ℕ) (from : Option ℕ) : Type 0 where
    pub room_is_good : ¬ IsBadRoom room
    pub is_there : ¬ IsAhead told from

  abbrev pub RepliesOpen : ℕ → Option ℕ → Query A → Answer K → Told K A → Told K A → Type 0
  RepliesOpen room from query (answer.Opened c) old new =
      MayBegin old room from × (¬ HasNoCursorLeft old) × (c ≡ old.last + 1)
      × (new ≡ record old {
        cursors = with_client_cursor old.cursors c (Ok (client_cursor old query from));
        open_cursors = old.open_cursors + 1;
        last = c;
      })
  RepliesOpen room from query (answer.Refused refusal.BadConfig) old new = IsBadRoom room × (new ≡ old)
  RepliesOpen room from query (answer.Refused refusal.FromFuture) old new = (¬ IsBadRoom room) × IsAhead old from × (new ≡ old)
  RepliesOpen room from query (answer.Refused refusal.CursorsFull) old new = MayBegin old room from × HasNoCursorLeft old × (new ≡ old)
  RepliesOpen room from query (answer.Refused refusal.OutOfMemory) old new = MayBegin old room from × (¬ HasNoCursorLeft old) × (new ≡ old)
  RepliesOpen room from query _ old new = ⊥

  abbrev pub RepliesMark : ℕ → Answer K → Told K A → Told K A → Type 0
  RepliesMark c answer.Asked old new = (f : ClientCursor K A) × (old.cursors c ≡ Ok f) × (new ≡ record old { cursors = with_client_cursor old.cursors c (Ok (record f { asked = true })) })
  RepliesMark c (answer.Refused why) old new = (old.cursors c ≡ Err why) × (new ≡ old)
  RepliesMark c _ old new = ⊥

  abbrev pub RepliesClose : ℕ → Answer K → Told K A → Told K A → Type 0
  RepliesClose c answer.Closed old new =
      (f : ClientCursor K A) × (old.cursors c ≡ Ok f)
      × (new ≡ record old { cursors = with_client_cursor old.cursors c (Err refusal.CursorClosed); open_cursors = old.open_cursors - 1 })
  RepliesClose c (answer.Refused why) old new = (old.cursors c ≡ Err why) × (new ≡ old)
  RepliesClose c _ old new = ⊥

  -- a dead row that a sweep leaves died after the opening of some open cursor with a snapshot, which may still need
  -- it
  pub record DiedAfterOpening (told : Told K A) (dead : DeadRow) : Type 0 where
    pub serial : ℕ
    pub cursor : ClientCursor K A
    pub is_open : told.cursors serial ≡ Ok cursor
    pub has_rows : cursor.follows ≡ false
    pub opened : cursor.opened < dead.died

  abbrev pub RepliesSweep : Answer K → Told K A → Told K A → Type 0
  RepliesSweep (answer.Swept n) old new =
      (gone left : List DeadRow) × IsPermutation old.dead (gone ++ left) × (n ≡ length gone)
      × AllByRecursion (DiedAfterOpening old) left × (new ≡ record old { dead = left })
  RepliesSweep (answer.Refused refusal.OutOfMemory) old new =
      (gone left : List DeadRow) × IsPermutation old.dead (gone ++ left) × (new ≡ record old { dead = left })
  RepliesSweep _ old new = ⊥

module _ {K A : Type 0} (rules : Rules K A) where
  abbrev pub client_wants : ClientCursor K A → K → Bool
  client_wants f = satisfies rules f.query

  abbrev pub RepliesFind : Query A → Answer K → Told K A → Told K A → Type 0
  RepliesFind query (answer.Found rows) old new = (rows.items ≡ snapshot (satisfies rules query) (length old.commits) old.commits) × (new ≡ old)
  RepliesFind query (answer.Refused refusal.OutOfMemory) old new = new ≡ old
  RepliesFind query _ old new = ⊥

  -- A mark comes only if one was asked for, and tells the number of commits; then everything up to it has been given.
  abbrev pub GivesTo : List (Write K) → ClientCursor K A → Item K → Bool → Type 0
  GivesTo commits f (item.Mark n) asked = (f.asked ≡ true) × (n ≡ length commits) × (asked ≡ false) × IsListingFor f.follows (client_wants f) f.opened n commits (without_marks f.given)
  GivesTo commits f other asked = asked ≡ f.asked

  abbrev pub RepliesNext : ℕ → Answer K → Told K A → Told K A → Type 0
  RepliesNext c (answer.Given given) old new =
      (f : ClientCursor K A) × (asked : Bool) × (old.cursors c ≡ Ok f) × GivesTo old.commits f given asked
      × BeginsListingFor f.follows (client_wants f) f.opened (length old.commits) old.commits (without_marks (f.given ++ given ∷ []))
      × (new ≡ record old { cursors = with_client_cursor old.cursors c (Ok (record f { given = f.given ++ given ∷ []; asked = asked })) })
  RepliesNext c answer.Empty old new =
      (f : ClientCursor K A) × (old.cursors c ≡ Ok f) × (f.asked ≡ false) × IsListingFor f.follows (client_wants f) f.opened (length old.commits) old.commits (without_marks f.given) × (new ≡ old)
  RepliesNext c (answer.Refused why) old new = ((old.cursors c ≡ Err why) ⊎ ((why ≡ refusal.OutOfMemory) × (f : ClientCursor K A) × (old.cursors c ≡ Ok f))) × (new ≡ old)
  RepliesNext c _ old new = ⊥
