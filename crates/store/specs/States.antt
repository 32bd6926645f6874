-- What contracts see of a store, and what its calls do to it.
use Rattle.std.specs.Prelude.{◌≡◌, ℕ, ◌+◌, ◌-◌, ◌<◌, ◌≤◌, Bool, true, false, not, ◌||◌, nat_lt, nat_eq, List, [], ◌∷◌, ◌++◌, length, filter, find, min, Option, Some, None, Result, Ok, Err, IsPermutation, if◌then◌else◌, option_to_list, slice_index_or, slice_set, ◌⊎◌, IfSome}
use Rattle.std.specs.List.{AllByRecursion, flat_map}
use Rattle.key_class.specs.Limits.{greatest_serial, most_cursors, most_depth, most_room}
use Rattle.change_list.specs.declared.config.Config.{Config}
use Rattle.change_list.specs.declared.write.Write.{Write}
use Rattle.change_list.specs.declared.item.Item.{Item}
use Rattle.change_list.specs.declared.item.Item.TheVariants as item
use Rattle.key_class.specs.declared.refusal.Refusal.{Refusal}
use Rattle.key_class.specs.declared.refusal.Refusal.TheVariants as refusal
use Rattle.key_class.specs.declared.pred.Pred.{Pred}
use Rattle.key_class.specs.Queries.{Query, query_of, depth_of}
use Rattle.key_class.specs.Rules.{Rules}
use Rattle.change_list.specs.declared.item.Row.{Row}
use Rattle.change_list.specs.Changes.{NamesLive}
use Rattle.change_list.specs.Cursors.{CursorState, Fits, HasNothingToCome, work}
use Rattle.snapshot.specs.Snapshots.{found_in}

-- a dead row that a sweep hasn't removed
pub record DeadRow : Type 0 where
  pub row : ℕ
  pub died : ℕ

pub record StoreState (K A : Type 0) : Type 0 where
  -- the greatest number of commits
  pub limit : ℕ
  pub commits : List (Write K)
  -- the greatest number of pages
  pub page_limit : ℕ
  -- the open cursors
  pub cursors : List (CursorState K A)
  -- the last serial that was given
  pub last : ℕ
  -- the dead rows that no sweep has removed, in any order
  pub dead : List DeadRow
  -- the same rows by the page that has them
  pub dead_by_page : List (List DeadRow)
  -- how many more pages may be made; a store that needs none keeps them all
  pub pages_left : ℕ
  -- how many finders were opened, of the 4,294,967,295 in the life of a store
  pub finders : ℕ

-- an empty store; one page is made with it
abbrev pub new_store : {K A : Type 0} → Config → StoreState K A
new_store config = record { limit = config.commits; commits = []; page_limit = config.pages; cursors = []; last = 0; dead = []; dead_by_page = [] ∷ []; pages_left = config.pages - 1; finders = 0 }

module _ {K A : Type 0} where
  abbrev pub open_or_closed : Option (CursorState K A) → Result (CursorState K A) Refusal
  open_or_closed (Some cursor) = Ok cursor
  open_or_closed None = Err refusal.CursorClosed

  abbrev pub find_cursor : ℕ → List (CursorState K A) → Option (CursorState K A)
  find_cursor c cursors = find (λ k. nat_eq k.serial c) cursors

  -- the open cursor with a serial, or why there is none
  abbrev pub cursor_of : StoreState K A → ℕ → Result (CursorState K A) Refusal
  cursor_of state c = if nat_eq c 0 || nat_lt state.last c then Err refusal.NoSuchCursor else open_or_closed (find_cursor c state.cursors)

  -- how much the cursor with a serial still has to do
  abbrev pub work_of : List (Write K) → Result (CursorState K A) Refusal → ℕ
  work_of commits (Ok cursor) = work commits cursor
  work_of commits (Err why) = 0

  abbrev pub work_at : StoreState K A → ℕ → ℕ
  work_at state c = work_of state.commits (cursor_of state c)

  -- the cursor is where the one with its serial was
  abbrev pub put_cursor : CursorState K A → List (CursorState K A) → List (CursorState K A)
  put_cursor k [] = []
  put_cursor k (x ∷ xs) = if nat_eq x.serial k.serial then k ∷ xs else x ∷ put_cursor k xs

  abbrev pub with_open_cursor : StoreState K A → CursorState K A → StoreState K A
  with_open_cursor state k = record state { cursors = put_cursor k state.cursors }

  abbrev pub without_cursor : StoreState K A → ℕ → StoreState K A
  without_cursor state c = record state { cursors = filter (λ k. not (nat_eq k.serial c)) state.cursors }

  -- no cursor with the serial is open, so nothing is done
  abbrev pub LacksCursor : StoreState K A → ℕ → Refusal → StoreState K A → Type 0
  LacksCursor old c why new = (cursor_of old c ≡ Err why) × (new ≡ old)

  -- at most one page more was made than there are commits
  abbrev pub HasFewPages : StoreState K A → Type 0
  HasFewPages state = state.page_limit ≤ state.pages_left + length state.commits + 1

  -- the live rows whose keys satisfy a query, by rising number
  abbrev pub matching_rows : Rules K A → StoreState K A → Pred A → List (Row K)
  matching_rows rules state query = found_in rules query state.commits

  -- the least opening number of the cursors whose scan isn't over, or the number of commits
  abbrev pub horizon_of : ℕ → List (CursorState K A) → ℕ
  horizon_of n [] = n
  horizon_of n (k ∷ ks) = if k.scanning then min k.opened (horizon_of n ks) else horizon_of n ks

  -- a dead row is needed by a scan that began before it died
  abbrev pub is_dead_needed : StoreState K A → DeadRow → Bool
  is_dead_needed state dead = nat_lt (horizon_of (length state.commits) state.cursors) dead.died

  -- the dead rows on a page that no sweep has removed
  abbrev pub dead_on : StoreState K A → ℕ → List DeadRow
  dead_on state page = slice_index_or state.dead_by_page page []

  -- the dead rows on all pages
  abbrev pub dead_on_pages : StoreState K A → List DeadRow
  dead_on_pages state = flat_map (λ dead. dead) state.dead_by_page

  -- a sweep of one page removed its dead rows that no scan needs, and the other pages have the dead rows that they had
  abbrev pub SweepsOnePage : StoreState K A → ℕ → StoreState K A → Type 0
  SweepsOnePage old page new = new.dead_by_page ≡ slice_set old.dead_by_page page (filter (is_dead_needed old) (dead_on old page))

  -- the next page in rotation, which is page 0 after the last
  abbrev pub page_after : StoreState K A → ℕ → ℕ
  page_after state page = if nat_lt (page + 1) (length state.dead_by_page) then page + 1 else 0

  -- an open cursor with an unfinished scan was opened before the row died
  pub record IsNeededBy (state : StoreState K A) (dead : DeadRow) : Type 0 where
    pub serial : ℕ
    pub cursor : CursorState K A
    pub is_open : cursor_of state serial ≡ Ok cursor
    pub scanning : cursor.scanning ≡ true
    pub opened : cursor.opened < dead.died

module _ {K A : Type 0} (matching : A → K → Bool) where
  -- a cursor after a call that isn't about it: everything that fitted it before fits it after
  pub record Stays (commits later : List (Write K)) (before after : CursorState K A) : Type 0 where
    pub query : after.query ≡ before.query
    pub follows : after.follows ≡ before.follows
    pub opened : after.opened ≡ before.opened
    pub scanning : after.scanning ≡ before.scanning
    pub asked : after.asked ≡ before.asked
    pub fits : (items : List (Item K)) → Fits matching commits before items → Fits matching later after items

  abbrev pub SameOrStays : List (Write K) → List (Write K) → Result (CursorState K A) Refusal → Result (CursorState K A) Refusal → Type 0
  SameOrStays commits later (Ok before) (Ok after) = Stays commits later before after
  SameOrStays commits later (Err why) (Err other) = why ≡ other
  SameOrStays commits later _ _ = ⊥

  -- every cursor is open, closed or never given as before, and what fitted it before fits it after
  abbrev pub KeepsCursors : StoreState K A → StoreState K A → Type 0
  KeepsCursors old new = (c : ℕ) → SameOrStays old.commits new.commits (cursor_of old c) (cursor_of new c)

  -- one more commit, and otherwise only pages have changed
  pub record Commits (old : StoreState K A) (write : Write K) (new : StoreState K A) : Type 0 where
    pub limit : new.limit ≡ old.limit
    pub page_limit : new.page_limit ≡ old.page_limit
    pub commits : new.commits ≡ old.commits ++ write ∷ []
    pub last : new.last ≡ old.last
    pub cursors : KeepsCursors old new
    pub as_many : length new.cursors ≡ length old.cursors
    pub pages : new.pages_left ≤ old.pages_left

  -- only pages have changed
  pub record Keeps (old new : StoreState K A) : Type 0 where
    pub limit : new.limit ≡ old.limit
    pub page_limit : new.page_limit ≡ old.page_limit
    pub commits : new.commits ≡ old.commits
    pub last : new.last ≡ old.last
    pub dead : IsPermutation old.dead new.dead
    pub cursors : KeepsCursors old new
    pub as_many : length new.cursors ≡ length old.cursors
    pub pages : new.pages_left ≤ old.pages_left

  -- a mark comes only if one was asked for, and then none is asked for any more; without an item nothing is left
  abbrev pub Answers : List (Write K) → CursorState K A → Option (Item K) → CursorState K A → Type 0
  Answers commits before (Some (item.Mark n)) after = (before.asked ≡ true) × (n ≡ length commits) × (after.asked ≡ false)
  Answers commits before (Some other) after = after.asked ≡ before.asked
  Answers commits before None after = (after.asked ≡ before.asked) × HasNothingToCome matching commits after

  -- a cursor gave an item, or nothing
  pub record GivesNext (commits : List (Write K)) (before : CursorState K A) (given : Option (Item K)) (after : CursorState K A) : Type 0 where
    pub serial : after.serial ≡ before.serial
    pub query : after.query ≡ before.query
    pub follows : after.follows ≡ before.follows
    pub opened : after.opened ≡ before.opened
    pub fits : (items : List (Item K)) → Fits matching commits before items → Fits matching commits after (items ++ option_to_list given)
    pub answer : Answers commits before given after
    pub less_work : IfSome given (λ _. work commits after < work commits before)

  -- a cursor got no memory for its scan, but may have got on
  pub record Strives (commits : List (Write K)) (before after : CursorState K A) : Type 0 where
    pub serial : after.serial ≡ before.serial
    pub query : after.query ≡ before.query
    pub follows : after.follows ≡ before.follows
    pub opened : after.opened ≡ before.opened
    pub asked : after.asked ≡ before.asked
    pub fits : (items : List (Item K)) → Fits matching commits before items → Fits matching commits after items

  -- a new cursor begins after a commit, which it follows or at which it has a snapshot, and has given nothing
  pub record IsOpened (old : StoreState K A) (asked_for : Query A) (follows : Bool) (opened c : ℕ) (new : StoreState K A) : Type 0 where
    pub serial : c ≡ old.last + 1
    pub cursor : CursorState K A
    pub after : new ≡ record old { last = c; cursors = old.cursors ++ cursor ∷ [] }
    pub number : cursor.serial ≡ c
    pub is_open : cursor_of new c ≡ Ok cursor
    pub query : cursor.query ≡ asked_for
    pub follows_is : cursor.follows ≡ follows
    pub opened_is : cursor.opened ≡ opened
    pub unasked : cursor.asked ≡ false
    pub fits : Fits matching old.commits cursor []

  -- a cursor at the present commits, with a query in the form in which a program stores it
  abbrev pub IsOpenedFor : StoreState K A → Pred A → ℕ → StoreState K A → Type 0
  IsOpenedFor old query c new = IsOpened old (query_of query) false (length old.commits) c new

  -- and one that follows commit n
  abbrev pub IsFollowerFor : StoreState K A → Pred A → ℕ → ℕ → StoreState K A → Type 0
  IsFollowerFor old query n c new = IsOpened old (query_of query) true n c new

  -- an open cursor gives its next item, or nothing; everything else is unchanged
  pub record Nexts (old : StoreState K A) (c : ℕ) (given : Option (Item K)) (new : StoreState K A) : Type 0 where
    pub before : CursorState K A
    pub after : CursorState K A
    pub is_open : cursor_of old c ≡ Ok before
    pub gives : GivesNext old.commits before given after
    pub is : new ≡ with_open_cursor old after

  -- a page is left to be read, and no item comes for lack of memory; the cursor may have got on, and what fitted it
  -- still fits
  pub record Wants (old : StoreState K A) (c : ℕ) (new : StoreState K A) : Type 0 where
    pub before : CursorState K A
    pub after : CursorState K A
    pub is_open : cursor_of old c ≡ Ok before
    pub strives : Strives old.commits before after
    pub page_left : after.scanning ≡ true
    pub is : new ≡ with_open_cursor old after

  -- a cursor gave these items, one after the other
  abbrev pub Gave : StoreState K A → ℕ → List (Item K) → StoreState K A → Type 0
  Gave old c [] new = new ≡ old
  Gave old c (item ∷ items) new = (mid : StoreState K A) × Nexts old c (Some item) mid × Gave mid c items new

  -- refused because of its serial, or for lack of memory while a page is left to be read
  abbrev pub RefusesNext : StoreState K A → ℕ → Refusal → StoreState K A → Type 0
  RefusesNext old c why new = LacksCursor old c why new ⊎ ((why ≡ refusal.OutOfMemory) × Wants old c new)

  -- a cursor has nothing more to give, or was refused; or the list got no memory for one more item, and the cursor
  -- wasn't asked
  abbrev pub EndsDrain : StoreState K A → ℕ → Result (Unit {0}) Refusal → StoreState K A → Type 0
  EndsDrain old c (Ok done) new = Nexts old c None new
  EndsDrain old c (Err why) new = RefusesNext old c why new ⊎ ((why ≡ refusal.OutOfMemory) × (new ≡ old))

  -- a cursor gave these items until nothing was left or it was refused
  pub record Drains (old : StoreState K A) (c : ℕ) (items : List (Item K)) (result : Result (Unit {0}) Refusal) (new : StoreState K A) : Type 0 where
    pub last_given : StoreState K A
    pub gave : Gave old c items last_given
    pub ended : EndsDrain last_given c result new

  -- only dead rows have changed
  pub record KeepsLiving (old new : StoreState K A) : Type 0 where
    pub limit : new.limit ≡ old.limit
    pub page_limit : new.page_limit ≡ old.page_limit
    pub commits : new.commits ≡ old.commits
    pub last : new.last ≡ old.last
    pub cursors : KeepsCursors old new
    pub as_many : length new.cursors ≡ length old.cursors
    pub pages : new.pages_left ≡ old.pages_left
    pub finders : new.finders ≡ old.finders

  -- a sweep removed all dead rows that no scan needs, and there were this many
  pub record SweepsStore (old : StoreState K A) (number : ℕ) (new : StoreState K A) : Type 0 where
    pub rest : KeepsLiving old new
    pub counted : number + length new.dead ≡ length old.dead
    pub left : IsPermutation (filter (is_dead_needed old) old.dead) new.dead
    pub needed : AllByRecursion (λ d. IsNeededBy old d) new.dead

  -- a sweep of one page, or one that lack of memory stopped, removed some dead rows that no scan needs
  pub record SweepsStorePart (old new : StoreState K A) : Type 0 where
    pub rest : KeepsLiving old new
    pub gone : List DeadRow
    pub parted : IsPermutation old.dead (gone ++ new.dead)
    pub unneeded : AllByRecursion (λ d. is_dead_needed old d ≡ false) gone

module _ {K A : Type 0} where
  -- no finder can be opened any more
  abbrev pub HasNoFinderLeft : StoreState K A → Type 0
  HasNoFinderLeft state = greatest_serial ≤ state.finders

  -- no commit can be made any more
  abbrev pub HasNoCommitLeft : StoreState K A → Type 0
  HasNoCommitLeft state = state.limit ≤ length state.commits

  -- the row is live, but no commit can delete it
  abbrev pub HasNoCommitFor : StoreState K A → ℕ → Type 0
  HasNoCommitFor state row = NamesLive state.commits row × HasNoCommitLeft state

  -- the row is live and may be deleted, but no finder of it can be opened
  abbrev pub HasNoFinderFor : StoreState K A → ℕ → Type 0
  HasNoFinderFor state row = NamesLive state.commits row × (length state.commits < state.limit) × HasNoFinderLeft state

  -- why a row isn't added, and what the store is like then
  abbrev pub RefusesRow : StoreState K A → Refusal → Type 0
  RefusesRow new why = (why ≡ refusal.OutOfMemory) ⊎ (why ≡ refusal.CommitsFull) ⊎ ((why ≡ refusal.PagesFull) × (new.pages_left < 2))

  -- there is one more dead row, which the next commit ended
  abbrev pub AddsDead : StoreState K A → ℕ → StoreState K A → Type 0
  AddsDead old row new = IsPermutation ((record { row = row; died = length old.commits + 1 }) ∷ old.dead) new.dead

  -- the refusals that a delete may give
  abbrev pub MayRefuseDelete : StoreState K A → Refusal → Type 0
  MayRefuseDelete old why =
      (why ≡ refusal.NoSuchRow) ⊎ (why ≡ refusal.AlreadyDeleted) ⊎ (why ≡ refusal.CommitsFull) ⊎ (why ≡ refusal.OutOfMemory)
      ⊎ ((why ≡ refusal.FindersFull) × HasNoFinderLeft old)

  -- the refusals that a move may give, and what the store is like then
  abbrev pub MayRefuseMove : StoreState K A → StoreState K A → Refusal → Type 0
  MayRefuseMove old new why = MayRefuseDelete old why ⊎ ((why ≡ refusal.PagesFull) × (new.pages_left < 2))

  -- the open cursor is no longer open, and everything else is unchanged
  pub record Closes (old : StoreState K A) (c : ℕ) (new : StoreState K A) : Type 0 where
    pub cursor : CursorState K A
    pub was_open : cursor_of old c ≡ Ok cursor
    pub one_less : length new.cursors + 1 ≡ length old.cursors
    pub is : new ≡ without_cursor old c

  -- the open cursor changes in this way, and everything else is unchanged
  pub record ChangesCursor (change : CursorState K A → CursorState K A) (old : StoreState K A) (c : ℕ) (new : StoreState K A) : Type 0 where
    pub before : CursorState K A
    pub is_open : cursor_of old c ≡ Ok before
    pub is : new ≡ with_open_cursor old (change before)

  abbrev pub with_asking : CursorState K A → CursorState K A
  with_asking k = record k { asked = true }

-- the room or the depth is out of range
abbrev pub IsBadOpening : {A : Type 0} → Query A → ℕ → Type 0
IsBadOpening query room = (room ≡ 0) ⊎ (most_room < room) ⊎ (most_depth < depth_of query)

-- why no cursor is opened
abbrev pub RefusesCursor : Refusal → Type 0
RefusesCursor why = (why ≡ refusal.BadConfig) ⊎ (why ≡ refusal.CursorsFull) ⊎ (why ≡ refusal.OutOfMemory)

abbrev pub IsFullOf : {K A : Type 0} → StoreState K A → Type 0
IsFullOf state = (most_cursors ≤ length state.cursors) ⊎ (greatest_serial ≤ state.last)

-- query and room are in range, but no cursor can be opened
abbrev pub HasNoCursorFor : {K A : Type 0} → StoreState K A → Query A → ℕ → Type 0
HasNoCursorFor state query room = (¬ IsBadOpening query room) × IsFullOf state

-- query and room are in range, but there are fewer commits than that
abbrev pub IsFromFuture : {K A : Type 0} → StoreState K A → Query A → ℕ → ℕ → Type 0
IsFromFuture state query room n = (¬ IsBadOpening query room) × (length state.commits < n)

-- query and room are in range and the commit exists, but no cursor can be opened
abbrev pub HasNoFollowerFor : {K A : Type 0} → StoreState K A → Query A → ℕ → ℕ → Type 0
HasNoFollowerFor state query room n = (¬ IsBadOpening query room) × (n ≤ length state.commits) × IsFullOf state

-- why no cursor that follows a commit is opened
abbrev pub RefusesFollower : Refusal → Type 0
RefusesFollower why = (why ≡ refusal.FromFuture) ⊎ RefusesCursor why

-- a list got the items that a cursor gave until nothing was left or it was refused
abbrev pub DrainsInto : {K A : Type 0} → Rules K A → StoreState K A → ℕ → List (Item K) → List (Item K) → Result (Unit {0}) Refusal → StoreState K A → Type 0
DrainsInto rules old c before after result new = (given : List (Item _)) × (after ≡ before ++ given) × Drains rules.is_match old c given result new
