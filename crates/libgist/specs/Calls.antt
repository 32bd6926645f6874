-- What the calls of a store answer and leave, clause by clause.
use Rattle.std.specs.Prelude.{◌≡◌, ◌≢◌, ◌↔◌, ℕ, ◌+◌, ◌≤◌, ◌<◌, ◌⊎◌, false, List, length, map, option_map, slice_get, Option, Some, None, Result, Ok, Err, IfOk, IfErr, OnOk, OnErr, IsPermutation}
use Rattle.key_class.specs.declared.refusal.Refusal.{Refusal}
use Rattle.key_class.specs.declared.refusal.Refusal.TheVariants.{BadConfig, OutOfMemory, CommitsFull, NoSuchRow, AlreadyDeleted, FindersFull, CursorsFull, FromFuture}
use Rattle.key_class.specs.declared.pred.Pred.{Pred}
use Rattle.key_class.specs.Queries.{query_of}
use Rattle.key_class.specs.Rules.{Rules}
use Rattle.change_list.specs.declared.write.Write.TheVariants.{Insert, Delete, Move}
use Rattle.change_list.specs.declared.item.Item.{Item}
use Rattle.change_list.specs.Changes.{IsLegal, NamesNoRow, NamesDead}
use Rattle.writes.specs.Moves.{IsToldFirst}
use Rattle.store.specs.declared.stats.Stats.{Stats}
use Rattle.store.specs.declared.stats.Standing.{Standing}
use Rattle.store.specs.Stats.{TellsOf, standing_of}
use Rattle.store.specs.States.{StoreState, Commits, Keeps, IsBadOpening, IsFromFuture, IsOpenedFor, IsFollowerFor, HasFewPages, HasNoCommitLeft, HasNoCommitFor, HasNoFinderFor, HasNoCursorFor, HasNoFollowerFor, RefusesRow, RefusesCursor, RefusesFollower, RefusesNext, Gave, AddsDead, MayRefuseDelete, MayRefuseMove, LacksCursor, Closes, SweepsStore, SweepsStorePart, Nexts, ChangesCursor, with_asking}
use Rattle.libgist.specs.declared.words.KeyWords.{KeyWords}
use Rattle.libgist.specs.declared.words.NewRow.{NewRow}
use Rattle.libgist.specs.declared.figures.Figures.{Figures}
use Rattle.libgist.specs.declared.figures.ShownStanding.{ShownStanding}
use Rattle.libgist.specs.declared.words.ShownItem.{ShownItem}
use Rattle.libgist.specs.declared.denied.Denied.{Denied}
use Rattle.libgist.specs.declared.denied.Denied.TheVariants.{BadEnds}
use Rattle.libgist.specs.Batches.{IsBatch}
use Rattle.search.specs.Fills.{written_over}
use Rattle.libgist.specs.Denials.{PassesOn}
use Rattle.libgist.specs.Shown.{shown_item}

-- the figures of a store, in the layout that C reads
abbrev pub figures_of : Stats → Figures
figures_of stats = record { commits = stats.commits; commit_limit = stats.commit_limit; pages = stats.pages; page_limit = stats.page_limit; cursors = stats.cursors; horizon = stats.horizon }

-- where a cursor stands, as C is given it, or that there is none
abbrev pub shown_standing : Option Standing → ShownStanding
shown_standing (Some standing) = record { cursor = standing.serial; opened = standing.opened; lag = standing.lag; is_scanning = standing.is_scanning }
shown_standing None = record { cursor = 0; opened = 0; lag = 0; is_scanning = false }

-- a call that passes on what one below it answers
abbrev pub Passing : {S V : Type 0} → (S → Result V Refusal → S → Type 0) → S → Result V Denied → S → Type 0
Passing call old answer new = PassesOn (λ below. call old below new) answer

-- a call with a key; if the key's ends are out of order it is refused, and nothing changes
abbrev pub WithKey : {K S V : Type 0} → (K → S → Result V Refusal → S → Type 0) → Option K → S → Result V Denied → S → Type 0
WithKey call (Some key) old answer new = Passing (call key) old answer new
WithKey call None old answer new = (answer ≡ Err BadEnds) × (new ≡ old)

module _ {K A : Type 0} (rules : Rules K A) where
  -- a row is added
  pub record IsInsert (key : K) (tag : ℕ) (old : StoreState K A) (answer : Result ℕ Refusal) (new : StoreState K A) : Type 0 where
    pub number : IfOk answer (λ n. n ≡ length old.commits + 1)
    pub ok : OnOk answer (Commits rules.is_match old (Insert key tag) new)
    pub dead : OnOk answer (IsPermutation old.dead new.dead)
    pub finders : new.finders ≡ old.finders
    pub err : OnErr answer (Keeps rules.is_match old new)
    pub full : (answer ≡ Err CommitsFull) ↔ HasNoCommitLeft old
    pub refusals : IfErr answer (RefusesRow new)
    pub legal : IsLegal new.commits
    pub few_pages : HasFewPages new

  -- a row is deleted
  pub record IsDelete (row : ℕ) (old : StoreState K A) (answer : Result ℕ Refusal) (new : StoreState K A) : Type 0 where
    pub number : IfOk answer (λ n. n ≡ length old.commits + 1)
    pub ok : OnOk answer (Commits rules.is_match old (Delete row) new)
    pub dead : OnOk answer (AddsDead old row new)
    pub err : OnErr answer (Keeps rules.is_match old new)
    pub no_such_row : (answer ≡ Err NoSuchRow) ↔ NamesNoRow old.commits row
    pub already_deleted : (answer ≡ Err AlreadyDeleted) ↔ NamesDead old.commits row
    pub full : (answer ≡ Err CommitsFull) ↔ HasNoCommitFor old row
    pub finders_full : (answer ≡ Err FindersFull) ↔ HasNoFinderFor old row
    pub refusals : IfErr answer (MayRefuseDelete old)
    pub found : OnOk answer (new.finders ≡ old.finders + 1)
    pub unfound : IfErr answer (λ why. why ≢ OutOfMemory → new ≡ old)
    pub finders : new.finders ≤ old.finders + 1
    pub legal : IsLegal new.commits
    pub few_pages : HasFewPages new

  -- rows are deleted, one after the other
  abbrev pub IsDeleting : List ℕ → StoreState K A → Result ℕ Denied → StoreState K A → Type 0
  IsDeleting rows = IsBatch (λ row. Passing (IsDelete row)) rows

  -- a row is moved
  pub record IsMove (row : ℕ) (key : K) (old : StoreState K A) (answer : Result ℕ Refusal) (new : StoreState K A) : Type 0 where
    pub number : IfOk answer (λ n. n ≡ length old.commits + 1)
    pub ok : OnOk answer (Commits rules.is_match old (Move row key) new)
    pub dead : OnOk answer (AddsDead old row new)
    pub err : OnErr answer (Keeps rules.is_match old new)
    pub no_such_row : (answer ≡ Err NoSuchRow) ↔ NamesNoRow old.commits row
    pub already_deleted : (answer ≡ Err AlreadyDeleted) ↔ NamesDead old.commits row
    pub full : (answer ≡ Err CommitsFull) ↔ HasNoCommitFor old row
    pub finders_full : (answer ≡ Err FindersFull) ↔ HasNoFinderFor old row
    pub refusals : IfErr answer (MayRefuseMove old new)
    pub untouched : IfErr answer (λ why. IsToldFirst why → new ≡ old)
    pub found : OnOk answer (new.finders ≡ old.finders + 1)
    pub unfound : IfErr answer (λ why. why ≢ OutOfMemory → new.finders ≡ old.finders)
    pub finders : new.finders ≤ old.finders + 1
    pub legal : IsLegal new.commits
    pub few_pages : HasFewPages new

  -- a cursor gave items, which are counted and stand over the first places of a buffer; it stopped when the buffer
  -- was full, when nothing was left or, after the first item, when one was refused
  pub record Gives (words_of : K → KeyWords) (cursor : ℕ) (before after : List ShownItem) (old : StoreState K A) (number : ℕ) (new : StoreState K A) : Type 0 where
    pub given : List (Item K)
    pub last_given : StoreState K A
    pub gave : Gave rules.is_match old cursor given last_given
    pub counted : number ≡ length given
    pub written : after ≡ written_over (map (shown_item words_of old.commits) given) before
    pub ended : ((number ≡ length before) × (new ≡ last_given)) ⊎ Nexts rules.is_match last_given cursor None new ⊎ ((0 < number) × (why : Refusal) × RefusesNext rules.is_match last_given cursor why new)

  -- a cursor is asked for its next items; the call is refused if the first item is
  pub record IsTaking (words_of : K → KeyWords) (cursor : ℕ) (before after : List ShownItem) (old : StoreState K A) (answer : Result ℕ Refusal) (new : StoreState K A) : Type 0 where
    pub ok : IfOk answer (λ n. Gives words_of cursor before after old n new)
    pub err : IfErr answer (λ why. RefusesNext rules.is_match old cursor why new)
    pub unfilled : OnErr answer (after ≡ before)

  -- dead rows are removed, and counted
  pub record IsSweep (old : StoreState K A) (answer : Result ℕ Refusal) (new : StoreState K A) : Type 0 where
    pub ok : IfOk answer (λ n. SweepsStore rules.is_match old n new)
    pub err : OnErr answer (SweepsStorePart rules.is_match old new)
    pub refusals : IfErr answer (λ why. why ≡ OutOfMemory)

  -- a cursor is opened on a query, at the present commits
  pub record IsOpening (query : Pred A) (old : StoreState K A) (answer : Result ℕ Refusal) (new : StoreState K A) : Type 0 where
    pub ok : IfOk answer (λ c. IsOpenedFor rules.is_match old query c new)
    pub err : OnErr answer (new ≡ old)
    pub bad : answer ≢ Err OutOfMemory → (answer ≡ Err BadConfig) ↔ IsBadOpening (query_of query) 1
    pub full : answer ≢ Err OutOfMemory → (answer ≡ Err CursorsFull) ↔ HasNoCursorFor old (query_of query) 1
    pub refusals : IfErr answer RefusesCursor

  -- a cursor is opened on a query, after a commit that it follows
  pub record IsFollowing (query : Pred A) (commit : ℕ) (old : StoreState K A) (answer : Result ℕ Refusal) (new : StoreState K A) : Type 0 where
    pub ok : IfOk answer (λ c. IsFollowerFor rules.is_match old query commit c new)
    pub err : OnErr answer (new ≡ old)
    pub bad : answer ≢ Err OutOfMemory → (answer ≡ Err BadConfig) ↔ IsBadOpening (query_of query) 1
    pub future : answer ≢ Err OutOfMemory → (answer ≡ Err FromFuture) ↔ IsFromFuture old (query_of query) 1 commit
    pub full : answer ≢ Err OutOfMemory → (answer ≡ Err CursorsFull) ↔ HasNoFollowerFor old (query_of query) 1 commit
    pub refusals : IfErr answer RefusesFollower

  module _ (key_of : KeyWords → Option K) where
    -- a row is added; it is refused if its key's ends are out of order
    abbrev pub InsertsOne : NewRow → StoreState K A → Result ℕ Denied → StoreState K A → Type 0
    InsertsOne row = WithKey (λ key. IsInsert key row.tag) (key_of row.key)

    -- rows are added, one after the other
    abbrev pub IsInserting : List NewRow → StoreState K A → Result ℕ Denied → StoreState K A → Type 0
    IsInserting rows = IsBatch InsertsOne rows

    -- a row is moved to a key
    abbrev pub IsMovingTo : ℕ → KeyWords → StoreState K A → Result ℕ Denied → StoreState K A → Type 0
    IsMovingTo row words = WithKey (IsMove row) (key_of words)

module _ {K A : Type 0} where
  -- a cursor is asked for a mark
  pub record IsAsking (cursor : ℕ) (old : StoreState K A) (answer : Result (Unit {0}) Refusal) (new : StoreState K A) : Type 0 where
    pub ok : OnOk answer (ChangesCursor with_asking old cursor new)
    pub err : IfErr answer (λ why. LacksCursor old cursor why new)

  -- a cursor is closed
  pub record IsClosing (cursor : ℕ) (old : StoreState K A) (answer : Result (Unit {0}) Refusal) (new : StoreState K A) : Type 0 where
    pub ok : OnOk answer (Closes old cursor new)
    pub err : IfErr answer (λ why. LacksCursor old cursor why new)

  -- the figures of a store are given, and the store is unchanged
  pub record IsTelling (old : StoreState K A) (answer : Result Figures Denied) (new : StoreState K A) : Type 0 where
    pub stats : Stats
    pub tells : TellsOf old stats
    pub told : answer ≡ Ok (figures_of stats)
    pub same : new ≡ old

  -- where the open cursor at a place stands is told, and the store stays
  pub record IsTellingStanding (place : ℕ) (old : StoreState K A) (answer : Result ShownStanding Denied) (new : StoreState K A) : Type 0 where
    pub told : answer ≡ Ok (shown_standing (option_map (standing_of (length old.commits)) (slice_get old.cursors place)))
    pub same : new ≡ old
