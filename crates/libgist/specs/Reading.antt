-- What calls of a snapshot answer.
use Rattle.std.specs.Prelude.{◌≡◌, ◌↔◌, ℕ, ◌<◌, ◌≤◌, ◌⊎◌, Bool, true, List, length, map, Some, None, Result, Err, IfOk, IfErr, IsPermutation, OnErr}
use Rattle.key_class.specs.declared.refusal.Refusal.{Refusal}
use Rattle.key_class.specs.declared.refusal.Refusal.TheVariants.{BadConfig, OutOfMemory, FromFuture, NoSuchRow}
use Rattle.key_class.specs.declared.pred.Pred.{Pred}
use Rattle.key_class.specs.Queries.{query_of, depth_of}
use Rattle.key_class.specs.Refusals.{IsEither}
use Rattle.key_class.specs.Rules.{Rules, satisfies}
use Rattle.change_list.specs.declared.item.Item.{Item}
use Rattle.change_list.specs.declared.item.Row.{Row}
use Rattle.change_list.specs.declared.write.Write.{Write}
use Rattle.change_list.specs.Changes.{NamesLive, row_at}
use Rattle.change_list.specs.Listings.{AreChanges}
use Rattle.snapshot.specs.Snapshots.{IsAfterAll, RefusesChanges, found_in}
use Rattle.libgist.specs.declared.words.KeyWords.{KeyWords}
use Rattle.libgist.specs.declared.words.ShownRow.{ShownRow}
use Rattle.libgist.specs.declared.words.ShownItem.{ShownItem}
use Rattle.search.specs.Fills.{written_over}
use Rattle.libgist.specs.Shown.{shown_row, shown_item}

module _ {K : Type 0} (words_of : K → KeyWords) where
  -- some rows, in any order, stand over the first places of a buffer, as many as fit
  pub record StandsInAnyOrder (rows : List (Row K)) (before after : List ShownRow) : Type 0 where
    pub given : List (Row K)
    pub arranged : IsPermutation given rows
    pub written : after ≡ written_over (map (shown_row words_of) given) before

module _ {K A : Type 0} (rules : Rules K A) (words_of : K → KeyWords) (query : Pred A) (commits : List (Write K)) where
  -- the live rows that match are counted, and stand over the first places of a buffer, by rising number
  pub record IsFind (before after : List ShownRow) (answer : Result ℕ Refusal) : Type 0 where
    pub counted : IfOk answer (λ n. n ≡ length (found_in rules query commits))
    pub written : IfOk answer (λ n. after ≡ written_over (map (shown_row words_of) (found_in rules query commits)) before)
    pub unfilled : OnErr answer (after ≡ before)
    pub depth : (answer ≡ Err BadConfig) ↔ (32 < depth_of (query_of query))
    pub refusals : IfErr answer (IsEither BadConfig OutOfMemory)

  -- the live rows that match are counted, and stand over the first places of a buffer, in any order
  pub record IsFindAny (before after : List ShownRow) (answer : Result ℕ Refusal) : Type 0 where
    pub counted : IfOk answer (λ n. n ≡ length (found_in rules query commits))
    pub written : IfOk answer (λ n. StandsInAnyOrder words_of (found_in rules query commits) before after)
    pub unfilled : OnErr answer (after ≡ before)
    pub depth : (answer ≡ Err BadConfig) ↔ (32 < depth_of (query_of query))
    pub refusals : IfErr answer (λ why. why ≡ BadConfig)

  -- The matching items of the commits after `from`, up to another commit, are counted and stand over the first places
  -- of a buffer. That commit is the last one, or the buffer is full.
  pub record GivesChanges (from : ℕ) (before after : List ShownItem) (told : ℕ × ℕ) : Type 0 where
    pub items : List (Item K)
    pub changes : AreChanges (satisfies rules (query_of query)) from told.1 commits items
    pub counted : told.0 ≡ length items
    pub written : after ≡ written_over (map (shown_item words_of commits) items) before
    pub few : told.0 ≤ length before
    pub ends : (told.1 ≡ length commits) ⊎ (told.0 ≡ length before)

  -- the changes after a commit are asked for
  pub record IsChanges (from : ℕ) (before after : List ShownItem) (answer : Result (ℕ × ℕ) Refusal) : Type 0 where
    pub ok : IfOk answer (GivesChanges from before after)
    pub unfilled : OnErr answer (after ≡ before)
    pub depth : (answer ≡ Err BadConfig) ↔ (32 < depth_of (query_of query))
    pub future : (answer ≡ Err FromFuture) ↔ IsAfterAll (query_of query) commits from
    pub refusals : IfErr answer RefusesChanges

module _ {K A : Type 0} (rules : Rules K A) (query : Pred A) (commits : List (Write K)) where
  -- the live rows that match are counted
  pub record IsCount (answer : Result ℕ Refusal) : Type 0 where
    pub counted : IfOk answer (λ n. n ≡ length (found_in rules query commits))
    pub depth : (answer ≡ Err BadConfig) ↔ (32 < depth_of (query_of query))
    pub refusals : IfErr answer (λ why. why ≡ BadConfig)

module _ {K : Type 0} (words_of : K → KeyWords) (commits : List (Write K)) where
  -- the row with a number, and whether it is live
  pub record TellsRow (number : ℕ) (told : ShownRow × Bool) : Type 0 where
    pub row : Row K
    pub is : row_at commits number ≡ Some row
    pub shown : told.0 ≡ shown_row words_of row
    pub lives : (told.1 ≡ true) ↔ NamesLive commits number

  -- the row with a number is asked for
  pub record IsRowOf (number : ℕ) (answer : Result (ShownRow × Bool) Refusal) : Type 0 where
    pub ok : IfOk answer (TellsRow number)
    pub no_such_row : (answer ≡ Err NoSuchRow) ↔ (row_at commits number ≡ None)
    pub refusals : IfErr answer (IsEither NoSuchRow OutOfMemory)
