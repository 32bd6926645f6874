-- What a commit changes, and what that change means for a query.
use Rattle.std.specs.Prelude.{◌≡◌, ℕ, ◌+◌, Bool, List, Option, Some, None, option_map, if◌then◌else◌}
use Rattle.change_list.specs.declared.item.Item.{Item}
use Rattle.change_list.specs.declared.item.Row.{Row}
use Rattle.change_list.specs.declared.write.Write.{Write}
use Rattle.change_list.specs.declared.write.Write.TheVariants.{Insert, Delete, Move}
use Rattle.change_list.specs.Changes.{IsLegal, commit_at, item_at, moved, row_at}
use Rattle.feed.specs.declared.change.Change.{Change}

module _ {K : Type 0} where
  -- the row that a commit ends, if any
  abbrev pub ended_row : List (Write K) → Option (Write K) → Option (Row K)
  ended_row commits (Some (Delete row)) = row_at commits row
  ended_row commits (Some (Move row key)) = row_at commits row
  ended_row commits (Some (Insert key tag)) = None
  ended_row commits None = None

  -- the row that a commit makes, if any, by its number
  abbrev pub begun_row : List (Write K) → ℕ → Option (Write K) → Option (Row K)
  begun_row commits number (Some (Insert key tag)) = Some (record { row = number; key = key; tag = tag })
  begun_row commits number (Some (Move row key)) = option_map (moved number key) (row_at commits row)
  begun_row commits number (Some (Delete row)) = None
  begun_row commits number None = None

  -- this is the change of commit `place + 1` of a legal list
  pub record IsChangeOf (commits : List (Write K)) (place : ℕ) (change : Change K) : Type 0 where
    pub legal : IsLegal commits
    pub number : change.number ≡ place + 1
    pub ended : change.ended ≡ ended_row commits (commit_at commits (place + 1))
    pub made : change.made ≡ begun_row commits (place + 1) (commit_at commits (place + 1))

module _ {K : Type 0} (wanted : K → Bool) where
  -- a row, if its key satisfies the query
  abbrev pub asked_row : Option (Row K) → Option (Row K)
  asked_row (Some r) = if wanted r.key then Some r else None
  asked_row None = None

  -- this is the item of every commit that has this change
  abbrev pub TellsItem : Change K → Option (Item K) → Type 0
  TellsItem change item = (commits : List (Write K)) (place : ℕ) → IsChangeOf commits place change → item ≡ item_at wanted commits place
