-- The meaning of commits for a query, in the form in which the program stores it.
use Rattle.std.specs.Prelude.{ℕ, List, Option, option_and_then}
use Rattle.key_class.specs.declared.pred.Pred.{Pred}
use Rattle.key_class.specs.Queries.{query_of}
use Rattle.key_class.specs.Rules.{Rules, satisfies}
use Rattle.change_list.specs.declared.write.Write.{Write}
use Rattle.change_list.specs.declared.item.Row.{Row}
use Rattle.change_list.specs.declared.item.Item.{Item}
use Rattle.change_list.specs.Changes.{row_at, deleted_item, moved_item, moved_from, snapshot}

module _ {K A : Type 0} (rules : Rules K A) (query : Pred A) where
  -- the item of commit `number`, the delete of a row, if the row's key satisfies the query
  abbrev pub deletion_for : List (Write K) → ℕ → ℕ → Option (Item K)
  deletion_for commits number row = option_and_then (deleted_item (satisfies rules (query_of query)) number) (row_at commits row)

  -- the item of the move of a row to a key, by commit `number`
  abbrev pub move_for : List (Write K) → ℕ → ℕ → K → Option (Item K)
  move_for commits number row key = option_and_then (moved_item (satisfies rules (query_of query)) number key) (row_at commits row)

  -- the item of a move, from the old key, the new row and the number of the row that ended
  abbrev pub move_between : K → Row K → ℕ → Option (Item K)
  move_between old new row = moved_from (satisfies rules (query_of query) old) (satisfies rules (query_of query) new.key) new row

  -- the live rows whose keys satisfy it, after the first n commits
  abbrev pub snapshot_for : ℕ → List (Write K) → List (Row K)
  snapshot_for n commits = snapshot (satisfies rules (query_of query)) n commits
