-- The rows of a snapshot that a client still has to be given.
use Rattle.std.specs.Prelude.{◌≡◌, ℕ, ◌+◌, ◌-◌, ◌<◌, ◌≤◌, Bool, List, [], ◌∷◌, ◌++◌, length, map, take, drop, filter, filter_map, cond, Option, Some, None, slice_get, slice_set, IsPermutation, MatchOption}
use Rattle.key_class.specs.declared.pred.Pred.{Pred}
use Rattle.key_class.specs.Queries.{query_of}
use Rattle.key_class.specs.Rules.{Rules, satisfies}
use Rattle.change_list.specs.declared.write.Write.{Write}
use Rattle.change_list.specs.declared.write.Write.TheVariants.{Insert, Delete, Move}
use Rattle.change_list.specs.declared.item.Row.{Row}
use Rattle.change_list.specs.declared.item.Item.{Item}
use Rattle.change_list.specs.declared.item.Item.TheVariants as item
use Rattle.change_list.specs.Changes.{IsLegal, rows}

module _ {K : Type 0} where
  -- the rows in the slots
  abbrev pub rows_in : List (Option (Row K)) → List (Row K)
  rows_in slots = filter_map (λ slot. slot) slots

  -- the row is in the slot of its number
  abbrev pub IsInSlot : List (Option (Row K)) → Row K → Type 0
  IsInSlot slots row = (0 < row.row) × (slice_get slots (row.row - 1) ≡ Some (Some row))

  -- row n is in slot n - 1 or in none
  pub record IsPlaced (slots : List (Option (Row K))) : Type 0 where
    pub each : (place : ℕ) (row : Row K) → slice_get slots place ≡ Some (Some row) → row.row ≡ place + 1

  -- the row that a commit makes, if it makes one and its key is wanted
  abbrev pub wanted_row : (K → Bool) → Option (Row K) → Option (Row K)
  wanted_row wanted None = None
  wanted_row wanted (Some row) = cond (wanted row.key) (Some row) None

  -- the slots, after that of the row that a commit ends was emptied
  abbrev pub without_ended : List (Option (Row K)) → Write K → List (Option (Row K))
  without_ended slots (Insert key tag) = slots
  without_ended slots (Delete row) = slice_set slots (row - 1) None
  without_ended slots (Move row key) = slice_set slots (row - 1) None

  -- the slots without the row that a further commit ends, and one more, with the row that it makes if that is wanted
  abbrev pub slots_with : (K → Bool) → List (Option (Row K)) → Write K → Option (Row K) → List (Option (Row K))
  slots_with wanted slots write made = without_ended slots write ++ wanted_row wanted made ∷ []

  -- a slot for each commit, with the row that it made if that is live and wanted
  pub record IsRoll (wanted : K → Bool) (commits : List (Write K)) (slots : List (Option (Row K))) : Type 0 where
    pub legal : IsLegal commits
    pub one_each : length slots ≡ length commits
    pub placed : IsPlaced slots
    pub is : rows_in slots ≡ filter (λ r. wanted r.key) (rows commits)

  -- the first n items are rows, and they and what is left are all those rows
  pub record IsTaken (all : List (Row K)) (items : List (Item K)) (n : ℕ) (left : List (Row K)) : Type 0 where
    pub within : n ≤ length items
    pub given : List (Row K)
    pub is : take n items ≡ map item.Row given
    pub each_once : IsPermutation all (given ++ left)

  -- no further row follows
  pub record AllTaken (all : List (Row K)) (items : List (Item K)) (n : ℕ) (left : List (Row K)) : Type 0 where
    pub taken : IsTaken all items n left
    pub ends : (row : Row K) (rest : List (Item K)) → drop n items ≡ item.Row row ∷ rest → ⊥

  -- the items begin with rows that no arrangement of all rows begins with
  pub record HasWrongRow (all : List (Row K)) (items : List (Item K)) : Type 0 where
    pub given : List (Row K)
    pub row : Row K
    pub rest : List (Item K)
    pub is : items ≡ map item.Row given ++ item.Row row ∷ rest
    pub wrong : (more : List (Row K)) → IsPermutation all (given ++ row ∷ more) → ⊥

  -- the rows with which the items begin are taken and counted, or one of them doesn't remain
  abbrev pub TakesRows : List (Row K) → List (Item K) → Option ℕ → List (Row K) → Type 0
  TakesRows all items result left = MatchOption result (HasWrongRow all items) (λ count. AllTaken all items count left)

-- the slots with one more for a further commit of a query's snapshot, given the row that it makes
abbrev pub slots_for : {K A : Type 0} → Rules K A → Pred A → List (Option (Row K)) → Write K → Option (Row K) → List (Option (Row K))
slots_for rules query slots write made = slots_with (satisfies rules (query_of query)) slots write made
