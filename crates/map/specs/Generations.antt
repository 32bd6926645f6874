-- A store whose rows are the entries of a map: each row's tag is the id of its entry.
use Rattle.std.specs.Prelude.{◌≡◌, ℕ, ◌+◌, ◌-◌, ◌<◌, ◌≤◌, ◌^◌, nat_eq, Bool, List, [], ◌∷◌, ◌++◌, length, map, take, drop, find, Option, Some, None, option_map, slice_get}
use Rattle.std.specs.FinMap.{FinMap, get}
use Rattle.std.specs.Option.{option_map_or}
use Rattle.std.specs.Ordering.{nat_cmp}
use Rattle.change_list.specs.declared.item.Row.{Row}
use Rattle.change_list.specs.declared.write.Write.{Write}
use Rattle.change_list.specs.declared.write.Write.TheVariants.{Insert, Delete, Move}
use Rattle.change_list.specs.Changes.{IsLegal, row_at, rows}
use Rattle.revisions.specs.declared.change.MapChange.{MapChange}
use Rattle.revisions.specs.declared.change.MapChange.TheVariants.{Put, Remove}
use Rattle.revisions.specs.declared.entry.MapEntry.{MapEntry}
use Rattle.revisions.specs.Maps.{AreApart, MapState}

module _ {K : Type 0} where
  -- a row's entry
  abbrev pub entry_of : Row K → MapEntry K
  entry_of r = record { id = r.tag; key = r.key }

  abbrev pub entries_from : List (Row K) → List (MapEntry K)
  entries_from rows = map entry_of rows

  -- the row is that of an id
  abbrev pub is_row_of : ℕ → Row K → Bool
  is_row_of id r = nat_eq r.tag id

  -- the row of an id, among some rows
  abbrev pub row_of_id : ℕ → List (Row K) → Option (Row K)
  row_of_id id rows = find (is_row_of id) rows

  -- the id of the row with a number
  abbrev pub id_of : List (Write K) → ℕ → ℕ
  id_of commits row = option_map_or (λ r. r.tag) (row_at commits row) 0

  -- what a commit changes, given those before it
  abbrev pub change_of : List (Write K) → Write K → MapChange K
  change_of before (Insert key tag) = Put tag key
  change_of before (Delete row) = Remove (id_of before row)
  change_of before (Move row key) = Put (id_of before row) key

  -- what further commits change
  abbrev pub changes_behind : List (Write K) → List (Write K) → List (MapChange K)
  changes_behind before [] = []
  changes_behind before (write ∷ commits) = change_of before write ∷ changes_behind (before ++ write ∷ []) commits

  -- the map of a store that had its first commits at a revision
  abbrev pub map_of : ℕ → ℕ → List (Write K) → MapState K
  map_of oldest begun commits = record {
    oldest = oldest;
    first = entries_from (rows (take begun commits));
    changes = changes_behind (take begun commits) (drop begun commits);
  }

  -- the row with a number is that of its id
  pub record IsRowOfId (commits : List (Write K)) (row : ℕ) : Type 0 where
    pub found : Row K
    pub is : row_at commits row ≡ Some found
    pub of_id : row_of_id found.tag (rows commits) ≡ Some found

  -- an insert makes the only row of its id, a delete or a move ends the row of an id
  abbrev pub KeepsIds : List (Write K) → Write K → Type 0
  KeepsIds commits (Insert key tag) = row_of_id tag (rows commits) ≡ None
  KeepsIds commits (Delete row) = IsRowOfId commits row
  KeepsIds commits (Move row key) = IsRowOfId commits row

  abbrev pub AreById : List (Write K) → Type 0
  AreById commits = (place : ℕ) (write : Write K) → slice_get commits place ≡ Some write → KeepsIds (take place commits) write

  -- the commits of a map: legal, each row the only one of its id
  pub record IsMapList (begun : ℕ) (commits : List (Write K)) : Type 0 where
    pub legal : IsLegal commits
    pub begins : begun ≤ length commits
    pub by_id : AreById commits

  -- the numbers of the rows by their ids
  abbrev pub TellsRows : FinMap nat_cmp ℕ → List (Write K) → Type 0
  TellsRows numbers commits = (id : ℕ) → get numbers id ≡ option_map (λ r. r.row) (row_of_id id (rows commits))

  -- the commits of a map from a revision on, all of whose revisions are numbers of 64 bits, and how many entries it has
  pub record IsMapSnapshot (oldest begun len : ℕ) (commits : List (Write K)) : Type 0 where
    pub list : IsMapList begun commits
    pub few : oldest + (length commits - begun) < 2 ^ 64
    pub counted : len ≡ length (rows commits)

  -- and the numbers of their live rows by id
  pub record IsGeneration (oldest begun len : ℕ) (commits : List (Write K)) (numbers : FinMap nat_cmp ℕ) : Type 0 where
    pub list : IsMapList begun commits
    pub few : oldest + (length commits - begun) < 2 ^ 64
    pub counted : len ≡ length (rows commits)
    pub tells : TellsRows numbers commits
