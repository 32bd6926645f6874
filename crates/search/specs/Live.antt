-- The live rows of some entries.
use Rattle.std.specs.Prelude.{ℕ, Bool, true, false, ◌&&◌, List, map, filter, Option, Some, None}
use Rattle.change_list.specs.declared.item.Row.{Row}
use Rattle.row_version.specs.Entries.{Entry}

-- no commit ended the row
abbrev pub is_live : Option ℕ → Bool
is_live None = true
is_live (Some n) = false

module _ {K : Type 0} where
  -- the row of an entry
  abbrev pub row_of : Entry K → Row K
  row_of e = record { row = e.row; key = e.key; tag = e.tag }

  -- the row is live, and its key is accepted
  abbrev pub is_found : (K → Bool) → Entry K → Bool
  is_found accepts e = is_live e.died && accepts e.key

  -- of some entries, the rows that are live and whose keys are accepted
  abbrev pub live_rows : (K → Bool) → List (Entry K) → List (Row K)
  live_rows accepts entries = map row_of (filter (is_found accepts) entries)
