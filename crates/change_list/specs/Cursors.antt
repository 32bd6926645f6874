-- What contracts see of a cursor, and which lists of given items fit it.
use Rattle.std.specs.Prelude.{◌≡◌, ℕ, ◌+◌, ◌-◌, ◌≤◌, Bool, true, false, cond, List, [], ◌∷◌, ◌++◌, length, map, ◌⊎◌, IsPermutation}
use Rattle.change_list.specs.declared.write.Write.{Write}
use Rattle.change_list.specs.declared.item.Row.{Row}
use Rattle.change_list.specs.declared.item.Item.{Item}
use Rattle.change_list.specs.declared.item.Item.TheVariants as item
use Rattle.change_list.specs.Changes.{changes}
use Rattle.change_list.specs.Listings.{IsListingFor, first_rows, without_marks}
use Rattle.key_class.specs.Queries.{Query, matches_query}

-- an open cursor
pub record CursorState (K A : Type 0) : Type 0 where
  pub serial : ℕ
  pub query : Query A
  -- it follows a commit, so it was opened without a snapshot
  pub follows : Bool
  -- the number of commits at its opening, or the commit that it follows
  pub opened : ℕ
  -- its scan isn't over
  pub scanning : Bool
  -- the rows of its snapshot that it still has to give, in any order; none if it follows a commit
  pub remaining : List (Row K)
  -- the changes up to this commit were given
  pub position : ℕ
  -- a mark was asked for and not given yet
  pub asked : Bool

module _ {K A : Type 0} (matching : A → K → Bool) where
  abbrev pub wanted_by : CursorState K A → K → Bool
  wanted_by cursor = matches_query matching cursor.query

  -- the scan is over and its rows are given
  pub record IsPastRows (cursor : CursorState K A) : Type 0 where
    pub scanned : cursor.scanning ≡ false
    pub none_remaining : cursor.remaining ≡ []

  -- The cursor may have given these items. Without marks they are rows, then the changes up to its position; those
  -- rows with what remains are the snapshot, or none if it follows a commit, which has no scan; no change comes
  -- before the last row; and at each mark everything due was given.
  pub record Fits (commits : List (Write K)) (cursor : CursorState K A) (items : List (Item K)) : Type 0 where
    pub rows : List (Row K)
    pub is : without_marks items ≡ map item.Row rows ++ changes (wanted_by cursor) cursor.opened cursor.position commits
    pub each_once : IsPermutation (first_rows cursor.follows (wanted_by cursor) cursor.opened commits) (rows ++ cursor.remaining)
    pub follower : cursor.follows ≡ true → IsPastRows cursor
    pub in_order : IsPastRows cursor ⊎ (cursor.position ≡ cursor.opened)
    pub from_opening : cursor.opened ≤ cursor.position
    pub within : cursor.position ≤ length commits
    pub marks : (before after : List (Item K)) (n : ℕ) → items ≡ before ++ item.Mark n ∷ after
        → IsListingFor cursor.follows (wanted_by cursor) cursor.opened n commits (without_marks before)

  -- no row, no change and no mark is still to come
  pub record HasNothingToCome (commits : List (Write K)) (cursor : CursorState K A) : Type 0 where
    pub past_rows : IsPastRows cursor
    pub at_end : length commits ≤ cursor.position
    pub unasked : cursor.asked ≡ false

module _ {K A : Type 0} where
  -- how much a cursor still has to do: rows to give, commits to pass, and a mark if one is asked for
  abbrev pub work : List (Write K) → CursorState K A → ℕ
  work commits cursor = length cursor.remaining + (length commits - cursor.position) + cond cursor.asked 1 0
