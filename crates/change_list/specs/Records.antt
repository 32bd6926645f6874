-- Commits as a list stores them: a move with the insert from which its row descends.
use Rattle.std.specs.Prelude.{◌≡◌, ℕ, ◌-◌, ◌<◌, ◌≤◌, Bool, true, false, not, length, List, map, take, Option, Some, None, slice_get, MatchOption}
use Rattle.change_list.specs.declared.write.Write.{Write}
use Rattle.change_list.specs.declared.write.Write.TheVariants.{Insert, Delete, Move}
use Rattle.change_list.specs.declared.recorded.Recorded.{Recorded}
use Rattle.change_list.specs.declared.recorded.Recorded.TheVariants as recorded
use Rattle.change_list.specs.declared.item.Row.{Row}
use Rattle.change_list.specs.Changes.{commit_at, row_at, IsLegal}

module _ {K : Type 0} where
  -- what a stored commit changes
  abbrev pub write_of : Recorded K → Write K
  write_of (recorded.Insert key tag) = Insert key tag
  write_of (recorded.Delete row) = Delete row
  write_of (recorded.Move key row origin) = Move row key

  abbrev pub writes_of : List (Recorded K) → List (Write K)
  writes_of kept = map write_of kept

  -- whether a commit inserts a key that isn't wanted
  abbrev pub is_unasked : (K → Bool) → Recorded K → Bool
  is_unasked wanted (recorded.Insert key tag) = not (wanted key)
  is_unasked wanted (recorded.Delete row) = false
  is_unasked wanted (recorded.Move key row origin) = false

  -- the first n commits all are such inserts
  pub record BeginsUnasked (wanted : K → Bool) (kept : List (Recorded K)) (n : ℕ) : Type 0 where
    pub within : n ≤ length kept
    pub each : (place : ℕ) (r : Recorded K) → place < n → slice_get kept place ≡ Some r → is_unasked wanted r ≡ true

  -- the tag of the row that a commit inserts, if it inserts one
  abbrev pub inserted_tag : Option (Write K) → Option ℕ
  inserted_tag (Some (Insert key tag)) = Some tag
  inserted_tag (Some (Delete row)) = None
  inserted_tag (Some (Move row key)) = None
  inserted_tag None = None

  -- the insert from which a commit's row descends by moves; the number is the commit's
  abbrev pub origin_of : ℕ → Recorded K → ℕ
  origin_of number (recorded.Insert key tag) = number
  origin_of number (recorded.Delete row) = number
  origin_of number (recorded.Move key row origin) = origin

  -- the row with the first number has the tag of the insert with the second
  pub record HasTagOf (commits : List (Write K)) (row origin : ℕ) : Type 0 where
    pub found : Row K
    pub is_row : row_at commits row ≡ Some found
    pub key : K
    pub inserted : commit_at commits origin ≡ Some (Insert key found.tag)

  -- a move is stored with the insert whose tag its row had in the commits before
  abbrev pub HasOrigin : List (Write K) → Recorded K → Type 0
  HasOrigin commits (recorded.Insert key tag) = Unit {0}
  HasOrigin commits (recorded.Delete row) = Unit {0}
  HasOrigin commits (recorded.Move key row origin) = HasTagOf commits row origin

  -- a legal list of commits, stored so
  pub record IsKept (kept : List (Recorded K)) : Type 0 where
    pub legal : IsLegal (writes_of kept)
    pub origins : (place : ℕ) (r : Recorded K) → slice_get kept place ≡ Some r → HasOrigin (take place (writes_of kept)) r

  -- the commit, as it is stored after the others
  pub record KeepsWrite (commits : List (Write K)) (write : Write K) (r : Recorded K) : Type 0 where
    pub is : write_of r ≡ write
    pub origin : HasOrigin commits r

  -- the commit with a number, as it is stored
  pub record IsKeptAt (commits : List (Write K)) (number : ℕ) (r : Recorded K) : Type 0 where
    pub is : commit_at commits number ≡ Some (write_of r)
    pub origin : HasOrigin (take (number - 1) commits) r

  -- the commit with a number as it is stored, or none if there is none
  abbrev pub FindsKept : List (Write K) → ℕ → Option (Recorded K) → Type 0
  FindsKept commits number found = MatchOption found (commit_at commits number ≡ None) (λ r. IsKeptAt commits number r)
