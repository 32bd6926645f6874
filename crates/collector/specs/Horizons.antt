-- The commit from which on dead rows may still be needed.
use Rattle.std.specs.Prelude.{◌≡◌, ℕ, ◌≤◌, true, List, Some, slice_get, ◌⊎◌}
use Rattle.cursor.specs.OpenCursors.{OpenCursor, is_scanning}

module _ {K A : Type 0} where
  -- one of the cursors has pages left to visit and was opened at that commit
  pub record ScansFrom (cursors : List (OpenCursor K A)) (opened : ℕ) : Type 0 where
    pub at : ℕ
    pub cursor : OpenCursor K A
    pub is : slice_get cursors at ≡ Some cursor
    pub scanning : is_scanning cursor.stack ≡ true
    pub opened_is : cursor.opened ≡ opened

  -- the least opening of the cursors that have pages left to visit, or the number of commits if that is less
  pub record IsHorizon (commits : ℕ) (cursors : List (OpenCursor K A)) (horizon : ℕ) : Type 0 where
    pub within : horizon ≤ commits
    pub least : (opened : ℕ) → ScansFrom cursors opened → horizon ≤ opened
    pub reached : (horizon ≡ commits) ⊎ ScansFrom cursors horizon
