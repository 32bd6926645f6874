-- The figures of a store, and the state of its cursors.
use Rattle.std.specs.Prelude.{◌≡◌, ℕ, ◌+◌, ◌-◌, ◌<◌, true, length, slice_get, Some}
use Rattle.change_list.specs.Cursors.{CursorState}
use Rattle.store.specs.States.{StoreState, horizon_of}
use Rattle.store.specs.declared.stats.Standing.{Standing}
use Rattle.store.specs.declared.stats.Stats.{Stats}

module _ {K A : Type 0} where
  -- the commit from which on no open scan needs dead rows
  abbrev pub horizon_in : StoreState K A → ℕ
  horizon_in state = horizon_of (length state.commits) state.cursors

  -- the figures are those of the store
  pub record TellsOf (state : StoreState K A) (stats : Stats) : Type 0 where
    pub commits : stats.commits ≡ length state.commits
    pub commit_limit : stats.commit_limit ≡ state.limit
    pub pages : stats.pages + state.pages_left ≡ state.page_limit
    pub page_limit : stats.page_limit ≡ state.page_limit
    pub cursors : stats.cursors ≡ length state.cursors
    pub horizon : stats.horizon ≡ horizon_in state

  -- the state of a cursor, when so many commits were made
  abbrev pub standing_of : ℕ → CursorState K A → Standing
  standing_of commits k = record { serial = k.serial; opened = k.opened; lag = commits - k.position; is_scanning = k.scanning }

  -- the open cursor has pages left to visit, no other such cursor was opened before it, and commits were made since
  pub record KeepsDead (state : StoreState K A) (serial : ℕ) : Type 0 where
    pub place : ℕ
    pub cursor : CursorState K A
    pub is : slice_get state.cursors place ≡ Some cursor
    pub serial_is : cursor.serial ≡ serial
    pub scanning : cursor.scanning ≡ true
    pub first : cursor.opened ≡ horizon_in state
    pub behind : cursor.opened < length state.commits
