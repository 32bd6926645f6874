-- A store whose state agrees with what its client was told.
use Rattle.std.specs.Prelude.{◌≡◌, ℕ, ◌<◌, ◌≤◌, true, List, length, Result, Ok, Err, IsPermutation}
use Rattle.key_class.specs.Rules.{Rules}
use Rattle.key_class.specs.declared.refusal.Refusal.{Refusal}
use Rattle.change_list.specs.declared.write.Write.{Write}
use Rattle.change_list.specs.Cursors.{CursorState, Fits}
use Rattle.store.specs.States.{StoreState, cursor_of}
use Rattle.front.specs.Told.{ClientCursor, Told}

module _ {K A : Type 0} (rules : Rules K A) where
  -- the open cursor of the store is the client's, and what it gave fits it
  pub record IsSameCursor (commits : List (Write K)) (cursor : CursorState K A) (f : ClientCursor K A) : Type 0 where
    pub query : f.query ≡ cursor.query
    pub follows : f.follows ≡ cursor.follows
    pub opened : f.opened ≡ cursor.opened
    pub asked : f.asked ≡ cursor.asked
    pub fits : Fits rules.is_match commits cursor f.given

  abbrev pub AreSame : List (Write K) → Result (CursorState K A) Refusal → Result (ClientCursor K A) Refusal → Type 0
  AreSame commits (Ok cursor) (Ok f) = IsSameCursor commits cursor f
  AreSame commits (Err why) (Err other) = why ≡ other
  AreSame commits _ _ = ⊥

  pub record IsAsTold (state : StoreState K A) (told : Told K A) : Type 0 where
    pub limit : told.limit ≡ state.limit
    pub commits : told.commits ≡ state.commits
    pub page_limit : told.page_limit ≡ state.page_limit
    pub cursors : (c : ℕ) → AreSame state.commits (cursor_of state c) (told.cursors c)
    pub open_cursors : told.open_cursors ≡ length state.cursors
    pub last : told.last ≡ state.last
    pub dead : IsPermutation told.dead state.dead
    pub finders : state.finders ≤ told.finders
    -- once the client was told that the pages are full, fewer than two pages are left for good
    pub pages : told.pages_full ≡ true → state.pages_left < 2

  -- If the state of the store agreed with what was told before, the answers are allowed, and the new state agrees
  -- with what is told then.
  abbrev pub Tells : StoreState K A → StoreState K A → (Told K A → Told K A → Type 0) → Type 0
  Tells old new replies = (told : Told K A) → IsAsTold old told → (after : Told K A) × replies told after × IsAsTold new after
