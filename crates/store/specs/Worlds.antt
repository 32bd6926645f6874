-- The state of a store, as seen from the state of its world.
use Rattle.std.specs.Prelude.{◌≡◌, ℕ, ◌-◌, ◌<◌, List, [], length, map, Option, Some, Ok, All}
use Rattle.std.specs.List.{filter_map}
use Rattle.key_class.specs.Rules.{Rules}
use Rattle.mailbox.specs.Outlets.{Rule, tray_rule}
use Rattle.key_class.specs.declared.refusal.Refusal.{Refusal}
use Rattle.change_list.specs.declared.item.Item.{Item}
use Rattle.change_list.specs.Cursors.{CursorState}
use Rattle.node.specs.Pages.{Page}
use Rattle.cursor.specs.OpenCursors.{OpenCursor, shown}
use Rattle.world.specs.Resting.{death, deaths}
use Rattle.world.specs.States as world
use Rattle.store.specs.States.{StoreState, DeadRow, Nexts, RefusesNext, cursor_of}

abbrev pub dead_row : ℕ × ℕ → DeadRow
dead_row (row, died) = record { row = row; died = died }

-- the dead rows on a page
abbrev pub dead_of_page : {K : Type 0} → Page K → List DeadRow
dead_of_page page = map dead_row (filter_map death page.rows)

module _ {K A : Type 0} where
  -- the state of a store, by that of its world
  abbrev pub store_state : Rules K A → Rule → world.State K A → StoreState K A
  store_state rules rule s = record {
    limit = s.limit;
    commits = s.commits;
    page_limit = s.search.limit;
    cursors = map (shown rules rule s.search.tree) s.cursors;
    last = s.last;
    dead = map dead_row (deaths s.search.tree);
    dead_by_page = map dead_of_page s.search.tree.pages;
    pages_left = s.search.limit - length s.search.tree.pages;
    finders = s.last_finder;
  }

  -- how the cursor of a world gives its next item, or nothing, and why it is refused
  abbrev pub NextsIn : Rules K A → world.State K A → ℕ → Option (Item K) → world.State K A → Type 0
  NextsIn rules old c given new = Nexts rules.is_match (store_state rules tray_rule old) c given (store_state rules tray_rule new)

  abbrev pub RefusesNextIn : Rules K A → world.State K A → ℕ → Refusal → world.State K A → Type 0
  RefusesNextIn rules old c why new = RefusesNext rules.is_match (store_state rules tray_rule old) c why (store_state rules tray_rule new)

  -- a cursor with the serial is open
  abbrev pub HasCursor : StoreState K A → ℕ → Type 0
  HasCursor state c = (k : CursorState K A) × (cursor_of state c ≡ Ok k)

  -- the mailbox is empty, and has room for an item
  pub record IsEmptied (k : OpenCursor K A) : Type 0 where
    pub empty : k.unread ≡ []
    pub place : 0 < k.room

  -- between the calls of a store no finder is open, and every mailbox is empty
  pub record IsQuiet (s : world.State K A) : Type 0 where
    pub no_finder : s.finders ≡ []
    pub emptied : All (λ k. IsEmptied k) s.cursors

  -- the mailbox of the open cursor isn't empty
  abbrev pub IsFilled : world.State K A → ℕ → Type 0
  IsFilled s c = (k : OpenCursor K A) → world.cursor_at s c ≡ Some k → ¬ (k.unread ≡ [])
