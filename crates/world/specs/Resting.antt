-- What a call that isn't about cursors leaves to them, and the dead rows that a tree holds.
use Rattle.std.specs.Prelude.{◌≡◌, ℕ, ◌≤◌, List, length, Option, Some, None}
use Rattle.std.specs.List.{filter_map}
use Rattle.key_class.specs.Rules.{Rules}
use Rattle.mailbox.specs.Outlets.{Rule}
use Rattle.change_list.specs.declared.item.Item.{Item}
use Rattle.change_list.specs.Cursors.{Fits}
use Rattle.row_version.specs.Entries.{Entry}
use Rattle.page_table.specs.Trees.{Tree, rows_of_tree}
use Rattle.cursor.specs.OpenCursors.{OpenCursor, shown}
use Rattle.world.specs.States.{State, cursor_at}

-- a row with the commit that ended it
abbrev pub death_from : ℕ → Option ℕ → Option (ℕ × ℕ)
death_from row None = None
death_from row (Some died) = Some (row, died)

module _ {K : Type 0} where
  abbrev pub death : Entry K → Option (ℕ × ℕ)
  death e = death_from e.row e.died

  -- the dead rows that the tree holds, in any order, each with the commit that ended it
  abbrev pub deaths : Tree K → List (ℕ × ℕ)
  deaths t = filter_map death (rows_of_tree t)

module _ {K A : Type 0} (rules : Rules K A) (rule : Rule) where
  -- The same cursors are open, and every list of items that fitted one of them still fits it. There are no fewer
  -- pages.
  pub record Rests (old new : State K A) : Type 0 where
    pub limit : new.limit ≡ old.limit
    pub page_limit : new.search.limit ≡ old.search.limit
    pub pages : length old.search.tree.pages ≤ length new.search.tree.pages
    pub last : new.last ≡ old.last
    pub cursors : new.cursors ≡ old.cursors
    pub fits : (c : ℕ) (k : OpenCursor K A) → cursor_at old c ≡ Some k → (items : List (Item K)) → Fits rules.is_match old.commits (shown rules rule old.search.tree k) items → Fits rules.is_match new.commits (shown rules rule new.search.tree k) items
