-- What fits a cursor over a tree, before and after a step.
use Rattle.std.specs.Prelude.{◌≡◌, ℕ, ◌≤◌, List, [], ◌∷◌, ◌++◌, length}
use Rattle.key_class.specs.Rules.{Rules}
use Rattle.mailbox.specs.Outlets.{Rule}
use Rattle.change_list.specs.declared.write.Write.{Write}
use Rattle.change_list.specs.declared.item.Item.{Item}
use Rattle.change_list.specs.Changes.{snapshot}
use Rattle.change_list.specs.Cursors.{Fits}
use Rattle.page_table.specs.Soundness.{IsSound}
use Rattle.page_table.specs.Trees.{Tree}
use Rattle.page_table.specs.Weights.{Same}
use Rattle.scan.specs.Scanning.{to_find}
use Rattle.cursor.specs.OpenCursors.{OpenCursor, wants, shown}

module _ {K A : Type 0} (rules : Rules K A) (rule : Rule) where
  -- the cursor may have given these items
  abbrev pub FitsOver : Tree K → List (Write K) → OpenCursor K A → List (Item K) → Type 0
  FitsOver t commits k items = Fits rules.is_match commits (shown rules rule t k) items

  -- what fitted before fits after
  abbrev pub KeepsFitting : Tree K → List (Write K) → OpenCursor K A → OpenCursor K A → Type 0
  KeepsFitting t commits old new = (items : List (Item K)) → FitsOver t commits old items → FitsOver t commits new items

  -- what fitted before, followed by what the outlet was sent, fits after
  abbrev pub GivesFitting : Tree K → List (Write K) → OpenCursor K A → OpenCursor K A → Type 0
  GivesFitting t commits old new = (items offered : List (Item K)) → new.unread ≡ old.unread ++ offered → FitsOver t commits old items → FitsOver t commits new (items ++ offered)

  -- over every tree and all commits
  abbrev pub KeepsAllFitting : OpenCursor K A → OpenCursor K A → Type 0
  KeepsAllFitting old new = (t : Tree K) (commits : List (Write K)) → KeepsFitting t commits old new

  -- opened at the latest commit, with its snapshot to find, the empty list fits it
  abbrev pub BeginsFitting : ℕ → OpenCursor K A → Type 0
  BeginsFitting opened k = (t : Tree K) (commits : List (Write K)) → opened ≡ length commits
      → Same (to_find (wants rules rule k) opened t k.stack) (snapshot (wants rules rule k) opened commits) → FitsOver t commits k []

  -- after a commit that exists, the empty list fits a cursor that follows it
  abbrev pub FollowsFitting : ℕ → OpenCursor K A → Type 0
  FollowsFitting from k = (t : Tree K) (commits : List (Write K)) → from ≤ length commits → FitsOver t commits k []

  -- in a sound tree a turn gives what fits
  abbrev pub TurnFits : Tree K → List (Write K) → OpenCursor K A → OpenCursor K A → Type 0
  TurnFits t commits old new = (fan : ℕ) → IsSound rules.is_cover fan t → GivesFitting t commits old new

  -- what fits a cursor still fits it after a step of the tree that leaves its scan what it has to find,
  abbrev pub TreesLeaveFitting : Type 0
  TreesLeaveFitting = (t t' : Tree K) (commits : List (Write K)) (k : OpenCursor K A) (items : List (Item K))
      → Same (to_find (wants rules rule k) k.opened t' k.stack) (to_find (wants rules rule k) k.opened t k.stack) → FitsOver t commits k items → FitsOver t' commits k items

  -- and after a further commit
  abbrev pub CommitsLeaveFitting : Type 0
  CommitsLeaveFitting = (t : Tree K) (commits : List (Write K)) (write : Write K) (k : OpenCursor K A) (items : List (Item K))
      → FitsOver t commits k items → FitsOver t (commits ++ write ∷ []) k items
