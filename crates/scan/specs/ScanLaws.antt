-- What each step leaves to the entries, to a scan under way and to a finder.
use Rattle.std.specs.Prelude.{◌≡◌, ◌⊎◌, ℕ, ◌+◌, ◌<◌, ◌≤◌, Bool, List, [], ◌∷◌, ◌++◌, length, Some, None}
use Rattle.change_list.specs.declared.write.Write.{Write}
use Rattle.change_list.specs.declared.write.Write.TheVariants.{Insert, Delete, Move}
use Rattle.change_list.specs.declared.item.Row.{Row}
use Rattle.change_list.specs.Changes.{IsLegal, NamesLive, row_at, snapshot}
use Rattle.row_version.specs.Entries.{Entry}
use Rattle.page_table.specs.Keeping.{KeepsRows, EachEntry, StandsIn}
use Rattle.page_table.specs.LeafChanges.{after_place, after_bury, after_sweep}
use Rattle.page_table.specs.Soundness.{IsSound}
use Rattle.page_table.specs.Stacks.{StackItem, IsStack, root_stack}
use Rattle.page_table.specs.Trees.{Tree, page_at}
use Rattle.page_table.specs.Weights.{Same, weigh}
use Rattle.scan.specs.Agreement.{Agrees, is_row}
use Rattle.scan.specs.Finding.{IsFinder}
use Rattle.scan.specs.Scanning.{to_find}

module _ {K : Type 0} where
  -- its stack remains valid, and whatever it looks for, it has the same rows to find
  pub record Undisturbed (s : ℕ) (t t' : Tree K) (stack : List StackItem) : Type 0 where
    pub exists : IsStack t' stack
    pub rows : (wanted : K → Bool) → Same (to_find wanted s t' stack) (to_find wanted s t stack)

-- Moves of entries from page to page.
module _ (K : Type 0) where
  -- the entries still agree with the commits
  abbrev pub MovesKeepEntries : Type 0
  MovesKeepEntries = (t t' : Tree K) (commits : List (Write K)) → KeepsRows t t' → EachEntry (λ e. StandsIn t e) t' → Agrees t commits → Agrees t' commits

  -- a scan isn't disturbed
  abbrev pub MovesLeaveScans : Type 0
  MovesLeaveScans = (t t' : Tree K) (s : ℕ) (stack : List StackItem) → KeepsRows t t' → IsStack t stack → Undisturbed s t t' stack

  -- a finder remains one
  abbrev pub MovesLeaveFinders : Type 0
  MovesLeaveFinders = (t t' : Tree K) (row : ℕ) (stack : List StackItem) → KeepsRows t t' → IsFinder row t stack → IsFinder row t' stack

module _ {K : Type 0} (is_cover : K → K → Bool) where
  -- with the entry of an insert, which is the next commit, the entries agree with the commits
  abbrev pub PlacesKeepEntries : Type 0
  PlacesKeepEntries = (t : Tree K) (fan p : ℕ) (commits : List (Write K)) (key : K) (tag : ℕ) → IsSound is_cover fan t → IsLegal commits → Agrees t commits
      → p < length t.pages → Agrees (after_place t p (record { key = key; row = length commits + 1; tag = tag; died = None })) (commits ++ Insert key tag ∷ [])

  -- with a row's death by a delete, which is the next commit, of a live row on that page
  abbrev pub BurialsKeepEntries : Type 0
  BurialsKeepEntries = (t : Tree K) (fan p : ℕ) (commits : List (Write K)) (row : ℕ) → IsSound is_cover fan t → IsLegal commits → Agrees t commits
      → p < length t.pages → NamesLive commits row → 1 ≤ weigh (is_row row) (page_at t p).rows → Agrees (after_bury t p row (length commits + 1)) (commits ++ Delete row ∷ [])

  -- with both by a move, which is the next commit, of a live row from one page to the other, or within a page
  abbrev pub RowMovesKeepEntries : Type 0
  RowMovesKeepEntries = (t : Tree K) (fan p q : ℕ) (commits : List (Write K)) (row : ℕ) (key : K) (r : Row K) → IsSound is_cover fan t → IsSound is_cover fan (after_bury t p row (length commits + 1))
      → IsLegal commits → Agrees t commits → p < length t.pages → q < length t.pages → NamesLive commits row → 1 ≤ weigh (is_row row) (page_at t p).rows → row_at commits row ≡ Some r
      → Agrees (after_place (after_bury t p row (length commits + 1)) q (record { key = key; row = length commits + 1; tag = r.tag; died = None })) (commits ++ Move row key ∷ [])

  -- after a sweep
  abbrev pub SweepsKeepEntries : Type 0
  SweepsKeepEntries = (t : Tree K) (fan p horizon : ℕ) (commits : List (Write K)) → IsSound is_cover fan t → Agrees t commits
      → p < length t.pages → Agrees (after_sweep t p horizon) commits

  -- a scan that opens at the latest commit has the rows of its snapshot to find
  abbrev pub ScansFindSnapshots : Type 0
  ScansFindSnapshots = (t : Tree K) (fan : ℕ) (commits : List (Write K)) (wanted : K → Bool) → IsSound is_cover fan t → Agrees t commits
      → Same (to_find wanted (length commits) t (root_stack t.counter)) (snapshot wanted (length commits) commits)

  -- an entry of a later row disturbs no scan
  abbrev pub PlacesLeaveScans : Type 0
  PlacesLeaveScans = (t : Tree K) (fan p s : ℕ) (stack : List StackItem) (entry : Entry K) → IsSound is_cover fan t → IsStack t stack
      → p < length t.pages → s < entry.row → Undisturbed s t (after_place t p entry) stack

  -- nor does a later death
  abbrev pub BurialsLeaveScans : Type 0
  BurialsLeaveScans = (t : Tree K) (fan p s row n : ℕ) (stack : List StackItem) (commits : List (Write K)) → IsSound is_cover fan t → Agrees t commits → IsStack t stack
      → p < length t.pages → s < n → NamesLive commits row → Undisturbed s t (after_bury t p row n) stack

  -- nor does a sweep whose horizon isn't past its opening
  abbrev pub SweepsLeaveScans : Type 0
  SweepsLeaveScans = (t : Tree K) (fan p s horizon : ℕ) (stack : List StackItem) → IsSound is_cover fan t → IsStack t stack
      → p < length t.pages → (stack ≡ []) ⊎ (horizon ≤ s) → Undisturbed s t (after_sweep t p horizon) stack

  -- a live row has a finder, which begins at the root
  abbrev pub FindersBegin : Type 0
  FindersBegin = (t : Tree K) (fan row : ℕ) (commits : List (Write K)) → IsSound is_cover fan t → Agrees t commits → NamesLive commits row → IsFinder row t (root_stack t.counter)

  -- it remains one when another row's entry is placed,
  abbrev pub PlacesLeaveFinders : Type 0
  PlacesLeaveFinders = (t : Tree K) (fan p row : ℕ) (stack : List StackItem) (entry : Entry K) → IsSound is_cover fan t
      → p < length t.pages → ¬ (entry.row ≡ row) → IsFinder row t stack → IsFinder row (after_place t p entry) stack

  -- when another row dies,
  abbrev pub BurialsLeaveFinders : Type 0
  BurialsLeaveFinders = (t : Tree K) (fan p row other n : ℕ) (stack : List StackItem) → IsSound is_cover fan t
      → p < length t.pages → IsFinder row t stack → IsFinder row (after_bury t p other n) stack

  -- and, while its row is live, after a sweep
  abbrev pub SweepsLeaveFinders : Type 0
  SweepsLeaveFinders = (t : Tree K) (fan p row horizon : ℕ) (stack : List StackItem) (commits : List (Write K)) → IsSound is_cover fan t → Agrees t commits → NamesLive commits row
      → p < length t.pages → IsFinder row t stack → IsFinder row (after_sweep t p horizon) stack
