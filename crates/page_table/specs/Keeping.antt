-- What a step that moves entries, but changes none, keeps.
use Rattle.std.specs.Prelude.{◌≡◌, ℕ, ◌+◌, ◌<◌, ◌≤◌, length, All, Contains}
use Rattle.row_version.specs.Entries.{Entry}
use Rattle.page_table.specs.Weights.{Same, weigh}
use Rattle.page_table.specs.Trees.{Tree, page_at, rows_under, rows_of_tree}

-- No traversal under way gains or loses a row.
pub record KeepsRows {K : Type 0} (t t' : Tree K) : Type 0 where
  pub pages : length t.pages ≤ length t'.pages
  pub counter : t.counter ≤ t'.counter
  -- for every traversal that began before the step
  pub under : (q m : ℕ) → q < length t.pages → m ≤ t.counter → Same (rows_under t' q m) (rows_under t q m)
  -- for every traversal that begins at the root, before or after
  pub whole : Same (rows_under t' 0 t'.counter) (rows_under t 0 t.counter)

-- under every page and memo are the same rows in the same order
abbrev pub KeepsRowsInOrder : {K : Type 0} → Tree K → Tree K → Type 0
KeepsRowsInOrder t t' = (q m : ℕ) → q < length t.pages → rows_under t' q m ≡ rows_under t q m

-- under every page and memo, not only those up to the counter, are the same rows
abbrev pub KeepsRowsAtEveryMemo : {K : Type 0} → Tree K → Tree K → Type 0
KeepsRowsAtEveryMemo t t' = (q m : ℕ) → q < length t.pages → Same (rows_under t' q m) (rows_under t q m)

-- below the root there is this entry once more, and nothing else has changed
abbrev pub GainsEntry : {K : Type 0} → Tree K → Entry K → Tree K → Type 0
GainsEntry {K} t entry t' = (weight : Entry K → ℕ) → weigh weight (rows_of_tree t') ≡ weigh weight (rows_of_tree t) + weight entry

-- this holds for each entry of each page
abbrev pub EachEntry : {K : Type 0} → (Entry K → Type 0) → Tree K → Type 0
EachEntry P t = (q : ℕ) → q < length t.pages → All P (page_at t q).rows

-- a page of the tree holds the entry
abbrev pub StandsIn : {K : Type 0} → Tree K → Entry K → Type 0
StandsIn t e = (q : ℕ) × (q < length t.pages) × Contains (page_at t q).rows e
