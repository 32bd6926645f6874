-- When the entries of a tree agree with a list of commits.
use Rattle.std.specs.Prelude.{◌≡◌, ℕ, ◌≤◌, false, List, Option, Some, None}
use Rattle.change_list.specs.declared.write.Write.{Write}
use Rattle.change_list.specs.declared.write.Status.TheVariants.{Live}
use Rattle.change_list.specs.Changes.{EndsRow, is_ended, row_at, status_of}
use Rattle.row_version.specs.Entries.{Entry}
use Rattle.page_table.specs.Keeping.{EachEntry}
use Rattle.page_table.specs.Trees.{Tree, rows_of_tree}
use Rattle.page_table.specs.Weights.{weigh, one_if_equal}

module _ {K : Type 0} where
  -- no commit ends a live entry's row; a dead entry's row is ended by the commit that the entry names
  abbrev pub IsDeath : List (Write K) → ℕ → Option ℕ → Type 0
  IsDeath commits row None = is_ended commits row ≡ false
  IsDeath commits row (Some n) = EndsRow commits n row

  -- the entry has its row's key and tag, and its death is that of the row
  pub record IsEntryOf (commits : List (Write K)) (e : Entry K) : Type 0 where
    pub made : row_at commits e.row ≡ Some (record { row = e.row; key = e.key; tag = e.tag })
    pub death : IsDeath commits e.row e.died

  -- 1 if the entry is that of the row, for counting
  abbrev pub is_row : ℕ → Entry K → ℕ
  is_row row e = one_if_equal e.row row

  -- the tree holds what the commits say: below the root each live row stands once and each dead row at most once
  pub record Agrees (t : Tree K) (commits : List (Write K)) : Type 0 where
    pub entries : EachEntry (λ e. IsEntryOf commits e) t
    pub live_once : (n : ℕ) → status_of commits n ≡ Live → weigh (is_row n) (rows_of_tree t) ≡ 1
    pub at_most_once : (n : ℕ) → weigh (is_row n) (rows_of_tree t) ≤ 1
