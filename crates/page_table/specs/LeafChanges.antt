-- The tree after an insert, a delete or a sweep, each on one leaf, and after the move of a row.
use Rattle.std.specs.Prelude.{◌≡◌, ℕ, ◌+◌, [], ◌∷◌, ◌++◌, length, map, filter}
use Rattle.row_version.specs.Entries.{Entry, is_needed, marked}
use Rattle.node.specs.Pages.{Page}
use Rattle.node.specs.Changes.{with_rows}
use Rattle.page_table.specs.Trees.{Tree, after_rows, page_at}

module _ {K : Type 0} where
  -- with one more entry
  abbrev pub after_place : Tree K → ℕ → Entry K → Tree K
  after_place t p entry = after_rows t p ((page_at t p).rows ++ entry ∷ [])

  -- commit n deletes the row
  abbrev pub after_bury : Tree K → ℕ → ℕ → ℕ → Tree K
  after_bury t p row n = after_rows t p (map (marked row n) (page_at t p).rows)

  -- a leaf with a row dead since commit n
  abbrev pub with_dead : Page K → ℕ → ℕ → Page K
  with_dead page row n = with_rows page (map (marked row n) page.rows)

  -- commit n moves the row away from the leaf `from`: there it is dead, and the leaf `to` has the new entry at its
  -- end
  abbrev pub after_move : Tree K → ℕ → ℕ → ℕ → ℕ → Entry K → Tree K
  after_move t from row n to entry = after_place (after_bury t from row n) to entry

  -- without the dead rows that no scan opened at the horizon or later needs
  abbrev pub after_sweep : Tree K → ℕ → ℕ → Tree K
  after_sweep t p horizon = after_rows t p (filter (is_needed horizon) (page_at t p).rows)

  -- this many rows of the leaf are dead and needed by no scan opened at the horizon or later
  abbrev pub CountsUnneeded : ℕ → Tree K → ℕ → ℕ → Type 0
  CountsUnneeded horizon t p count = count + length (filter (is_needed horizon) (page_at t p).rows) ≡ length (page_at t p).rows
