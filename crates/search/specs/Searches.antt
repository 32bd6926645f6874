-- What a search of a tree that stands still gives.
use Rattle.std.specs.Prelude.{ℕ, ◌≤◌, Bool, List}
use Rattle.change_list.specs.declared.item.Row.{Row}
use Rattle.key_class.specs.Limits.{most_fan}
use Rattle.page_table.specs.Soundness.{IsSound}
use Rattle.page_table.specs.Trees.{Tree, rows_under}
use Rattle.search.specs.Live.{live_rows}

-- a sound tree whose pages have no more entries than they may
pub record IsSearchable {K : Type 0} (is_cover : K → K → Bool) (t : Tree K) : Type 0 where
  pub fan : ℕ
  pub few : fan ≤ most_fan
  pub sound : IsSound is_cover fan t

-- the live rows under a page whose keys are accepted
abbrev pub rows_below : {K : Type 0} → (K → Bool) → Tree K → ℕ → List (Row K)
rows_below accepts t p = live_rows accepts (rows_under t p t.counter)
