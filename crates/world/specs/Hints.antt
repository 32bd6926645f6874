-- Hints: for each row number a page.
use Rattle.std.specs.Prelude.{ℕ, cond, nat_lt, List, [], ◌∷◌, length, slice_set}
use Rattle.row_version.specs.Entries.{Entry}
use Rattle.world.specs.declared.commit.LeafChange.{LeafChange}
use Rattle.world.specs.declared.commit.LeafChange.TheVariants as change

-- a page's number, as a hint stores it; numbers that don't fit stand for the root
abbrev pub hint_to : ℕ → ℕ
hint_to page = cond (nat_lt page 65536) page 0

-- the hint of the row, if it has one, is the page
abbrev pub with_hint : ℕ → ℕ → List ℕ → List ℕ
with_hint page row hints = cond (nat_lt row (length hints)) (slice_set hints row page) hints

module _ {K : Type 0} where
  -- the hints of all these rows are the page
  abbrev pub with_hints : ℕ → List (Entry K) → List ℕ → List ℕ
  with_hints page [] hints = hints
  with_hints page (entry ∷ entries) hints = with_hints page entries (with_hint page entry.row hints)

  -- the page that gets the commit's row; the root if there is no such row
  abbrev pub page_of_change : LeafChange K → ℕ
  page_of_change (change.Place leaf key tag) = leaf
  page_of_change (change.Bury leaf row) = 0
  page_of_change (change.Move leaf row other key tag) = other
