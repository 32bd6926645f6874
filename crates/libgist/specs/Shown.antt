-- Rows, items and commits, in the layout that C reads.
use Rattle.std.specs.Prelude.{ℕ, List, Option, Some, None}
use Rattle.change_list.specs.declared.item.Row.{Row}
use Rattle.change_list.specs.declared.item.Item.{Item}
use Rattle.change_list.specs.declared.item.Item.TheVariants as item
use Rattle.change_list.specs.declared.write.Write.{Write}
use Rattle.change_list.specs.declared.write.Write.TheVariants.{Insert, Delete, Move}
use Rattle.change_list.specs.Changes.{commit_at, row_at}
use Rattle.libgist.specs.declared.words.KeyWords.{KeyWords}
use Rattle.libgist.specs.declared.words.ShownRow.{ShownRow}
use Rattle.libgist.specs.declared.words.ShownItem.{ShownItem}

abbrev pub no_words : KeyWords
no_words = record { first = 0; second = 0 }

module _ {K : Type 0} (words_of : K → KeyWords) where
  -- a row
  abbrev pub shown_row : Row K → ShownRow
  shown_row row = record { row = row.row; tag = row.tag; key = words_of row.key }

  -- the tag and the words of a row, or zeros if there is no row
  abbrev pub tag_in : Option (Row K) → ℕ
  tag_in (Some row) = row.tag
  tag_in None = 0

  abbrev pub words_in : Option (Row K) → KeyWords
  words_in (Some row) = words_of row.key
  words_in None = no_words

  -- an item of a kind, with the numbers of a commit and of the row that it ended, and with the key and the tag of a
  -- row
  abbrev pub shown : ℕ → ℕ → ℕ → Option (Row K) → ShownItem
  shown kind number ended row = record { kind = kind; number = number; ended = ended; tag = tag_in row; key = words_in row }

  -- the item that says that nothing is left
  abbrev pub shown_nothing : ShownItem
  shown_nothing = shown 0 0 0 None

  -- the number of the row that a `Deleted` item names; 0 for any other item
  abbrev pub ended_in : Item K → ℕ
  ended_in (item.Deleted number ended) = ended
  ended_in other = 0

  -- an item; the row is the one that a `Deleted` item names
  abbrev pub shown_with : Option (Row K) → Item K → ShownItem
  shown_with former (item.Row row) = shown 1 row.row 0 (Some row)
  shown_with former (item.Inserted row) = shown 2 row.row 0 (Some row)
  shown_with former (item.Deleted number ended) = shown 3 number ended former
  shown_with former (item.Moved row ended) = shown 4 row.row ended (Some row)
  shown_with former (item.Mark number) = shown 5 number 0 None

  -- an item of these commits; a `Deleted` item gets the key and the tag of the row that ended
  abbrev pub shown_item : List (Write K) → Item K → ShownItem
  shown_item commits given = shown_with (row_at commits (ended_in given)) given

  -- a commit, with the row that it made and the row that it ended
  abbrev pub shown_write : ℕ → Option (Row K) → Option (Row K) → Option (Write K) → ShownItem
  shown_write number made former None = shown_nothing
  shown_write number made former (Some (Insert key tag)) = shown 2 number 0 made
  shown_write number made former (Some (Delete ended)) = shown 3 number ended former
  shown_write number made former (Some (Move ended key)) = shown 4 number ended made

  -- the number of the row that a delete ended; 0 for any other commit
  abbrev pub ended_by : Option (Write K) → ℕ
  ended_by (Some (Delete ended)) = ended
  ended_by other = 0

  -- the commit with a number, or nothing if there is none; that of a move has the tag of its row
  abbrev pub shown_commit : List (Write K) → ℕ → ShownItem
  shown_commit commits number = shown_write number (row_at commits number) (row_at commits (ended_by (commit_at commits number))) (commit_at commits number)
