-- How answers are written.
use Rattle.std.specs.Prelude.{ℕ, List, [], ◌++◌, length, codes}
use Rattle.std.specs.List.{flat_map}
use Rattle.std.specs.Fmt.{decimal}
use Rattle.key_class.specs.Refusals as refusals
use Rattle.key_class.specs.declared.refusal.Refusal.{Refusal}
use Rattle.change_list.specs.declared.item.Row.{Row}
use Rattle.change_list.specs.declared.item.Item.{Item}
use Rattle.change_list.specs.declared.item.Item.TheVariants as item
use Rattle.front.specs.declared.answer.Answer.{Answer}
use Rattle.front.specs.declared.answer.Answer.TheVariants as answer

-- the rows that an answer lists
abbrev pub listed : {K : Type 0} → Answer K → List (Row K)
listed (answer.Found rows) = rows.items
listed _ = []

-- a line of some words and a number
abbrev pub numbered_line : List ℕ → ℕ → List ℕ
numbered_line words number = words ++ (decimal number ++ codes "\n")

-- a line of some words and two numbers
abbrev pub pair_line : List ℕ → ℕ → ℕ → List ℕ
pair_line words first second = words ++ (decimal first ++ (codes " " ++ (decimal second ++ codes "\n")))

abbrev pub refusal_line : Refusal → List ℕ
refusal_line why = codes "refused " ++ (refusals.refusal_text why ++ codes "\n")

module _ {K : Type 0} (key_text : K → List ℕ) where
  -- a row's key and its tag
  abbrev pub content_text : Row K → List ℕ
  content_text r = key_text r.key ++ (codes " " ++ decimal r.tag)

  -- a row's number, its key and its tag
  abbrev pub row_text : Row K → List ℕ
  row_text r = decimal r.row ++ (codes " " ++ content_text r)

  abbrev pub row_line : Row K → List ℕ
  row_line r = codes "row " ++ (row_text r ++ codes "\n")

  -- the row that a move made, and the number of the row that it ended
  abbrev pub moved_line : Row K → ℕ → List ℕ
  moved_line r ended =
      codes "moved " ++ (decimal r.row ++ (codes " " ++ (decimal ended ++ (codes " " ++ (content_text r ++ codes "\n")))))

  abbrev pub item_line : Item K → List ℕ
  item_line (item.Row r) = row_line r
  item_line (item.Inserted r) = codes "inserted " ++ (row_text r ++ codes "\n")
  item_line (item.Deleted n row) = codes "deleted " ++ (decimal n ++ (codes " " ++ (decimal row ++ codes "\n")))
  item_line (item.Moved r ended) = moved_line r ended
  item_line (item.Mark n) = codes "mark " ++ (decimal n ++ codes "\n")

  -- the first line of an answer
  abbrev pub first_line : Answer K → List ℕ
  first_line (answer.Committed n) = codes "committed " ++ (decimal n ++ codes "\n")
  first_line (answer.Opened c) = codes "opened " ++ (decimal c ++ codes "\n")
  first_line (answer.Given given) = item_line given
  first_line answer.Empty = codes "empty\n"
  first_line answer.Asked = codes "asked\n"
  first_line (answer.Found rows) = codes "found " ++ (decimal (length rows.items) ++ codes "\n")
  first_line (answer.Swept n) = codes "swept " ++ (decimal n ++ codes "\n")
  first_line answer.Closed = codes "closed\n"
  first_line (answer.Refused why) = refusal_line why

  -- the lines of an answer: the first, and then one for each row that was found
  abbrev pub reply_text : Answer K → List ℕ
  reply_text reply = first_line reply ++ flat_map row_line (listed reply)
