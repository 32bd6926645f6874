-- The number and the name of each refusal, and how they are printed.
use Rattle.std.specs.Prelude.{◌≡◌, ◌⊎◌, ℕ, List, ◌++◌, codes}
use Rattle.std.specs.Fmt.{decimal}
use Rattle.key_class.specs.declared.refusal.Refusal.{Refusal}
use Rattle.key_class.specs.declared.refusal.Refusal.TheVariants.{OutOfMemory, BadConfig, PagesFull, CommitsFull, CursorsFull, FindersFull, NotHere, NodeFull, TooFew, Uncovered, Owed, Unhung, BadSides, NoSuchRow, AlreadyDeleted, NoSuchCursor, CursorClosed, NoRoom, Idle, NoSuchFinder, QueryText, Line, FromFuture, FeedFull, NotSubscribed, Compacted, OtherStore}

-- the number of a refusal
abbrev pub number_of : Refusal → ℕ
number_of OutOfMemory = 1
number_of BadConfig = 2
number_of PagesFull = 3
number_of CommitsFull = 4
number_of CursorsFull = 5
number_of FindersFull = 6
number_of NotHere = 7
number_of NodeFull = 8
number_of TooFew = 9
number_of Uncovered = 10
number_of Owed = 11
number_of Unhung = 12
number_of BadSides = 13
number_of NoSuchRow = 14
number_of AlreadyDeleted = 15
number_of NoSuchCursor = 16
number_of CursorClosed = 17
number_of NoRoom = 18
number_of Idle = 19
number_of NoSuchFinder = 20
number_of (QueryText place) = 21
number_of (Line place) = 22
number_of FromFuture = 23
number_of FeedFull = 24
number_of NotSubscribed = 25
number_of Compacted = 30
number_of OtherStore = 31

-- the name of a refusal
abbrev pub name_of : Refusal → List ℕ
name_of OutOfMemory = codes "OutOfMemory"
name_of BadConfig = codes "BadConfig"
name_of PagesFull = codes "PagesFull"
name_of CommitsFull = codes "CommitsFull"
name_of CursorsFull = codes "CursorsFull"
name_of FindersFull = codes "FindersFull"
name_of NotHere = codes "NotHere"
name_of NodeFull = codes "NodeFull"
name_of TooFew = codes "TooFew"
name_of Uncovered = codes "Uncovered"
name_of Owed = codes "Owed"
name_of Unhung = codes "Unhung"
name_of BadSides = codes "BadSides"
name_of NoSuchRow = codes "NoSuchRow"
name_of AlreadyDeleted = codes "AlreadyDeleted"
name_of NoSuchCursor = codes "NoSuchCursor"
name_of CursorClosed = codes "CursorClosed"
name_of NoRoom = codes "NoRoom"
name_of Idle = codes "Idle"
name_of NoSuchFinder = codes "NoSuchFinder"
name_of (QueryText place) = codes "QueryText"
name_of (Line place) = codes "Line"
name_of FromFuture = codes "FromFuture"
name_of FeedFull = codes "FeedFull"
name_of NotSubscribed = codes "NotSubscribed"
name_of Compacted = codes "Compacted"
name_of OtherStore = codes "OtherStore"

-- the number and the name, with one space between
abbrev pub number_and_name : Refusal → List ℕ
number_and_name refusal = decimal (number_of refusal) ++ (codes " " ++ name_of refusal)

-- as it is printed: followed by the place, for a fault of a text
abbrev pub refusal_text : Refusal → List ℕ
refusal_text (QueryText place) = decimal 21 ++ (codes " " ++ (codes "QueryText" ++ (codes " " ++ decimal place)))
refusal_text (Line place) = decimal 22 ++ (codes " " ++ (codes "Line" ++ (codes " " ++ decimal place)))
refusal_text refusal = number_and_name refusal

-- a refusal is one of two
abbrev pub IsEither : Refusal → Refusal → Refusal → Type 0
IsEither one other why = (why ≡ one) ⊎ (why ≡ other)
