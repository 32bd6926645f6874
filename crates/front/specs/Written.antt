-- What a session writes: the writer took some of it, the rest is still gathered.
use Rattle.std.specs.Prelude.{◌≡◌, ℕ, ◌<◌, List, ◌++◌, length, Option, Result, Ok, Err}
use Rattle.std.specs.Io.KnownBytes.{Appends}
use Rattle.arrayvec.specs.ArrayVec.{ArrayVec}

-- after what is gathered there is room for a line, and for as many rows as are appended at once
abbrev pub HasRoomForLine : List ℕ → Type 0
HasRoomForLine gathered = length gathered < 4096

-- the writer took these bytes in order, all but the rest
abbrev pub WritesAllBut : Option (List ℕ) → Option (List ℕ) → List ℕ → List ℕ → Type 0
WritesAllBut held written bytes rest = (taken : List ℕ) × Appends held written taken × (bytes ≡ taken ++ rest)

-- the writer took a beginning of these bytes, and nothing else
abbrev pub WritesBeginning : Option (List ℕ) → Option (List ℕ) → List ℕ → Type 0
WritesBeginning held written bytes = (rest : List ℕ) × WritesAllBut held written bytes rest

-- the text was appended to what was gathered, and the writer took all of it but what is now gathered
abbrev pub Writes : Option (List ℕ) → List ℕ → Option (List ℕ) → List ℕ → List ℕ → Type 0
Writes held gathered written gathered' text = WritesAllBut held written (gathered ++ text) gathered'

-- the text is written so; or there is a fault, and the writer took a beginning of what was gathered and the text
abbrev pub WritesOrFails : {E : Type 0} → Result (Unit {0}) E → Option (List ℕ) → List ℕ → Option (List ℕ) → List ℕ → List ℕ → Type 0
WritesOrFails (Ok done) held gathered written gathered' text = Writes held gathered written gathered' text
WritesOrFails (Err fault) held gathered written gathered' text = WritesBeginning held written (gathered ++ text)

-- A writer took a beginning of these bytes, and nothing else. `contents` gives the bytes that a writer has.
abbrev pub TakesBeginning : {W : Type 0} → (W → Option (List ℕ)) → W → W → List ℕ → Type 0
TakesBeginning contents old new bytes = WritesBeginning (contents old) (contents new) bytes

-- The text is written, by a writer and by what is gathered for it, unless there is a fault: `WritesOrFails` for the
-- states before and after.
abbrev pub Says : {W E : Type 0} → List ℕ → Result (Unit {0}) E → (W → Option (List ℕ)) → W → W → ArrayVec ℕ → ArrayVec ℕ → Type 0
Says text returned contents old new gathered gathered' = WritesOrFails returned (contents old) gathered.items (contents new) gathered'.items text
