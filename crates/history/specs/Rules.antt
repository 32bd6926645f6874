-- The rule of the word that holds a history's length, and of the steps that change it.
use Rattle.std.specs.Prelude.{ℕ, ◌≡◌, ◌==◌, true, List, [], ◌∷◌, ◌++◌, length, MatchBool}
use Rattle.logbook.specs.Pages.{Cell, Step, View, Book, Named}

-- the first word holds the length of the history; a book opens with two words, of which the second stays 0
pub record IsKept {K : Type 0} (cells : List Cell) (log : List K) : Type 0 where
  pub words : cells ≡ (length log, true) ∷ (0, true) ∷ []

-- the first word of a book
abbrev pub word_of : Book → Named
word_of b = record { tracked = true; key = 0; book = b }

-- the value was appended to what was seen; or the history turned out longer, and more of it is now seen
abbrev pub Adds : {K : Type 0} → Step K → View K ℕ → ℕ → View K ℕ → Type 0
Adds s v found w = MatchBool (found == s.old) (w.0 ≡ v.0 ++ s.ask ∷ []) (length w.0 ≡ found)
