-- Relations by the numbers that C uses, and the queries that they make.
use Rattle.std.specs.Prelude.{ℕ, ◌==◌, Option, Some, None, Result, Ok, Err, if◌then◌else◌}
use Rattle.key_class.specs.declared.refusal.Refusal.TheVariants.{BadConfig}
use Rattle.key_class.specs.declared.sides.Rel.{Rel}
use Rattle.key_class.specs.declared.sides.Rel.TheVariants.{Overlaps, Within, Holds, Same}
use Rattle.query_text.specs.ClassTexts.{Texts}
use Rattle.libgist.specs.declared.words.KeyWords.{KeyWords}
use Rattle.libgist.specs.declared.denied.Denied.{Denied}
use Rattle.libgist.specs.declared.denied.Denied.TheVariants.{By, BadEnds}

-- the relation with a number
abbrev pub relation_of : ℕ → Option Rel
relation_of number =
    if number == 1 then Some Overlaps
    else (if number == 2 then Some Within
    else (if number == 3 then Some Holds
    else (if number == 4 then Some Same
    else None)))

module _ {K A : Type 0} (texts : Texts K A) (key_of : KeyWords → Option K) where
  -- the atom of a relation and a key, if both exist
  abbrev pub atom_with : Option Rel → Option K → Result A Denied
  atom_with None key = Err (By BadConfig)
  atom_with (Some rel) None = Err BadEnds
  atom_with (Some rel) (Some key) = Ok (texts.atom_of rel key)

  -- the atom for the keys that have a relation, given by its number, to a key
  abbrev pub atom_for : ℕ → KeyWords → Result A Denied
  atom_for number words = atom_with (relation_of number) (key_of words)
