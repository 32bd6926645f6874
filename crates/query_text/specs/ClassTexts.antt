-- The texts of a class of keys.
use Rattle.std.specs.Prelude.{ℕ, List}
use Rattle.key_class.specs.declared.sides.Rel.{Rel}
use Rattle.query_text.specs.Tokens.{Placed}
use Rattle.query_text.specs.Keys.{Reading, ReadsBack}

-- how a class's keys are written and read, and how atoms are made of them
pub record Texts (K A : Type 0) : Type 0 where
  -- the key at the front of the tokens of a text of so many bytes
  pub key_at : ℕ → List Placed → Reading K
  -- the text of a key
  pub key_text : K → List ℕ
  -- the atom for a relation to a key
  pub atom_of : Rel → K → A
  -- the relation that an atom was made of
  pub rel_of : A → Rel
  pub operand_of : A → K

-- the text of an atom's key is read as that key
abbrev pub AtomReadsBack : {K A : Type 0} → Texts K A → A → Type 0
AtomReadsBack texts a = ReadsBack texts.key_at (texts.key_text (texts.operand_of a)) (texts.operand_of a)
