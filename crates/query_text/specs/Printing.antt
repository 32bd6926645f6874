-- How a query is written.
use Rattle.std.specs.Prelude.{ℕ, Bool, true, false, not, List, [], ◌∷◌, ◌++◌, length, ◌≤◌, Option, Result, OnOk, codes}
use Rattle.std.specs.Io.KnownBytes.{Appends}
use Rattle.key_class.specs.declared.pred.Pred.{Pred}
use Rattle.key_class.specs.Queries.{Query, query_of, depth_of, atom, both, either, never}
use Rattle.query_text.specs.Tokens.{Placed, is_letter, Cuts}
use Rattle.query_text.specs.ClassTexts.{Texts}
use Rattle.key_class.specs.Limits.{most_bytes, most_depth}
use Rattle.query_text.specs.Grammar.{rel_word, whole, Spells, SpellsText}

abbrev pub is_or : {A : Type 0} → Query A → Bool
is_or (either l r) = true
is_or _ = false

abbrev pub is_and_or_or : {A : Type 0} → Query A → Bool
is_and_or_or (either l r) = true
is_and_or_or (both l r) = true
is_and_or_or _ = false

abbrev pub bracketed : Bool → List ℕ → List ℕ
bracketed true text = codes "(" ++ (text ++ codes ")")
bracketed false text = text

-- a relation's word, directly followed by the key
abbrev pub atom_text : {K A : Type 0} → Texts K A → A → List ℕ
atom_text texts a = rel_word (texts.rel_of a) ++ texts.key_text (texts.operand_of a)

-- the text of a query: a part is in brackets only where the grammar needs them
abbrev pub text_of : {K A : Type 0} → Texts K A → Query A → List ℕ
text_of texts (atom a) = atom_text texts a
text_of texts (either l r) = text_of texts l ++ (codes " or " ++ bracketed (is_or r) (text_of texts r))
text_of texts (both l r) = bracketed (is_or l) (text_of texts l) ++ (codes " and " ++ bracketed (is_and_or_or r) (text_of texts r))
text_of texts (never q) = codes "not " ++ bracketed (is_and_or_or q) (text_of texts q)

-- the first byte is no letter, so the text can directly follow a word
abbrev pub begins_apart : List ℕ → Bool
begins_apart [] = false
begins_apart (b ∷ bs) = not (is_letter b)

-- a property of each atom of a query
abbrev pub EachAtom : {A : Type 0} → (A → Type 0) → Query A → Type 0
EachAtom P (atom a) = P a
EachAtom P (both l r) = EachAtom P l × EachAtom P r
EachAtom P (either l r) = EachAtom P l × EachAtom P r
EachAtom P (never q) = EachAtom P q

-- the text is cut into tokens that spell the query
abbrev pub IsSpelling : {K A : Type 0} → Texts K A → List ℕ → Query A → Type 0
IsSpelling texts text q = (ts : List Placed) × Cuts false 0 text ts × Spells (texts.key_at (length text)) texts.atom_of whole ts q []

-- the text is a spelling of the query, unless the text is too long or the query too deep to be parsed
abbrev pub ReadsAgain : {K A : Type 0} → Texts K A → List ℕ → Query A → Type 0
ReadsAgain texts text q = length text ≤ most_bytes → depth_of q ≤ most_depth → SpellsText texts text q

-- If all went well, the atom's text was appended to what the writer had. `contents` gives the bytes that a writer
-- has.
abbrev pub PrintsAtom : {K A W T E : Type 0} → Texts K A → A → (W → Option (List ℕ)) → W → W → Result T E → Type 0
PrintsAtom texts a contents old new returned = OnOk returned (Appends (contents old) (contents new) (atom_text texts a))

-- the same for a query, in brackets or not
abbrev pub Prints : {K A W T E : Type 0} → Texts K A → Bool → Pred A → (W → Option (List ℕ)) → W → W → Result T E → Type 0
Prints texts in_brackets query contents old new returned =
    OnOk returned (Appends (contents old) (contents new) (bracketed in_brackets (text_of texts (query_of query))))
