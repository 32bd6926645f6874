-- The text of a set: its elements between braces.
use Rattle.std.specs.Prelude.{ℕ, zero, suc, pos, unsigned_abs, ◌^◌, ◌==◌, bit_or, Bool, true, false, List, [], ◌∷◌, ◌++◌, Option, Ok, Err, if◌then◌else◌, ◌↔◌, ◌<◌, ◌≤◌, Contains, codes}
use Rattle.std.specs.Int.{bit_at}
use Rattle.std.specs.List.{flat_map}
use Rattle.std.specs.Option.{option_map}
use Rattle.std.specs.Fmt.{decimal}
use Rattle.key_class.specs.declared.sides.Rel.{Rel}
use Rattle.set_class.specs.Sets.{IsElementOf}
use Rattle.set_class.specs.declared.elements.Elements.{Elements}
use Rattle.set_class.specs.declared.atom.Atom.{Atom}
use Rattle.query_text.specs.Tokens.{Token, Placed, number_within}
use Rattle.query_text.specs.Keys.{Reading, ◌>>=◌, or_fault_at, expected_at, is_open_brace, is_close_brace}
use Rattle.query_text.specs.ClassTexts.{Texts}

-- a number from 0 to 127
abbrev pub element_of : Token → Option ℕ
element_of t = option_map unsigned_abs (number_within (pos 0) (pos 127) t)

-- elements, in any order and with repetitions, and the closing brace
abbrev pub elements_at : ℕ → List Placed → Reading (List ℕ)
elements_at len [] = Err len
elements_at len (t ∷ ts) =
    if is_close_brace t.token then Ok ([], ts)
    else (or_fault_at t.place ts (element_of t.token) >>= λ e. elements_at len ts >>= λ es. Ok (e.0 ∷ es.0, es.1))

-- the mask with the bits of these elements
abbrev pub mask_of : List ℕ → ℕ
mask_of [] = 0
mask_of (e ∷ es) = bit_or (2 ^ e) (mask_of es)

-- the set of a mask's bits and of the elements that reading gives
abbrev pub with_elements : ℕ → Reading (List ℕ) → Reading Elements
with_elements mask (Ok r) = Ok (record { mask = bit_or mask (mask_of r.0) }, r.1)
with_elements mask (Err place) = Err place

-- the set of the elements before a closing brace
abbrev pub set_behind_brace : ℕ → List Placed → Reading Elements
set_behind_brace len ts = with_elements 0 (elements_at len ts)

unfoldable pub set_at : ℕ → List Placed → Reading Elements
set_at len ts = do
  brace ← expected_at is_open_brace len ts
  with_elements 0 (elements_at len brace.1)

-- the elements of a mask below a number, rising and once each
unfoldable pub elements_below : ℕ → ℕ → List ℕ
elements_below zero mask = []
elements_below (suc n) mask = elements_below n mask ++ (if bit_at mask n == 1 then n ∷ [] else [])

-- numbers with one space between them
abbrev pub spaced : List ℕ → List ℕ
spaced [] = []
spaced (e ∷ es) = decimal e ++ flat_map (λ f. codes " " ++ decimal f) es

-- an element in the text of a set: all but the first have a space before them
abbrev pub element_text : ℕ → Bool → List ℕ
element_text e is_first = if is_first then decimal e else codes " " ++ decimal e

-- no element of the mask is greater
abbrev pub IsGreatest : ℕ → ℕ → Type 0
IsGreatest mask e = (e ≤ 127) × (2 ^ e ≤ mask) × (mask < 2 ^ suc e)

-- the elements of a set, rising and once each
abbrev pub elements_of : Elements → List ℕ
elements_of set = elements_below 128 set.mask

-- the set of these elements
abbrev pub set_named : List ℕ → Elements
set_named named = record { mask = mask_of named }

-- the number is an element of the set, and less than the other
abbrev pub IsElementUnder : ℕ → Elements → ℕ → Type 0
IsElementUnder most set e = (e < most) × IsElementOf set e

-- the list has exactly the numbers with the property
abbrev pub HasJust : List ℕ → (ℕ → Type 0) → Type 0
HasJust list P = (e : ℕ) → Contains list e ↔ P e

abbrev pub set_text : Elements → List ℕ
set_text k = codes "{" ++ (spaced (elements_of k) ++ codes "}")

abbrev pub atom_of : Rel → Elements → Atom
atom_of rel operand = record { rel = rel; operand = operand }

-- the texts of the class
abbrev pub set_texts : Texts Elements Atom
set_texts = record {
  key_at = set_at;
  key_text = set_text;
  atom_of = atom_of;
  rel_of = λ a. a.rel;
  operand_of = λ a. a.operand;
}

abbrev pub is_empty : List ℕ → Bool
is_empty [] = true
is_empty (e ∷ es) = false
