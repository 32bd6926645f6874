-- How the words after a command's name spell options.
use Rattle.std.specs.Prelude.{◌≡◌, ◌⊎◌, ℕ, ◌<◌, ◌^◌, ◌++◌, ⊤, false, pos, List, [], ◌∷◌, Option, Some, None, codes, if◌then◌else◌, Bool, ◌==◌}
use Rattle.std.specs.List.{list_any}
use Rattle.std.specs.Str.Parse.{IsNumeral, signed_digits_value, without_leading_sign}
use Rattle.std.specs.Str.{bytes_eq}
use Rattle.clap.specs.Words.{Text}
use Rattle.clap.specs.Lexer.{long_of}

-- The words are options, each with one value, which is the next word or follows `=`. A last word `--` has no effect.
pub data SpellsOptions : List Text → List (Text × Text) → Type 0 where
  nothing : SpellsOptions [] []
  marked : SpellsOptions (codes "--" ∷ []) []
  joined : {word name value : Text} {words : List Text} {given : List (Text × Text)} → long_of word ≡ Some (name, Some value) → SpellsOptions words given → SpellsOptions (word ∷ words) ((name, value) ∷ given)
  apart : {word name value : Text} {words : List Text} {given : List (Text × Text)} → long_of word ≡ Some (name, None) → SpellsOptions words given → SpellsOptions (word ∷ value ∷ words) ((name, value) ∷ given)

-- the value that the options give a name
abbrev pub value_of : Text → List (Text × Text) → Option Text
value_of name [] = None
value_of name (option ∷ given) = if bytes_eq option.0 name then Some option.1 else value_of name given

abbrev pub IsCommand : Text → Type 0
IsCommand word = (word ≡ codes "serve") ⊎ (word ≡ codes "replay") ⊎ (word ≡ codes "storm")

abbrev pub IsClassName : Text → Type 0
IsClassName text = (text ≡ codes "interval") ⊎ (text ≡ codes "box") ⊎ (text ≡ codes "set")

-- decimal digits, perhaps after a sign, spell a number of 32 bits
pub record SpellsNumber (text : Text) (number : ℕ) : Type 0 where
  pub digits : IsNumeral 10 (without_leading_sign text)
  pub value : signed_digits_value 10 text ≡ pos number
  pub fits : number < 2 ^ 32

abbrev pub IsNumber : Text → Type 0
IsNumber text = (number : ℕ) × SpellsNumber text number

-- the kind of value that an option takes
pub data OptionKind : Type 0 where
  a_class a_number : OptionKind

abbrev pub IsValueOf : OptionKind → Text → Type 0
IsValueOf a_class text = IsClassName text
IsValueOf a_number text = IsNumber text

-- the options of a store, and the kinds of their values
abbrev pub store_table : List (Text × OptionKind)
store_table = (codes "class", a_class) ∷ (codes "fan", a_number) ∷ (codes "least", a_number) ∷ []

-- the options of a storm, and the kinds of their values
abbrev pub storm_table : List (Text × OptionKind)
storm_table =
    (codes "writers", a_number) ∷ (codes "inserts", a_number) ∷ (codes "deletes", a_number) ∷ (codes "readers", a_number)
    ∷ (codes "lookers", a_number) ∷ (codes "subscribers", a_number) ∷ (codes "room", a_number) ∷ (codes "pumps", a_number) ∷ (codes "sweeps", a_number) ∷ (codes "seed", a_number) ∷ []

-- the options of a command
abbrev pub table_of : Text → List (Text × OptionKind)
table_of command = if bytes_eq command (codes "storm") then storm_table else store_table

-- the kind of value of the option with a name, if a table has that option
abbrev pub kind_named : List (Text × OptionKind) → Text → Option OptionKind
kind_named [] name = None
kind_named (o ∷ table) name = if bytes_eq o.0 name then Some o.1 else kind_named table name

-- an option of the table, with a value of its kind
abbrev pub IsOption : List (Text × OptionKind) → Text × Text → Type 0
IsOption table o = (kind : OptionKind) × (kind_named table o.0 ≡ Some kind) × IsValueOf kind o.1

-- each is such an option, and no name comes twice
abbrev pub AreOptions : List (Text × OptionKind) → List Text → List (Text × Text) → Type 0
AreOptions table seen [] = ⊤
AreOptions table seen (o ∷ given) = IsOption table o × (list_any (λ name. bytes_eq name o.0) seen ≡ false) × AreOptions table (seen ++ o.0 ∷ []) given

abbrev pub is_hyphened : Text → Bool
is_hyphened [] = false
is_hyphened (x ∷ xs) = x == 45

-- the same, where a value that is a word of its own doesn't begin with a hyphen (45)
pub data SpellsPlainly : List Text → List (Text × Text) → Type 0 where
  no_more : SpellsPlainly [] []
  behind_equals : {word name value : Text} {words : List Text} {given : List (Text × Text)} → long_of word ≡ Some (name, Some value) → SpellsPlainly words given → SpellsPlainly (word ∷ words) ((name, value) ∷ given)
  as_next_word : {word name value : Text} {words : List Text} {given : List (Text × Text)} → long_of word ≡ Some (name, None) → is_hyphened value ≡ false → SpellsPlainly words given → SpellsPlainly (word ∷ value ∷ words) ((name, value) ∷ given)
