-- The program's command line in the terms of clap, and the values of its words.
use Rattle.std.specs.Prelude.{◌≡◌, ◌≢◌, ◌⊎◌, ℕ, ◌<◌, ◌^◌, List, [], ◌∷◌, map, drop, Option, Some, None, codes, if◌then◌else◌, true, pos}
use Rattle.std.specs.Borrow.{Bor}
use Rattle.std.specs.Str.{bytes_eq}
use Rattle.std.specs.Str.Parse.{IsNumeral, digits_value, without_leading_plus}
use Rattle.clap.specs.Words.{App, Row, Rule, Text, first_of, one_of, new_app, new_rule, with_rule, with_subcommand, fault_of, kind_of, IsAmong}
use Rattle.clap.specs.declared.error.Error.{Error}
use Rattle.clap.specs.declared.builder.ValueParser.{ValueParser}
use Rattle.clap.specs.declared.builder.ValueParser.TheVariants as parser
use Rattle.clap.specs.declared.error.ErrorKind.{ErrorKind}
use Rattle.clap.specs.declared.error.ErrorKind.TheVariants as kind
use Rattle.gist.specs.Spelling.{AreOptions, OptionKind, a_class, a_number, store_table, storm_table, table_of, IsCommand, SpellsNumber, SpellsOptions, SpellsPlainly, value_of}
use Rattle.gist.specs.declared.options.Class.{Class}
use Rattle.gist.specs.declared.options.Class.TheVariants as classes
use Rattle.gist.specs.declared.options.StoreOptions.{StoreOptions}
use Rattle.gist.specs.declared.options.Settings.{Settings}
use Rattle.gist.specs.declared.options.Settings.TheVariants as settings
use Rattle.storm.specs.declared.limits.StormSize.{StormSize}

-- the words of a command line, as texts
abbrev pub texts_of : List (Bor Text) → List Text
texts_of words = map (λ word. word.now) words

-- an option with one value, which this parser reads
abbrev pub option_rule : Text → ValueParser → Rule
option_rule name takes = record (new_rule name) { long = Some name; value_names = 1; parser = Some takes }

abbrev pub number_of_32_bits : ValueParser
number_of_32_bits = parser.Signed (pos 0) (pos 4294967295)

abbrev pub ClassNames : Type 0
ClassNames = Bor (List (Bor Text))

-- the parser of an option's value
abbrev pub parser_of : ClassNames → OptionKind → ValueParser
parser_of names a_class = parser.Names names
parser_of names a_number = number_of_32_bits

-- a command with the options of a table
abbrev pub command_with : ClassNames → List (Text × OptionKind) → App → App
command_with names [] command = command
command_with names (o ∷ table) command = command_with names table (with_rule command (option_rule o.0 (parser_of names o.1)))

-- a command with the options that say how rows are kept
abbrev pub store_command : ClassNames → Text → App
store_command names name = command_with names store_table (new_app name)

-- the command with the options of how large a storm is
abbrev pub storm_command : ClassNames → App
storm_command names = command_with names storm_table (new_app (codes "storm"))

-- a command with the options of a storm, none of which names a class
abbrev pub IsStormCommand : App → Type 0
IsStormCommand command = (names : ClassNames) → command ≡ storm_command names

abbrev pub AreClassNames : ClassNames → Type 0
AreClassNames names = texts_of names.now ≡ codes "interval" ∷ codes "box" ∷ codes "set" ∷ []

abbrev pub program : App
program = record (new_app (codes "gist")) { top = record (new_app (codes "gist")).top { has_version = true; subcommand_required = true; disable_help_subcommand = true } }

-- the program with the commands that keep rows
abbrev pub with_store_commands : ClassNames → App
with_store_commands names = with_subcommand (with_subcommand program (store_command names (codes "serve")).top) (store_command names (codes "replay")).top

-- `gist` requires one of the commands `serve`, `replay` and `storm`, each of which takes each of its options at most
-- once
abbrev pub gist_line : ClassNames → App
gist_line names = with_subcommand (with_store_commands names) (storm_command names).top

abbrev pub IsGistLine : App → Type 0
IsGistLine line = (names : ClassNames) × AreClassNames names × (line ≡ gist_line names)

-- the class that a text names; intervals if there is no text
abbrev pub class_named : Option Text → Class
class_named None = classes.Interval
class_named (Some text) = if bytes_eq text (codes "box") then classes.Box else (if bytes_eq text (codes "set") then classes.Set else classes.Interval)

-- the number is the one of 32 bits that clap read from a text, or the default if there is no text
abbrev pub NumberRead : Option Text → ℕ → ℕ → Type 0
NumberRead None usual number = number ≡ usual
NumberRead (Some text) usual number = IsNumeral 10 (without_leading_plus text) → digits_value 10 (without_leading_plus text) < 2 ^ 32 → number ≡ digits_value 10 (without_leading_plus text)

-- each option has the value that clap found for it, or its default
pub record OptionsRead (rows : List Row) (options : StoreOptions) : Type 0 where
  pub class : options.class ≡ class_named (first_of (codes "class") rows)
  pub fan : NumberRead (one_of (codes "fan") rows) 8 options.fan
  pub least : NumberRead (one_of (codes "least") rows) 3 options.least

-- the same for the size of a storm
pub record LimitsRead (rows : List Row) (limits : StormSize) : Type 0 where
  pub writers : NumberRead (one_of (codes "writers") rows) 4 limits.writers
  pub inserts : NumberRead (one_of (codes "inserts") rows) 250 limits.inserts
  pub deletes : NumberRead (one_of (codes "deletes") rows) 0 limits.deletes
  pub readers : NumberRead (one_of (codes "readers") rows) 2 limits.readers
  pub lookers : NumberRead (one_of (codes "lookers") rows) 0 limits.lookers
  pub subscribers : NumberRead (one_of (codes "subscribers") rows) 0 limits.subscribers
  pub room : NumberRead (one_of (codes "room") rows) 2 limits.room
  pub pumps : NumberRead (one_of (codes "pumps") rows) 2 limits.pumps
  pub sweeps : NumberRead (one_of (codes "sweeps") rows) 0 limits.sweeps
  pub seed : NumberRead (one_of (codes "seed") rows) 1 limits.seed

-- what a command asks for, by the values that clap found for its options
abbrev pub SettingsRead : Text → List Row → Settings → Type 0
SettingsRead command rows (settings.Serve options) = (command ≡ codes "serve") × OptionsRead rows options
SettingsRead command rows (settings.Replay options) = (command ≡ codes "replay") × OptionsRead rows options
SettingsRead command rows (settings.Storm limits) = (command ≡ codes "storm") × LimitsRead rows limits

-- the number that a text spells, or the default if there is no text
abbrev pub NumberGiven : Option Text → ℕ → ℕ → Type 0
NumberGiven None usual number = number ≡ usual
NumberGiven (Some text) usual number = SpellsNumber text number

-- each option has the value that the words give it, or its default
pub record OptionsGiven (given : List (Text × Text)) (options : StoreOptions) : Type 0 where
  pub class : options.class ≡ class_named (value_of (codes "class") given)
  pub fan : NumberGiven (value_of (codes "fan") given) 8 options.fan
  pub least : NumberGiven (value_of (codes "least") given) 3 options.least

-- the same for the size of a storm
pub record LimitsGiven (given : List (Text × Text)) (limits : StormSize) : Type 0 where
  pub writers : NumberGiven (value_of (codes "writers") given) 4 limits.writers
  pub inserts : NumberGiven (value_of (codes "inserts") given) 250 limits.inserts
  pub deletes : NumberGiven (value_of (codes "deletes") given) 0 limits.deletes
  pub readers : NumberGiven (value_of (codes "readers") given) 2 limits.readers
  pub lookers : NumberGiven (value_of (codes "lookers") given) 0 limits.lookers
  pub subscribers : NumberGiven (value_of (codes "subscribers") given) 0 limits.subscribers
  pub room : NumberGiven (value_of (codes "room") given) 2 limits.room
  pub pumps : NumberGiven (value_of (codes "pumps") given) 2 limits.pumps
  pub sweeps : NumberGiven (value_of (codes "sweeps") given) 0 limits.sweeps
  pub seed : NumberGiven (value_of (codes "seed") given) 1 limits.seed

-- after the program's name the words are this command and its options, each at most once, and this holds of the
-- options
abbrev pub GivesOptions : Text → List Text → (List (Text × Text) → Type 0) → Type 0
GivesOptions command words P =
    (rest : List Text) × (given : List (Text × Text)) × (drop 1 words ≡ command ∷ rest) × SpellsOptions rest given × AreOptions (table_of command) [] given × P given

-- the first word after the program's name is the command, and the words after it give its options their values
abbrev pub GivesSettings : List Text → Settings → Type 0
GivesSettings words (settings.Serve options) = GivesOptions (codes "serve") words (λ given. OptionsGiven given options)
GivesSettings words (settings.Replay options) = GivesOptions (codes "replay") words (λ given. OptionsGiven given options)
GivesSettings words (settings.Storm limits) = GivesOptions (codes "storm") words (λ given. LimitsGiven given limits)

-- after the program's name the words are a command and its options, each at most once; a value that is a word of its
-- own doesn't begin with a hyphen
pub record AreWellFormed (words : List Text) : Type 0 where
  pub name : Text
  pub command : Text
  pub rest : List Text
  pub given : List (Text × Text)
  pub words_are : words ≡ name ∷ command ∷ rest
  pub is_command : IsCommand command
  pub spelled : SpellsPlainly rest given
  pub are_options : AreOptions (table_of command) [] given

-- the words are refused, or ask for help or the version, with an error of this kind
abbrev pub Refuses : List Text → ErrorKind → Type 0
Refuses words kind = (line : App) × IsGistLine line × IsAmong kind (fault_of line words)

-- the kind is that of words that ask for the help or the version
abbrev pub IsForText : ErrorKind → Type 0
IsForText why = (why ≡ kind.DisplayHelp) ⊎ (why ≡ kind.DisplayVersion)

-- the words of a command line ask for the help or the version
abbrev pub WantText : List Text → Type 0
WantText words = (why : ErrorKind) × IsForText why × Refuses words why

-- the words are refused, and don't ask for help or the version
abbrev pub AreRefused : List Text → Type 0
AreRefused words = (why : ErrorKind) × Refuses words why × (¬ IsForText why)

-- the words are refused with the error, unless memory ran out
abbrev pub RefusesUnlessMemory : List Text → Error → Type 0
RefusesUnlessMemory words e = kind_of e ≢ kind.OutOfMemory → Refuses words (kind_of e)

-- memory ran out
abbrev pub LacksMemory : Error → Type 0
LacksMemory e = kind_of e ≡ kind.OutOfMemory

-- the words ask for the help or the version
abbrev pub AsksForText : Error → Type 0
AsksForText e = IsForText (kind_of e)

-- the error is about the words: they don't ask for help or the version, and memory didn't run out
abbrev pub IsOfWords : Error → Type 0
IsOfWords e = (¬ AsksForText e) × (kind_of e ≢ kind.OutOfMemory)

-- the words give no settings, and don't ask for help or the version
abbrev pub NameNothing : List Text → Type 0
NameNothing words = ((settings : Settings) → ¬ GivesSettings words settings) × (¬ WantText words)
