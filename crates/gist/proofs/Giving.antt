-- What clap found for the options of the words is what the words give.
use Rattle.std.proofs.Common.{◌≡◌, ◌∙◌, ℕ, Bool, true, false, cond, refl, sym, ap, subst, List, [], ◌∷◌, map, Option, Some, codes}
use Rattle.std.specs.Option.{option_and_then, option_map, unwrap_or}
use Rattle.std.specs.List.{find}
use Rattle.std.specs.Prelude.{slice_get}
use Rattle.std.specs.Str.{bytes_eq}
use Rattle.std.proofs.lemmas.Slice.Eq.{bytes_eq-Decides}
use Rattle.clap.specs.Words.{App, Row, Text, fault_of, first_of, is_simple, is_simple_and_free, one_of, subcommand_of, without_minus}
use Rattle.clap.specs.Walk.{arg_by_id, row_text}
use Rattle.gist.specs.CommandLine.{AreClassNames, ClassNames, GivesOptions, GivesSettings, IsGistLine, LimitsGiven, LimitsRead, NumberGiven, NumberRead, OptionsGiven, OptionsRead, SettingsRead, class_named, number_of_32_bits}
use Rattle.gist.specs.Spelling.{IsCommand, OptionKind, store_table, storm_table, table_of, value_of}
use Rattle.gist.specs.declared.options.StoreOptions.{StoreOptions}
use Rattle.gist.specs.declared.options.Settings.{Settings}
use Rattle.gist.specs.declared.options.Settings.TheVariants as settings
use Rattle.storm.specs.declared.limits.StormSize.{StormSize}
use Rattle.gist.proofs.Naming.{Spelled, spelled}
use Rattle.gist.proofs.Reading.{Taken, option_row, rules, value_rule}
use Rattle.gist.proofs.Serving.{is_free, is_plain}
use Rattle.gist.proofs.Values.{are_options, number_given}

module _ (names : ClassNames) (table : List (Text × OptionKind)) where
  abbrev rows_given : List (Text × Text) → List Row
  rows_given given = map (option_row names table) given

  first_is : (name : Text) (given : List (Text × Text)) → first_of name (rows_given given) ≡ value_of name given
  first_is name [] = refl
  first_is name (o ∷ given) = go (bytes_eq o.0 name) (first_is name given)
    where
      go : (b : Bool) → first_of name (rows_given given) ≡ value_of name given
          → option_and_then (λ (r : Row). slice_get r.values 0) (cond b (Some (option_row names table o)) (find (λ (r : Row). bytes_eq r.id name) (rows_given given))) ≡ cond b (Some o.1) (value_of name given)
      go true rest = refl
      go false rest = rest

  -- the number of an option is read without a minus
  number_is : (name : Text) (given : List (Text × Text)) → ((value : Text) → row_text (option_row names table (name, value)) ≡ Some (without_minus value))
      → one_of name (rows_given given) ≡ option_map without_minus (value_of name given)
  number_is name [] reads = refl
  number_is name (o ∷ given) reads = go (bytes_eq o.0 name) refl (number_is name given reads)
    where
      go : (b : Bool) → bytes_eq o.0 name ≡ b → one_of name (rows_given given) ≡ option_map without_minus (value_of name given)
          → option_and_then row_text (cond b (Some (option_row names table o)) (find (λ (r : Row). bytes_eq r.id name) (rows_given given))) ≡ option_map without_minus (cond b (Some o.1) (value_of name given))
      go true is rest = ap (λ (own : Text). row_text (option_row names table (own, o.1))) ((bytes_eq-Decides o.0 name).0 is) ∙ reads o.1
      go false is rest = rest

  -- the number of an option that takes one is the number given
  number_from : (name : Text) (given : List (Text × Text)) (usual number : ℕ) → ((value : Text) → row_text (option_row names table (name, value)) ≡ Some (without_minus value))
      → arg_by_id (rules names table) name ≡ Some (value_rule name number_of_32_bits) → Taken names table [] given
      → NumberRead (one_of name (rows_given given)) usual number → NumberGiven (value_of name given) usual number
  number_from name given usual number reads by_id taken read =
      number_given names table name given usual number by_id taken (subst (λ (o : Option Text). NumberRead o usual number) (number_is name given reads) read)

options_given : (names : ClassNames) (given : List (Text × Text)) (options : StoreOptions) → Taken names store_table [] given → OptionsRead (rows_given names store_table given) options → OptionsGiven given options
options_given names given options taken read = record {
  class = read.class ∙ ap class_named (first_is names store_table (codes "class") given);
  fan = number_from names store_table (codes "fan") given 8 options.fan (λ value. refl) refl taken read.fan;
  least = number_from names store_table (codes "least") given 3 options.least (λ value. refl) refl taken read.least;
}

limits_given : (names : ClassNames) (given : List (Text × Text)) (limits : StormSize) → Taken names storm_table [] given → LimitsRead (rows_given names storm_table given) limits → LimitsGiven given limits
limits_given names given limits taken read = record {
  writers = number_from names storm_table (codes "writers") given 4 limits.writers (λ value. refl) refl taken read.writers;
  inserts = number_from names storm_table (codes "inserts") given 250 limits.inserts (λ value. refl) refl taken read.inserts;
  deletes = number_from names storm_table (codes "deletes") given 0 limits.deletes (λ value. refl) refl taken read.deletes;
  readers = number_from names storm_table (codes "readers") given 2 limits.readers (λ value. refl) refl taken read.readers;
  lookers = number_from names storm_table (codes "lookers") given 0 limits.lookers (λ value. refl) refl taken read.lookers;
  subscribers = number_from names storm_table (codes "subscribers") given 0 limits.subscribers (λ value. refl) refl taken read.subscribers;
  room = number_from names storm_table (codes "room") given 2 limits.room (λ value. refl) refl taken read.room;
  pumps = number_from names storm_table (codes "pumps") given 2 limits.pumps (λ value. refl) refl taken read.pumps;
  sweeps = number_from names storm_table (codes "sweeps") given 0 limits.sweeps (λ value. refl) refl taken read.sweeps;
  seed = number_from names storm_table (codes "seed") given 1 limits.seed (λ value. refl) refl taken read.seed;
}

-- what clap found in words that it accepts: the words spell just that
abbrev pub Meets : List Text → Option (Text × List Row) → Type 0
Meets words met = (names : ClassNames) × AreClassNames names × (sp : Spelled names words) × (met ≡ Some (sp.command, map (option_row names (table_of sp.command)) sp.given))

pub meets : (line : App) (words : List Text) (met : Option (Text × List Row)) → IsGistLine line
    → (is_simple_and_free line ≡ true → fault_of line words ≡ []) → (is_simple line ≡ true → met ≡ subcommand_of line words) → Meets words met
meets line words met gist faults matches =
    let names = gist.0 in
    let e = gist.2 in
    let none : fault_of line words ≡ [] = faults (ap is_simple_and_free e ∙ is_free names) in
    let s : Spelled names words = spelled names words (subst (λ (l : App). fault_of l words ≡ []) e none) in
    (names, gist.1, s, matches (ap is_simple e ∙ is_plain names) ∙ ap (λ (l : App). subcommand_of l words) e ∙ s.found)

-- the command that was found is one that exists
pub names_command : (words : List Text) (met : Option (Text × List Row)) (command : Text) → Meets words met → Some command ≡ option_map (λ (p : Text × List Row). p.0) met → IsCommand command
names_command words met command m is =
    let both : Some command ≡ Some m.2.command = is ∙ ap (option_map (λ (p : Text × List Row). p.0)) m.3 in
    subst IsCommand (sym (ap (λ (o : Option Text). unwrap_or o command) both)) m.2.is_command

-- what was read from the rows of a command is what its words give
module _ (words : List Text) (met : Option (Text × List Row)) (command : Text) (rows : List Row) (m : Meets words met)
    (command_is : Some command ≡ option_map (λ (p : Text × List Row). p.0) met) (rows_are : Some rows ≡ option_map (λ (p : Text × List Row). p.1) met) where
  gives_options : (own : Text) → command ≡ own → (Read : List Row → Type 0) (Given : List (Text × Text) → Type 0)
      → ((given : List (Text × Text)) → Taken m.0 (table_of own) [] given → Read (rows_given m.0 (table_of own) given) → Given given)
      → Read rows → GivesOptions own words Given
  gives_options own is Read Given from read =
      let s : Spelled m.0 words = m.2 in
      let named : Some command ≡ Some s.command = command_is ∙ ap (option_map (λ (p : Text × List Row). p.0)) m.3 in
      let held : Some rows ≡ Some (rows_given m.0 (table_of s.command) s.given) = rows_are ∙ ap (option_map (λ (p : Text × List Row). p.1)) m.3 in
      let same : s.command ≡ own = sym (ap (λ (o : Option Text). unwrap_or o command) named) ∙ is in
      let found : Read (rows_given m.0 (table_of s.command) s.given) = subst Read (ap (λ (o : Option (List Row)). unwrap_or o rows) held) read in
      let taken : Taken m.0 (table_of own) [] s.given = subst (λ (c : Text). Taken m.0 (table_of c) [] s.given) same s.taken in (
        s.rest,
        s.given,
        s.words_are ∙ ap (λ (c : Text). c ∷ s.rest) same,
        s.options,
        are_options m.0 (table_of own) [] s.given m.1 taken,
        from s.given taken (subst (λ (c : Text). Read (rows_given m.0 (table_of c) s.given)) same found),
      )

  pub gives : (asked : Settings) → SettingsRead command rows asked → GivesSettings words asked
  gives (settings.Serve options) read =
      gives_options (codes "serve") read.0 (λ rs. OptionsRead rs options) _ (λ given taken found. options_given m.0 given options taken found) read.1
  gives (settings.Replay options) read =
      gives_options (codes "replay") read.0 (λ rs. OptionsRead rs options) _ (λ given taken found. options_given m.0 given options taken found) read.1
  gives (settings.Storm limits) read =
      gives_options (codes "storm") read.0 (λ rs. LimitsRead rs limits) _ (λ given taken found. limits_given m.0 given limits taken found) read.1
