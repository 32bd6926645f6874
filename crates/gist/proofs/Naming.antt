-- Words without a fault name a command first, and its options are the words after it.
use Rattle.std.proofs.Common.{◌≡◌, ◌∙◌, ◌||◌, Bool, true, false, cond, refl, sym, ap, subst, List, [], ◌∷◌, ◌++◌, map, drop, inl, inr, ◌⊎◌, Option, Some, None, codes, true≢false}
use Rattle.std.specs.Option.{is_some, option_map, option_map_or}
use Rattle.std.specs.List.{find, fold}
use Rattle.std.specs.Str.{bytes_eq}
use Rattle.std.specs.Prelude.{◌==◌}
use Rattle.std.proofs.lemmas.List.{append_assoc, append-nil}
use Rattle.std.proofs.lemmas.Slice.Eq.{bytes_eq-Decides}
use Rattle.clap.specs.Words.{App, Kinds, Row, Rule, Shape, Text, fault_of, subcommand_of}
use Rattle.clap.specs.Kinds.{or_else}
use Rattle.clap.specs.Lexer.{long_of, short_of}
use Rattle.clap.specs.Faults.{bundle_fault, entered_fault, flag_word_fault, other_fault, level_fault, long_fault, settle_fault, step_fault, turn_fault, walk_fault}
use Rattle.clap.specs.Simple.{built, entered, label_of, names_of, rows_at}
use Rattle.clap.specs.Walk.{Held, Names, Outcome, Walk, after_flag, after_step, answers_to, arg_by_long, finished, idle, long_or_other, nothing_held, short_or_plain, short_word, subcommand_met, subcommand_or_other, trailing, walk, walk_from, walked, has_row, with_default}
use Rattle.clap.specs.declared.error.ErrorKind.TheVariants as kind
use Rattle.gist.specs.CommandLine.{ClassNames, gist_line}
use Rattle.gist.specs.Spelling.{IsCommand, OptionKind, SpellsOptions, table_of}
use Rattle.gist.proofs.Serving.{checked, last_checks, shape_with}
use Rattle.gist.proofs.Reading.{H, IsShortRule, Taken, at, behind_mark, bundled, dashes, earlier, faulty, help_is_asked, later, option_row, reads, request_or_none, rows_at_end, rules, version_is_asked}

abbrev pub no_rows : Held
no_rows = H [] None

abbrev pub stopped_at : Text → List Text → Walk
stopped_at name words = record { held = no_rows; waiting = idle; position = 1; is_trailing = false; stopped = Some (name, words) }

pub stops : (c : List Rule) (subcommands : Names) (words : List Text) (name : Text) (passed : List Text) → (fold (walked c subcommands) (stopped_at name passed) words).stopped ≡ Some (name, passed ++ words)
unfolding walked
stops c subcommands [] name passed = ap (λ (ws : List Text). Some (name, ws)) (sym (append-nil passed))
stops c subcommands (w ∷ words) name passed =
    stops c subcommands words name (passed ++ w ∷ []) ∙ ap (λ (ws : List Text). Some (name, ws)) (append_assoc passed (w ∷ []) words)

module _ (names : ClassNames) where
  abbrev pub line : App
  line = built (gist_line names)

  abbrev pub top : Shape
  top = line.top

  abbrev pub commands : Names
  commands = names_of line

  long_is_faulty : (o : Option Rule) → IsShortRule o → (x : Option Text) → long_fault top.rules false o x no_rows ≡ [] → ⊥
  long_is_faulty o (inl none) x f = faulty kind.UnknownArgument [] (subst (λ (r : Option Rule). long_fault top.rules false r x no_rows ≡ []) none f)
  long_is_faulty o (inr (rule, inl asks, is)) (Some y) f = faulty kind.TooManyValues [] (subst (λ (r : Option Rule). long_fault top.rules false r (Some y) no_rows ≡ []) (is ∙ ap Some asks) f)
  long_is_faulty o (inr (rule, inr asks, is)) (Some y) f = faulty kind.TooManyValues [] (subst (λ (r : Option Rule). long_fault top.rules false r (Some y) no_rows ≡ []) (is ∙ ap Some asks) f)
  long_is_faulty o (inr (rule, inl asks, is)) None f = help_is_asked top.rules [] None (subst (λ (r : Option Rule). long_fault top.rules false r None no_rows ≡ []) (is ∙ ap Some asks) f)
  long_is_faulty o (inr (rule, inr asks, is)) None f = version_is_asked top.rules [] None (subst (λ (r : Option Rule). long_fault top.rules false r None no_rows ≡ []) (is ∙ ap Some asks) f)

  not_plain : (word : Text) (rest : Kinds) (o : Option Text)
      → or_else (or_else (option_map_or (λ flags. bundle_fault top.rules false flags no_rows) o []) (step_fault top 1 (short_or_plain top.rules idle word o no_rows).0 (short_or_plain top.rules idle word o no_rows).1)) rest ≡ [] → ⊥
  not_plain word rest None f = faulty kind.UnknownArgument (kind.InvalidSubcommand ∷ []) f
  not_plain word rest (Some flags) f =
      let bundling = bundle_fault top.rules false flags no_rows in
      let step = step_fault top 1 (short_word top.rules idle word flags no_rows).0 (short_word top.rules idle word flags no_rows).1 in
      let turn = earlier (or_else bundling step) rest f in
      let none = earlier bundling step turn in
      let value_step = subst (λ (q : Held × Outcome). step_fault top 1 (after_flag top.rules idle word q.0 q.1).0 (after_flag top.rules idle word q.0 q.1).1 ≡ [])
      (bundled top.rules (λ x. request_or_none (104 == x) (86 == x)) flags [] None none) (later bundling step turn) in
      faulty kind.UnknownArgument (kind.InvalidSubcommand ∷ []) value_step

  marked_stops : (words : List Text) → walk_fault top commands (behind_mark no_rows idle) words ≡ [] → (fold (walked top.rules commands) (behind_mark no_rows idle) words).stopped ≡ None
  unfolding walk_fault
  marked_stops [] f = refl
  marked_stops (w ∷ words) f = absurd (faulty kind.UnknownArgument (kind.InvalidSubcommand ∷ []) f)

  -- no other word comes before the name of a command
  other_word : (word : Text) (words : List Text) (b : Bool) (l : Option (Text × Option Text))
      → or_else (or_else (cond b [] (flag_word_fault top.rules false l word no_rows)) (step_fault top 1 (cond b (no_rows, trailing 1) (long_or_other top.rules idle word l no_rows)).0 (cond b (no_rows, trailing 1) (long_or_other top.rules idle word l no_rows)).1))
      (walk_fault top commands (after_step top.rules word (at no_rows idle) (cond b (no_rows, trailing 1) (long_or_other top.rules idle word l no_rows)).0 (cond b (no_rows, trailing 1) (long_or_other top.rules idle word l no_rows)).1) words) ≡ []
      → (fold (walked top.rules commands) (after_step top.rules word (at no_rows idle) (cond b (no_rows, trailing 1) (long_or_other top.rules idle word l no_rows)).0 (cond b (no_rows, trailing 1) (long_or_other top.rules idle word l no_rows)).1) words).stopped ≡ None
  other_word word words true l f = marked_stops words f
  other_word word words false (Some q) f =
      let long = long_fault top.rules false (arg_by_long top.rules q.0) q.1 no_rows in
      let step = step_fault top 1 (long_or_other top.rules idle word (Some q) no_rows).0 (long_or_other top.rules idle word (Some q) no_rows).1 in
      absurd (long_is_faulty (arg_by_long top.rules q.0) (request_or_none (bytes_eq (codes "help") q.0) (bytes_eq (codes "version") q.0)) q.1 (earlier long step (earlier (or_else long step) _ f)))
  other_word word words false None f = absurd (not_plain word _ (short_of word) f)

  -- the word names no command, or is the name of one
  abbrev IsMet : Text → Option Text → Type 0
  IsMet word met = (met ≡ None) ⊎ ((met ≡ Some word) × IsCommand word)

  is_met : (word : Text) → IsMet word (subcommand_met commands idle word)
  is_met word = go (bytes_eq (codes "serve") word) refl (bytes_eq (codes "replay") word) refl (bytes_eq (codes "storm") word) refl
    where
      here : (name : Text) → bytes_eq name word ≡ true → IsCommand name → IsMet word (Some name)
      here name is command = subst (λ (w : Text). IsMet w (Some name)) ((bytes_eq-Decides name word).0 is) (inr (refl, command))

      go : (serves : Bool) → bytes_eq (codes "serve") word ≡ serves → (replays : Bool) → bytes_eq (codes "replay") word ≡ replays → (storms : Bool) → bytes_eq (codes "storm") word ≡ storms
          → IsMet word (option_map (λ (x : Text × List Text). x.0) (cond (serves || false) (Some (codes "serve", [])) (cond (replays || false) (Some (codes "replay", [])) (cond (storms || false) (Some (codes "storm", [])) None))))
      go true is b f c g = here (codes "serve") is (inl refl)
      go false e true is c g = here (codes "replay") is (inr (inl refl))
      go false e false f true is = here (codes "storm") is (inr (inr refl))
      go false e false f false g = inl refl

  -- the words stop at a command
  pub record Stops (words : List Text) (stop : Option (Text × List Text)) : Type 0 where
    command : Text
    rest : List Text
    is_command : IsCommand command
    words_are : words ≡ command ∷ rest
    stop_is : stop ≡ Some (command, rest)

  -- where the walk goes on after a word, by the command that it names
  abbrev After : Text → Option Text → Walk
  After word met = after_step top.rules word (at no_rows idle) (subcommand_or_other top.rules met idle 1 word no_rows).0 (subcommand_or_other top.rules met idle 1 word no_rows).1

  stops_at_command : (words : List Text) → walk_fault top commands (at no_rows idle) words ≡ [] → is_some (entered line (fold (walked top.rules commands) (at no_rows idle) words).stopped) ≡ true
      → Stops words (fold (walked top.rules commands) (at no_rows idle) words).stopped
  unfolding walked walk_fault
  stops_at_command [] f some = absurd (true≢false (sym some))
  stops_at_command (word ∷ words) f some = go (subcommand_met commands idle word) (is_met word) f some
    where
      go : (met : Option Text) → IsMet word met
          → or_else (or_else (other_fault top met word no_rows) (step_fault top 1 (subcommand_or_other top.rules met idle 1 word no_rows).0 (subcommand_or_other top.rules met idle 1 word no_rows).1)) (walk_fault top commands (After word met) words) ≡ []
          → is_some (entered line (fold (walked top.rules commands) (After word met) words).stopped) ≡ true
          → Stops (word ∷ words) (fold (walked top.rules commands) (After word met) words).stopped
      go (Some name) (inl bad) g t = absurd (true≢false (ap is_some bad))
      go (Some name) (inr is) g t = record {
        command = word;
        rest = words;
        is_command = is.1;
        words_are = refl;
        stop_is = stops top.rules commands words name [] ∙ ap (λ (o : Option Text). option_map (λ (n : Text). (n, words)) o) is.0;
      }
      go None is g t =
          let none = other_word word words (bytes_eq word dashes) (long_of word) g in
          absurd (true≢false (sym (subst (λ (o : Option (Text × List Text)). is_some (entered line o) ≡ true) none t)))

  kept_rows : (b : Bool) (rows : List Row) → cond b rows rows ≡ rows
  kept_rows true rows = refl
  kept_rows false rows = refl

  -- no option has a default
  no_default : (table : List (Text × OptionKind)) (rows : List Row) → fold with_default rows (rules names table) ≡ rows
  no_default [] rows = kept_rows (has_row (codes "help") rows) rows
  no_default (o ∷ table) rows = ap (λ (rs : List Row). fold with_default rs (rules names table)) (kept_rows (has_row o.0 rows) rows) ∙ no_default table rows

  -- how the walk goes past the name of a command
  pub record Enters (command : Text) : Type 0 where
    pub turn : turn_fault top commands (walk_from nothing_held) command ≡ []
    pub walk : walked top.rules commands (walk_from nothing_held) command ≡ stopped_at command []
    pub shape : find (λ (s : Shape). answers_to command (label_of s)) line.subs ≡ Some (shape_with (rules names (table_of command)) command)

  enters_serve : Enters (codes "serve")
  unfolding walked
  enters_serve = record { turn = refl; walk = refl; shape = refl }

  enters_replay : Enters (codes "replay")
  unfolding walked
  enters_replay = record { turn = refl; walk = refl; shape = refl }

  enters_storm : Enters (codes "storm")
  unfolding walked
  enters_storm = record { turn = refl; walk = refl; shape = refl }

  pub enters : (command : Text) → IsCommand command → Enters command
  enters command (inl is) = subst Enters (sym is) enters_serve
  enters command (inr (inl is)) = subst Enters (sym is) enters_replay
  enters command (inr (inr is)) = subst Enters (sym is) enters_storm

  -- the words are a command and options; what was found after the command are those options
  pub record Spelled (words : List Text) : Type 0 where
    pub command : Text
    pub rest : List Text
    pub given : List (Text × Text)
    pub is_command : IsCommand command
    pub words_are : drop 1 words ≡ command ∷ rest
    pub options : SpellsOptions rest given
    pub found : subcommand_of (gist_line names) words ≡ Some (command, map (option_row names (table_of command)) given)
    pub taken : Taken names (table_of command) [] given

  spelled_behind : (words : List Text) (stop : Option (Text × List Text)) → Stops words stop → entered_fault line stop ≡ []
      → (command : Text) × (rest : List Text) × (given : List (Text × Text)) × IsCommand command × (words ≡ command ∷ rest) × SpellsOptions rest given × (entered line stop ≡ Some (command, map (option_row names (table_of command)) given)) × Taken names (table_of command) [] given
  spelled_behind words stop at_command none =
      let command = at_command.command in
      let rest = at_command.rest in
      let shape = shape_with (rules names (table_of command)) command in
      let enters_it = (enters command at_command.is_command).shape in
      let walking = walk_fault shape [] (walk_from nothing_held) rest in
      let level : level_fault shape [] nothing_held rest false [] ≡ [] =
      subst (λ (o : Option Shape). option_map_or (λ (s : Shape). level_fault s [] nothing_held rest false []) o [] ≡ []) enters_it
      (subst (λ (o : Option (Text × List Text)). entered_fault line o ≡ []) at_command.stop_is none) in
      let end = (walk shape.rules [] nothing_held rest).held in
      let settling = settle_fault shape.rules shape.args_override_self end in
      let found = (reads names (table_of command) command rest).0 [] None (earlier walking _ level) (earlier settling _ (later walking _ level)) in
      let rows = no_default (table_of command) (rows_at_end names (table_of command) (at no_rows idle) rest) ∙ found.3 in (
        command,
        rest,
        found.0,
        at_command.is_command,
        at_command.words_are,
        found.1,
        ap (entered line) at_command.stop_is ∙ ap (option_map (λ (s : Shape). rows_at s rest)) enters_it ∙ ap (λ (rs : List Row). Some (command, rs)) rows,
        found.4,
      )

  pub spelled : (words : List Text) → fault_of (gist_line names) words ≡ [] → Spelled words
  spelled words none =
      let given_words = drop 1 words in
      let stop = (walk top.rules commands nothing_held given_words).stopped in
      let below = entered_fault line stop in
      let walking = walk_fault top commands (walk_from nothing_held) given_words in
      let some = checked top (finished top.rules (walk top.rules commands nothing_held given_words).held) (is_some (entered line stop)) refl refl
      (last_checks top commands nothing_held given_words (is_some (entered line stop)) below none) in
      let s = spelled_behind given_words stop (stops_at_command given_words (earlier walking _ none) some) (earlier below _ (later walking _ none)) in
      record { command = s.0; rest = s.1; given = s.2; is_command = s.3; words_are = s.4; options = s.5; found = s.6; taken = s.7 }
