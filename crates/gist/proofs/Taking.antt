-- Words of the form that a command takes have no fault.
use Rattle.std.proofs.Common.{◌≡◌, ◌∙◌, ◌||◌, Bool, true, false, cond, refl, sym, ap, subst, List, [], ◌∷◌, ◌++◌, inl, inr, ◌⊎◌, Option, Some, None, codes, true≢false}
use Rattle.std.specs.Option.{is_some, option_and_then, option_map, option_map_or}
use Rattle.std.specs.List.{fold}
use Rattle.std.specs.Prelude.{nat_lt}
use Rattle.std.specs.Str.{bytes_eq}
use Rattle.std.proofs.lemmas.Slice.Eq.{bytes_eq-Decides}
use Rattle.clap.specs.Words.{App, IsAmong, Kinds, Row, Rule, Shape, Text, fault_of, is_simple_and_free}
use Rattle.clap.specs.declared.error.ErrorKind.{ErrorKind}
use Rattle.clap.specs.declared.error.ErrorKind.TheVariants.{OutOfMemory}
use Rattle.clap.specs.Kinds.{or_else}
use Rattle.clap.specs.Lexer.{long_of, long_of_rest, short_of, short_of_rest, strip_byte}
use Rattle.clap.specs.Faults.{bundle_fault, check_fault, default_fault, defaults_fault, entered_fault, flag_word_fault, level_fault, long_fault, react_fault, settle_fault, step_fault, turn_fault, use_fault, walk_fault}
use Rattle.clap.specs.Walk.{Held, Waiting, Walk, after_step, arg_by_id, arg_by_long, finished, has_row, idle, option, nothing_held, option_word, settled, settled_rows, short_or_plain, used, walk, walk_from, walked, with_default}
use Rattle.clap.specs.declared.builder.ValueParser.{ValueParser}
use Rattle.clap.specs.Simple.{entered, rows_at}
use Rattle.gist.specs.CommandLine.{AreWellFormed, ClassNames, IsGistLine, gist_line, parser_of}
use Rattle.gist.specs.Spelling.{IsCommand, OptionKind, SpellsPlainly, table_of, is_hyphened, no_more, behind_equals, as_next_word}
use Rattle.gist.proofs.Reading.{Ends, H, Taken, at, dashes, flag_step, help, rules, s, settles, used_row, value_rule, word_step}
use Rattle.gist.proofs.Naming.{Enters, commands, enters, line, no_rows, stopped_at, stops, top}
use Rattle.gist.proofs.Serving.{is_free, shape_with}
use Rattle.gist.proofs.Values.{are_taken}

both : (a b : Kinds) → a ≡ [] → b ≡ [] → or_else a b ≡ []
both a b e f = ap (λ (x : Kinds). or_else x b) e ∙ f

not_marked : (word : Text) (found : Text × Option Text) → long_of word ≡ Some found → bytes_eq word dashes ≡ false
not_marked word found long = go (bytes_eq word dashes) refl
  where
    go : (b : Bool) → bytes_eq word dashes ≡ b → b ≡ false
    go false is = refl
    go true is =
        let bad : None ≡ Some found = subst (λ (w : Text). long_of w ≡ Some found) ((bytes_eq-Decides word dashes).0 is) long in
        let worse : false ≡ true = ap (λ (o : Option (Text × Option Text)). is_some o) bad in
        absurd (true≢false (sym worse))

record IsPlain (word : Text) : Type 0 where
  unmarked : bytes_eq word dashes ≡ false
  long : long_of word ≡ None
  short : short_of word ≡ None

plain_word_is : (word : Text) → is_hyphened word ≡ false → IsPlain word
plain_word_is [] e = record { unmarked = refl; long = refl; short = refl }
plain_word_is (x ∷ xs) e = record {
  unmarked = go (bytes_eq (x ∷ xs) dashes) refl;
  long = subst (λ (b : Bool). option_and_then long_of_rest (option_and_then (strip_byte 45) (cond b (Some xs) None)) ≡ None) (sym e) refl;
  short = subst (λ (b : Bool). option_and_then short_of_rest (cond b (Some xs) None) ≡ None) (sym e) refl;
}
  where
    go : (b : Bool) → bytes_eq (x ∷ xs) dashes ≡ b → b ≡ false
    go false is = refl
    go true is =
        let bad : true ≡ false = subst (λ (w : Text). is_hyphened w ≡ false) ((bytes_eq-Decides (x ∷ xs) dashes).0 is) e in
        absurd (true≢false bad)

-- a name that finds the rule of an option as an identifier finds it as a long word too
long_named : (names : ClassNames) (table : List (Text × OptionKind)) (name : Text) (takes : ValueParser) → arg_by_id (rules names table) name ≡ Some (value_rule name takes) → arg_by_long (rules names table) name ≡ Some (value_rule name takes)
long_named names [] name takes = go (bytes_eq (codes "help") name)
  where
    go : (b : Bool) → cond b (Some help) None ≡ Some (value_rule name takes) → cond (b || false) (Some help) None ≡ Some (value_rule name takes)
    go true e = e
    go false e = e
long_named names (o ∷ table) name takes = go (bytes_eq o.0 name) (long_named names table name takes)
  where
    own : Rule
    own = value_rule o.0 (parser_of names o.1)

    go : (b : Bool) → (arg_by_id (rules names table) name ≡ Some (value_rule name takes) → arg_by_long (rules names table) name ≡ Some (value_rule name takes))
        → cond b (Some own) (arg_by_id (rules names table) name) ≡ Some (value_rule name takes) → cond (b || false) (Some own) (arg_by_long (rules names table) name) ≡ Some (value_rule name takes)
    go true rest e = e
    go false rest e = rest e

no_default_fault : (b : Bool) (kinds : Kinds) → cond (b || true) [] kinds ≡ []
no_default_fault true kinds = refl
no_default_fault false kinds = refl

defaults_pass : (names : ClassNames) (table : List (Text × OptionKind)) (rows : List Row) → defaults_fault rows (rules names table) ≡ []
unfolding defaults_fault
defaults_pass names [] rows = both (default_fault rows help) _ (no_default_fault (has_row (codes "help") rows) _) refl
defaults_pass names (o ∷ table) rows =
    let own = value_rule o.0 (parser_of names o.1) in
    both (default_fault rows own) _ (no_default_fault (has_row o.0 rows) _) (defaults_pass names table (with_default rows own))

module _ (names : ClassNames) (table : List (Text × OptionKind)) (command : Text) where
  abbrev Passes : Walk → List Text → Type 0
  Passes w words = (walk_fault (s names table command) [] w words ≡ []) × Ends names table w words

  -- what is still to be checked after a word
  abbrev After : Text → List Text → Held → Waiting → Bool → Option (Text × Option Text) → Type 0
  After word words h waiting b l =
      (or_else (or_else (cond b [] (flag_word_fault (rules names table) false l word h)) (step_fault (s names table command) 1 (word_step names table word h waiting b l).0 (word_step names table word h waiting b l).1))
      (walk_fault (s names table command) [] (after_step (rules names table) word (at h waiting) (word_step names table word h waiting b l).0 (word_step names table word h waiting b l).1) words) ≡ [])
      × Ends names table (after_step (rules names table) word (at h waiting) (word_step names table word h waiting b l).0 (word_step names table word h waiting b l).1) words

  word_passes : (word : Text) (words : List Text) (rows : List Row) (p : Option (Text × List Text)) → After word words (H rows p) idle (bytes_eq word dashes) (long_of word) → Passes (at (H rows p) idle) (word ∷ words)
  unfolding walked walk_fault
  word_passes word words rows p after = after

  value_passes : (word : Text) (words : List Text) (rows : List Row) (p : Option (Text × List Text)) (name : Text) → After word words (H rows p) (option name) (bytes_eq word dashes) (long_of word) → Passes (at (H rows p) (option name)) (word ∷ words)
  unfolding walked walk_fault
  value_passes word words rows p name after = after

  abbrev OptionAfter : Text → List Text → Held → Option Text → Option Rule → Type 0
  OptionAfter word words h x o =
      (or_else (or_else (long_fault (rules names table) false o x h) (step_fault (s names table command) 1 (flag_step names table word h o x).0 (flag_step names table word h o x).1))
      (walk_fault (s names table command) [] (after_step (rules names table) word (at h idle) (flag_step names table word h o x).0 (flag_step names table word h o x).1) words) ≡ [])
      × Ends names table (after_step (rules names table) word (at h idle) (flag_step names table word h o x).0 (flag_step names table word h o x).1) words

  option_passes : (word : Text) (words : List Text) (rows : List Row) (p : Option (Text × List Text)) (name : Text) (x : Option Text) (takes : ValueParser) → long_of word ≡ Some (name, x)
      → arg_by_id (rules names table) name ≡ Some (value_rule name takes) → OptionAfter word words (H rows p) x (Some (value_rule name takes)) → Passes (at (H rows p) idle) (word ∷ words)
  option_passes word words rows p name x takes long by_id after =
      word_passes word words rows p
      (subst (λ (b : Bool). After word words (H rows p) idle b (long_of word)) (sym (not_marked word (name, x) long))
      (subst (λ (l : Option (Text × Option Text)). After word words (H rows p) idle false l) (sym long)
      (subst (λ (o : Option Rule). OptionAfter word words (H rows p) x o) (sym (long_named names table name takes by_id)) after)))

  abbrev ShortAfter : Text → List Text → List Row → Text → Option Text → Type 0
  ShortAfter word words rows name o =
      (or_else (or_else (option_map_or (λ flags. bundle_fault (rules names table) false flags (H rows (Some (name, [])))) o []) (step_fault (s names table command) 1 (short_or_plain (rules names table) (option name) word o (H rows (Some (name, [])))).0 (short_or_plain (rules names table) (option name) word o (H rows (Some (name, [])))).1))
      (walk_fault (s names table command) [] (after_step (rules names table) word (at (H rows (Some (name, []))) (option name)) (short_or_plain (rules names table) (option name) word o (H rows (Some (name, [])))).0 (short_or_plain (rules names table) (option name) word o (H rows (Some (name, [])))).1) words) ≡ [])
      × Ends names table (after_step (rules names table) word (at (H rows (Some (name, []))) (option name)) (short_or_plain (rules names table) (option name) word o (H rows (Some (name, [])))).0 (short_or_plain (rules names table) (option name) word o (H rows (Some (name, [])))).1) words

  abbrev PlainAfter : Text → List Text → List Row → Text → Held × Waiting → Type 0
  PlainAfter word words rows name met = Passes (record (at (H rows (Some (name, []))) (option name)) { held = met.0; waiting = met.1 }) words

  next_word_passes : (value : Text) (words : List Text) (rows : List Row) (name : Text) (takes : ValueParser) → is_hyphened value ≡ false → arg_by_id (rules names table) name ≡ Some (value_rule name takes)
      → Passes (at (H rows (Some (name, value ∷ []))) idle) words → Passes (at (H rows (Some (name, []))) (option name)) (value ∷ words)
  next_word_passes value words rows name takes bare by_id rest =
      let plain_is = plain_word_is value bare in
      let self : bytes_eq name name ≡ true = (bytes_eq-Decides name name).1 refl in
      let kept : PlainAfter value words rows name (option_word (arg_by_id (rules names table) name) name value (H rows (Some (name, [])))) =
      subst (λ (o : Option Rule). PlainAfter value words rows name (option_word o name value (H rows (Some (name, []))))) (sym by_id)
      (subst (λ (b : Bool). PlainAfter value words rows name (H rows (Some (name, value ∷ [])), cond (nat_lt (cond b 1 0) 1) (option name) idle)) (sym self) rest) in
      value_passes value words rows (Some (name, [])) name
      (subst (λ (b : Bool). After value words (H rows (Some (name, []))) (option name) b (long_of value)) (sym plain_is.unmarked)
      (subst (λ (l : Option (Text × Option Text)). After value words (H rows (Some (name, []))) (option name) false l) (sym plain_is.long)
      (subst (λ (o : Option Text). ShortAfter value words rows name o) (sym plain_is.short) kept)))

  pub passes : (words : List Text) (given : List (Text × Text)) (rows : List Row) (p : Option (Text × List Text)) → SpellsPlainly words given → settle_fault (rules names table) false (H rows p) ≡ []
      → Taken names table (settled_rows (rules names table) p rows) given → Passes (at (H rows p) idle) words
  unfolding walk_fault
  passes [] [] rows p no_more settle taken = (refl, settle)
  passes [] (o ∷ given) rows p plainly settle taken = elim plainly [ ]
  passes (word ∷ words) [] rows p plainly settle taken = elim plainly [ ]
  passes (word ∷ words) (o ∷ given) rows p (behind_equals long more) settle taken =
      let before = settled_rows (rules names table) p rows in
      let rule = value_rule o.0 taken.0 in
      let after = used rule (o.1 ∷ []) before in
      let rest = passes words given after None more refl (subst (λ (rs : List Row). Taken names table rs given) (sym (used_row names table o.0 taken.0 o.1 before taken.1 taken.2)) taken.3) in
      let react = both (settle_fault (rules names table) false (H rows p)) (use_fault false rule (o.1 ∷ []) before) settle taken.2 in
      option_passes word words rows p o.0 (Some o.1) taken.0 long taken.1
      (both (or_else (react_fault (rules names table) false rule (o.1 ∷ []) (H rows p)) []) _ (both (react_fault (rules names table) false rule (o.1 ∷ []) (H rows p)) [] react refl) rest.0, rest.1)
  passes (word ∷ value ∷ words) (o ∷ given) rows p (as_next_word long bare more) settle taken =
      let before = settled_rows (rules names table) p rows in
      let settle_value = subst (λ (r : Option Rule). option_map_or (λ a. use_fault false a (o.1 ∷ []) before) r [] ≡ []) (sym taken.1) taken.2 in
      let rest = passes words given before (Some (o.0, o.1 ∷ [])) more settle_value
      (subst (λ (rs : List Row). Taken names table rs given) (sym (settles names table o.0 taken.0 o.1 before taken.1 settle_value)) taken.3) in
      let turn = next_word_passes value words before o.0 taken.0 bare taken.1 rest in
      option_passes word (value ∷ words) rows p o.0 None taken.0 long taken.1
      (both (or_else (settle_fault (rules names table) false (H rows p)) []) _ (both (settle_fault (rules names table) false (H rows p)) [] settle refl) turn.0, turn.1)

module _ (names : ClassNames) (command : Text) where
  stopped_passes : (words : List Text) (name : Text) (passed : List Text) → walk_fault (top names) (commands names) (stopped_at name passed) words ≡ []
  unfolding walked walk_fault
  stopped_passes [] name passed = refl
  stopped_passes (w ∷ words) name passed = stopped_passes words name (passed ++ w ∷ [])

  stopped_holds : (words : List Text) (name : Text) (passed : List Text) → (fold (walked (top names).rules (commands names)) (stopped_at name passed) words).held ≡ no_rows
  unfolding walked
  stopped_holds [] name passed = refl
  stopped_holds (w ∷ words) name passed = stopped_holds words name (passed ++ w ∷ [])

  -- no command has an option that must be given
  none_required : (rows : List Row) → IsCommand command → check_fault (shape_with (rules names (table_of command)) command) rows false ≡ []
  none_required rows (inl is) = subst (λ (c : Text). check_fault (shape_with (rules names (table_of c)) c) rows false ≡ []) (sym is) refl
  none_required rows (inr (inl is)) = subst (λ (c : Text). check_fault (shape_with (rules names (table_of c)) c) rows false ≡ []) (sym is) refl
  none_required rows (inr (inr is)) = subst (λ (c : Text). check_fault (shape_with (rules names (table_of c)) c) rows false ≡ []) (sym is) refl

  pub takes_words : (name : Text) (rest : List Text) (given : List (Text × Text)) → IsCommand command → SpellsPlainly rest given → Taken names (table_of command) [] given → fault_of (gist_line names) (name ∷ command ∷ rest) ≡ []
  unfolding walked walk_fault defaults_fault
  takes_words name rest given is_command plainly taken =
      let shape = shape_with (rules names (table_of command)) command in
      let enter : Enters names command = enters names command is_command in
      let end_at_top = fold (walked (top names).rules (commands names)) (walked (top names).rules (commands names) (walk_from nothing_held) command) rest in
      let end_is : end_at_top ≡ fold (walked (top names).rules (commands names)) (stopped_at command []) rest = ap (λ (w : Walk). fold (walked (top names).rules (commands names)) w rest) enter.walk in
      let stop_is : end_at_top.stopped ≡ Some (command, rest) = ap (λ (w : Walk). w.stopped) end_is ∙ stops (top names).rules (commands names) rest command [] in
      let held_is : end_at_top.held ≡ no_rows = ap (λ (w : Walk). w.held) end_is ∙ stopped_holds rest command [] in
      let leaf = passes names (table_of command) command rest given [] None plainly refl taken in
      let end = (walk shape.rules [] nothing_held rest).held in
      let defaults = defaults_fault (settled shape.rules end).rows shape.rules in
      let level : level_fault shape [] nothing_held rest false [] ≡ [] =
      both (walk_fault shape [] (walk_from nothing_held) rest) _ leaf.0
      (both (settle_fault shape.rules shape.args_override_self end) _ leaf.1 (both defaults _ (defaults_pass names (table_of command) (settled shape.rules end).rows) (none_required (finished shape.rules end) is_command))) in
      let below : entered_fault (line names) end_at_top.stopped ≡ [] =
      ap (entered_fault (line names)) stop_is ∙ ap (λ (o : Option Shape). option_map_or (λ (s : Shape). level_fault s [] nothing_held rest false []) o []) enter.shape ∙ level in
      let met : is_some (entered (line names) end_at_top.stopped) ≡ true =
      ap (λ (o : Option (Text × List Text)). is_some (entered (line names) o)) stop_is ∙ ap (λ (o : Option Shape). is_some (option_map (λ (s : Shape). rows_at s rest) o)) enter.shape in
      let last : (h : Held) → h ≡ no_rows → (b : Bool) → b ≡ true
      → or_else (settle_fault (top names).rules (top names).args_override_self h) (or_else (defaults_fault (settled (top names).rules h).rows (top names).rules) (check_fault (top names) (finished (top names).rules h) b)) ≡ [] =
      λ h h_is b b_is. subst (λ (x : Held). or_else (settle_fault (top names).rules (top names).args_override_self x) (or_else (defaults_fault (settled (top names).rules x).rows (top names).rules) (check_fault (top names) (finished (top names).rules x) b)) ≡ []) (sym h_is)
      (subst (λ (c : Bool). check_fault (top names) [] c ≡ []) (sym b_is) refl) in
      let walking : walk_fault (top names) (commands names) (walk_from nothing_held) (command ∷ rest) ≡ [] =
      both (turn_fault (top names) (commands names) (walk_from nothing_held) command) _ enter.turn
      (subst (λ (w : Walk). walk_fault (top names) (commands names) w rest ≡ []) (sym enter.walk) (stopped_passes rest command [])) in
      both (walk_fault (top names) (commands names) (walk_from nothing_held) (command ∷ rest)) _ walking
      (both (entered_fault (line names) end_at_top.stopped) _ below (last _ held_is _ met))

-- well-formed words are refused only if memory runs out
pub only_memory : (program : App) (words : List Text) (why : ErrorKind) → IsGistLine program
    → (is_simple_and_free program ≡ true → (why ≡ OutOfMemory) ⊎ IsAmong why (fault_of program words)) → AreWellFormed words → why ≡ OutOfMemory
only_memory program words why gist fails well =
    let names = gist.0 in
    let free : is_simple_and_free program ≡ true = ap is_simple_and_free gist.2 ∙ is_free names in
    let none : fault_of program words ≡ [] = ap (λ (l : App). fault_of l words) gist.2 ∙ ap (fault_of (gist_line names)) well.words_are
    ∙ takes_words names well.command well.name well.rest well.given well.is_command well.spelled (are_taken names (table_of well.command) [] well.given gist.1 well.are_options) in
    elim (fails free) [
      | inl memory ↦ memory
      | inr among ↦ absurd (subst (λ (kinds : Kinds). IsAmong why kinds) none among)
    ]
