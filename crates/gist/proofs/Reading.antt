-- Words after a command that have no fault spell options, and the options found are those.
use Rattle.std.proofs.Common.{◌≡◌, ◌∙◌, ◌&&◌, ◌||◌, ℕ, Bool, true, false, cond, refl, sym, ap, subst, arith, List, [], ◌∷◌, ◌++◌, map, length, inl, inr, ◌⊎◌, Option, Some, None, codes, true≢false}
use Rattle.std.specs.Option.{option_map_or}
use Rattle.std.specs.Prelude.{⊤, slice_get, nat_lt, ◌==◌}
use Rattle.std.specs.List.{list_any, fold}
use Rattle.std.specs.Str.{bytes_eq, chars}
use Rattle.std.proofs.lemmas.List.{append_assoc, append-nil}
use Rattle.std.proofs.lemmas.Slice.Eq.{bytes_eq-Decides}
use Rattle.clap.specs.Words.{Kinds, Row, Rule, Shape, Text}
use Rattle.clap.specs.Kinds.{or_else}
use Rattle.clap.specs.Lexer.{long_of, short_of}
use Rattle.clap.specs.Faults.{bundle_fault, bundle_step_fault, flag_word_fault, flags_fault, long_fault, positional_fault, react_fault, repeat_fault, settle_fault, short_fault, step_fault, stray_fault, use_fault, values_fault, walk_fault}
use Rattle.clap.specs.Simple.{filled, help_rule, version_rule, with_index}
use Rattle.clap.specs.Walk.{Held, Outcome, Step, Waiting, Walk, after_flag, after_step, arg_by_id, arg_by_index, arg_by_long, arg_by_short, at_row, bundle, bundle_met, bundle_step, has_row, idle, long_met, long_or_other, more_values, next, option, option_word, plain, plain_word, reading_by, settled_rows, short_or_plain, short_word, trailing, used, used_by_id, value as lone_word, walked, with_values, without}
use Rattle.clap.specs.Values.{reading_of}
use Rattle.clap.specs.declared.error.ErrorKind.{ErrorKind}
use Rattle.clap.specs.declared.error.ErrorKind.TheVariants as kind
use Rattle.clap.specs.declared.builder.ValueParser.{ValueParser}
use Rattle.clap.specs.declared.builder.value_parser.Reading.{Reading}
use Rattle.clap.specs.declared.builder.value_parser.Reading.TheVariants as reading
use Rattle.clap.specs.declared.parser.matches.ValueSource.TheVariants.{CommandLine}
use Rattle.gist.specs.CommandLine.{ClassNames, option_rule, parser_of}
use Rattle.gist.proofs.Serving.{shape_with}
use Rattle.gist.specs.Spelling.{OptionKind, SpellsOptions, nothing, marked, joined, apart}

abbrev pub value_rule : Text → ValueParser → Rule
value_rule name takes = with_index 1 (filled (option_rule name takes))

abbrev pub help : Rule
help = with_index 1 (filled help_rule)

abbrev pub version : Rule
version = with_index 1 (filled version_rule)

-- a rule that asks for the help or the version
abbrev pub IsRequest : Rule → Type 0
IsRequest rule = (rule ≡ help) ⊎ (rule ≡ version)

abbrev pub H : List Row → Option (Text × List Text) → Held
H rows p = record { rows = rows; pending = p; skip = 0 }

abbrev pub at : Held → Waiting → Walk
at h waiting = record { held = h; waiting = waiting; position = 1; is_trailing = false; stopped = None }

abbrev pub behind_mark : Held → Waiting → Walk
behind_mark h waiting = record { held = h; waiting = waiting; position = 1; is_trailing = true; stopped = None }

abbrev pub dashes : Text
dashes = 45 ∷ 45 ∷ []

pub earlier : (a b : Kinds) → or_else a b ≡ [] → a ≡ []
earlier [] b e = refl
earlier (k ∷ ks) b e = e

pub later : (a b : Kinds) → or_else a b ≡ [] → b ≡ []
later [] b e = e
later (k ∷ ks) b e =
    let bad : length (k ∷ ks) ≡ 0 = ap length e in
    absurd (omega (arith, bad))

pub faulty : (k : ErrorKind) (ks : Kinds) → k ∷ ks ≡ [] → ⊥
faulty k ks e =
    let bad : length (k ∷ ks) ≡ 0 = ap length e in
    omega (arith, bad)

-- a row that isn't there is added at the end
added : (id : Text) (change : Row → List Row) (missing rows : List Row) → has_row id rows ≡ false → at_row id change missing rows ≡ rows ++ missing
added id change missing [] none = refl
added id change missing (r ∷ rows) none = go (bytes_eq r.id id) none (added id change missing rows)
  where
    go : (b : Bool) → (b || list_any (λ (x : Row). bytes_eq x.id id) rows) ≡ false → (has_row id rows ≡ false → at_row id change missing rows ≡ rows ++ missing)
        → cond b (change r ++ rows) (r ∷ at_row id change missing rows) ≡ r ∷ (rows ++ missing)
    go true h rest = absurd (true≢false h)
    go false h rest = ap (λ rs. r ∷ rs) (rest h)

-- what follows one hyphen names no rule, or one that asks for help or the version, as `-h` does
abbrev pub IsShortRule : Option Rule → Type 0
IsShortRule o = (o ≡ None) ⊎ ((rule : Rule) × IsRequest rule × (o ≡ Some rule))

pub help_is_asked : (c : List Rule) (rows : List Row) (p : Option (Text × List Text)) → react_fault c false help [] (H rows p) ≡ [] → ⊥
help_is_asked c rows p e = faulty kind.DisplayHelp [] (later (settle_fault c false (H rows p)) (use_fault false help [] (settled_rows c p rows)) e)

pub version_is_asked : (c : List Rule) (rows : List Row) (p : Option (Text × List Text)) → react_fault c false version [] (H rows p) ≡ [] → ⊥
version_is_asked c rows p e = faulty kind.DisplayVersion [] (later (settle_fault c false (H rows p)) (use_fault false version [] (settled_rows c p rows)) e)

pub bundled : (c : List Rule) → ((x : ℕ) → IsShortRule (arg_by_short c x)) → (flags : Text) (rows : List Row) (p : Option (Text × List Text)) → bundle_fault c false flags (H rows p) ≡ []
    → bundle c flags (H rows p) ≡ (H rows p, plain)
unfolding bundle_met flags_fault
bundled c only [] rows p e = refl
bundled c only (x ∷ xs) rows p e = go (slice_get (chars (x ∷ xs)) 0) e
  where
    request : (rule : Rule) → IsRequest rule → (rest : Text) (further : Held → Kinds) → short_fault c false (Some rule) rest (H rows p) further ≡ [] → ⊥
    request rule (inl is) rest further f =
        help_is_asked c rows p (earlier (react_fault c false help [] (H rows p)) _ (subst (λ (r : Rule). short_fault c false (Some r) rest (H rows p) further ≡ []) is f))
    request rule (inr is) rest further f =
        version_is_asked c rows p (earlier (react_fault c false version [] (H rows p)) _ (subst (λ (r : Rule). short_fault c false (Some r) rest (H rows p) further ≡ []) is f))

    short : (o : Option Rule) → IsShortRule o → (rest : Text) (further : Held → Kinds) → short_fault c false o rest (H rows p) further ≡ [] → ⊥
    short o (inl none) rest further f = faulty kind.UnknownArgument [] (subst (λ (r : Option Rule). short_fault c false r rest (H rows p) further ≡ []) none f)
    short o (inr (rule, asks, is)) rest further f =
        request rule asks rest further (subst (λ (r : Option Rule). short_fault c false r rest (H rows p) further ≡ []) is f)

    go : (o : Option ℕ) → bundle_step_fault c false o (x ∷ xs) 0 (H rows p) (flags_fault c false (length xs)) ≡ []
        → bundle_step c o (x ∷ xs) 0 plain (H rows p) (bundle_met c (length xs)) ≡ (H rows p, plain)
    go None f = refl
    go (Some y) f = absurd (short (arg_by_short c y) (only y) _ _ f)

pub help_or_none : (b : Bool) → IsShortRule (cond (b || false) (Some help) None)
help_or_none true = inr (help, inl refl, refl)
help_or_none false = inl refl

-- the same of a command that has a version
pub request_or_none : (b d : Bool) → IsShortRule (cond (b || false) (Some help) (cond (d || false) (Some version) None))
request_or_none true d = inr (help, inl refl, refl)
request_or_none false true = inr (version, inr refl, refl)
request_or_none false false = inl refl

-- the rule of an option with a value, which the name finds as an identifier
abbrev IsValueRule : Text → Option Rule → Rule → Type 0
IsValueRule name by_id rule = (takes : ValueParser) × (rule ≡ value_rule name takes) × (by_id ≡ Some rule) × (bytes_eq name name ≡ true)

-- what a name finds: no rule, the help, or the rule of an option with a value
abbrev IsLongRule : Text → Option Rule → Option Rule → Type 0
IsLongRule name by_id o = (o ≡ None) ⊎ ((o ≡ Some help) ⊎ ((rule : Rule) × (o ≡ Some rule) × IsValueRule name by_id rule))

module _ (names : ClassNames) where
  -- the rules of the options of a table, and of the help
  abbrev pub rules : List (Text × OptionKind) → List Rule
  rules [] = help ∷ []
  rules (o ∷ table) = value_rule o.0 (parser_of names o.1) ∷ rules table

  long_rule_of : (table : List (Text × OptionKind)) (name : Text) → IsLongRule name (arg_by_id (rules table) name) (arg_by_long (rules table) name)
  long_rule_of [] name = go (bytes_eq (codes "help") name)
    where
      go : (b : Bool) → IsLongRule name (cond b (Some help) None) (cond (b || false) (Some help) None)
      go true = inr (inl refl)
      go false = inl refl
  long_rule_of (o ∷ table) name = go (bytes_eq o.0 name) refl (long_rule_of table name)
    where
      own : Rule
      own = value_rule o.0 (parser_of names o.1)

      go : (b : Bool) → bytes_eq o.0 name ≡ b → IsLongRule name (arg_by_id (rules table) name) (arg_by_long (rules table) name)
          → IsLongRule name (cond b (Some own) (arg_by_id (rules table) name)) (cond (b || false) (Some own) (arg_by_long (rules table) name))
      go true is rest =
          inr (inr (own, refl, (parser_of names o.1, ap (λ (n : Text). value_rule n (parser_of names o.1)) ((bytes_eq-Decides o.0 name).0 is), refl, (bytes_eq-Decides name name).1 refl)))
      go false is rest = rest

  short_rule_of : (table : List (Text × OptionKind)) (x : ℕ) → IsShortRule (arg_by_short (rules table) x)
  short_rule_of [] x = help_or_none (104 == x)
  short_rule_of (o ∷ table) x = short_rule_of table x

  -- no option takes a word that stands alone
  no_positional : (table : List (Text × OptionKind)) → arg_by_index (rules table) 1 ≡ None
  no_positional [] = refl
  no_positional (o ∷ table) = no_positional table

module _ (names : ClassNames) (table : List (Text × OptionKind)) where
  abbrev all : List Rule
  all = rules names table

  abbrev pub reading_named : Text → Reading
  reading_named name = option_map_or reading_by (arg_by_id all name) reading.AsWritten

  -- the row of an option that was read
  abbrev pub option_row : Text × Text → Row
  option_row o = record { id = o.0; values = o.1 ∷ []; count = None; source = Some CommandLine; reading = reading_named o.0 }

  abbrev pub Ends : Walk → List Text → Type 0
  Ends w words = settle_fault all false (fold (walked all []) w words).held ≡ []

  abbrev pub rows_at_end : Walk → List Text → List Row
  rows_at_end w words = settled_rows all (fold (walked all []) w words).held.pending (fold (walked all []) w words).held.rows

  -- each option is used once, after these rows, and its value passes
  abbrev pub Taken : List Row → List (Text × Text) → Type 0
  Taken rows [] = ⊤
  Taken rows (o ∷ given) = (takes : ValueParser) × (arg_by_id all o.0 ≡ Some (value_rule o.0 takes)) × (use_fault false (value_rule o.0 takes) (o.1 ∷ []) rows ≡ []) × Taken (rows ++ option_row o ∷ []) given

  -- the words spell options, whose rows are at the end, after those that were there
  abbrev pub Found : List Text → List Row → Option (Text × List Text) → List Row → Type 0
  Found words rows p end = (given : List (Text × Text)) × SpellsOptions words given × (settle_fault all false (H rows p) ≡ []) × (end ≡ settled_rows all p rows ++ map option_row given) × Taken (settled_rows all p rows) given

  short_rule : (x : ℕ) → IsShortRule (arg_by_short all x)
  short_rule x = short_rule_of names table x

  long_rule : (name : Text) → IsLongRule name (arg_by_id all name) (arg_by_long all name)
  long_rule name = long_rule_of names table name

  pub used_row : (name : Text) (takes : ValueParser) (value : Text) (rows : List Row) → arg_by_id all name ≡ Some (value_rule name takes)
      → use_fault false (value_rule name takes) (value ∷ []) rows ≡ [] → used (value_rule name takes) (value ∷ []) rows ≡ rows ++ option_row (name, value) ∷ []
  used_row name takes value rows by_id e =
      let free = unused (has_row name rows) (earlier (repeat_fault false name rows) (values_fault (value_rule name takes) (value ∷ [])) e) in
      let kept : without name rows ≡ rows = added name (λ _. []) [] rows free ∙ append-nil rows in
      let how : reading_named name ≡ reading_of takes = ap (λ (o : Option Rule). option_map_or reading_by o reading.AsWritten) by_id in
      ap (with_values name (reading_of takes) CommandLine (value ∷ [])) kept ∙ added name (more_values CommandLine (value ∷ [])) _ rows free
      ∙ ap (λ (r : Reading). rows ++ record { id = name; values = value ∷ []; count = None; source = Some CommandLine; reading = r } ∷ []) (sym how)
    where
      unused : (b : Bool) → cond (b && true) (kind.ArgumentConflict ∷ []) [] ≡ [] → b ≡ false
      unused true h = absurd (faulty kind.ArgumentConflict [] h)
      unused false h = refl

  -- an option that waits for its value can't be used yet
  unsettled : (name : Text) (takes : ValueParser) (rows : List Row) → arg_by_id all name ≡ Some (value_rule name takes) → settle_fault all false (H rows (Some (name, []))) ≡ [] → ⊥
  unsettled name takes rows by_id e =
      faulty kind.InvalidValue [] (subst (λ (o : Option Rule). option_map_or (λ a. use_fault false a [] rows) o [] ≡ []) by_id e)

  waiting_is_faulty : (name : Text) (takes : ValueParser) (rows : List Row) → arg_by_id all name ≡ Some (value_rule name takes) → (other : Text) (o : Option Rule) → IsLongRule other (arg_by_id all other) o
      → (x : Option Text) → long_fault all false o x (H rows (Some (name, []))) ≡ [] → ⊥
  waiting_is_faulty name takes rows by_id other o (inl none) x f =
      faulty kind.UnknownArgument [] (subst (λ (r : Option Rule). long_fault all false r x (H rows (Some (name, []))) ≡ []) none f)
  waiting_is_faulty name takes rows by_id other o (inr (inl is)) (Some y) f =
      faulty kind.TooManyValues [] (subst (λ (r : Option Rule). long_fault all false r (Some y) (H rows (Some (name, []))) ≡ []) is f)
  waiting_is_faulty name takes rows by_id other o (inr (inl is)) None f =
      help_is_asked all rows (Some (name, [])) (subst (λ (r : Option Rule). long_fault all false r None (H rows (Some (name, []))) ≡ []) is f)
  waiting_is_faulty name takes rows by_id other o (inr (inr r)) (Some y) f =
      let g = subst (λ (a : Option Rule). long_fault all false a (Some y) (H rows (Some (name, []))) ≡ []) (r.1 ∙ ap (λ (a : Rule). Some a) r.2.1) f in
      unsettled name takes rows by_id (earlier (settle_fault all false (H rows (Some (name, [])))) _ g)
  waiting_is_faulty name takes rows by_id other o (inr (inr r)) None f =
      unsettled name takes rows by_id (subst (λ (a : Option Rule). long_fault all false a None (H rows (Some (name, []))) ≡ []) (r.1 ∙ ap (λ (a : Rule). Some a) r.2.1) f)

  -- where the walk goes after a word, by whether the word is `--` and how it names an option
  abbrev pub word_step : Text → Held → Waiting → Bool → Option (Text × Option Text) → Held × Step
  word_step word h waiting b l = cond b (h, trailing 1) (long_or_other all waiting word l h)

  -- the rows after one more option and its value
  one_more : (option_given : Text × Text) (given : List (Text × Text)) (rows used_rows end : List Row) → used_rows ≡ rows ++ option_row option_given ∷ [] → end ≡ used_rows ++ map option_row given
      → end ≡ rows ++ map option_row (option_given ∷ given)
  one_more o given rows used_rows end is e = e ∙ ap (λ rs. rs ++ map option_row given) is ∙ append_assoc rows (option_row o ∷ []) (map option_row given)

  pub settles : (name : Text) (takes : ValueParser) (value : Text) (rows : List Row) → arg_by_id all name ≡ Some (value_rule name takes) → settle_fault all false (H rows (Some (name, value ∷ []))) ≡ []
      → settled_rows all (Some (name, value ∷ [])) rows ≡ rows ++ option_row (name, value) ∷ []
  settles name takes value rows by_id e =
      ap (λ (o : Option Rule). used_by_id o (value ∷ []) rows) by_id
      ∙ used_row name takes value rows by_id (subst (λ (o : Option Rule). option_map_or (λ a. use_fault false a (value ∷ []) rows) o [] ≡ []) by_id e)

  abbrev pub flag_step : Text → Held → Option Rule → Option Text → Held × Step
  flag_step word h o x = after_flag all idle word (long_met all o x h).0 (long_met all o x h).1

  module _ (command : Text) where
    abbrev pub s : Shape
    s = shape_with all command

    abbrev pub Reads : List Text → Type 0
    Reads words = (rows : List Row) (p : Option (Text × List Text)) → walk_fault s [] (at (H rows p) idle) words ≡ [] → Ends (at (H rows p) idle) words
        → Found words rows p (rows_at_end (at (H rows p) idle) words)

    abbrev pub ReadsBehind : List Text → Type 0
    ReadsBehind [] = ⊤
    ReadsBehind (v ∷ words) = Reads words

    -- a word that is no option is a fault
    stray : (h : Held) → step_fault s 1 h lone_word ≡ [] → ⊥
    stray h e =
        faulty kind.UnknownArgument [] (subst (λ (o : Option Rule). option_map_or (λ a. positional_fault s.rules s.args_override_self a h) o (stray_fault s) ≡ []) (no_positional names table) e)

    -- after `--` no word may follow
    behind_mark_is_nothing : (h : Held) (waiting : Waiting) (words : List Text) → walk_fault s [] (behind_mark h waiting) words ≡ [] → words ≡ []
    unfolding walk_fault
    behind_mark_is_nothing h waiting [] e = refl
    behind_mark_is_nothing h waiting (w ∷ words) e = absurd (stray h (earlier (step_fault s 1 h lone_word) _ e))

    -- the word after an option is its value
    abbrev ValueDone : Text → List Text → List Row → Text → Held × Step → Type 0
    ValueDone v words rows name met =
        walk_fault s [] (after_step all v (at (H rows (Some (name, []))) (option name)) met.0 met.1) words ≡ []
        → Ends (after_step all v (at (H rows (Some (name, []))) (option name)) met.0 met.1) words
        → Found words rows (Some (name, v ∷ [])) (rows_at_end (after_step all v (at (H rows (Some (name, []))) (option name)) met.0 met.1) words)

    value_kept : (v : Text) (words : List Text) (rows : List Row) (name : Text) (takes : ValueParser) → arg_by_id all name ≡ Some (value_rule name takes) → bytes_eq name name ≡ true → Reads words
        → ValueDone v words rows name (plain_word all (option name) v (H rows (Some (name, []))))
    value_kept v words rows name takes by_id self read =
        subst (λ (o : Option Rule). ValueDone v words rows name ((option_word o name v (H rows (Some (name, [])))).0, next (option_word o name v (H rows (Some (name, [])))).1)) (sym by_id)
        (subst (λ (b : Bool). ValueDone v words rows name (H rows (Some (name, v ∷ [])), next (cond (nat_lt (cond b 1 0) 1) (option name) idle))) (sym self) (read rows (Some (name, v ∷ []))))

    value_read : (v : Text) (words : List Text) (rows : List Row) (name : Text) (takes : ValueParser) → arg_by_id all name ≡ Some (value_rule name takes) → bytes_eq name name ≡ true → Reads words
        → walk_fault s [] (at (H rows (Some (name, []))) (option name)) (v ∷ words) ≡ [] → Ends (at (H rows (Some (name, []))) (option name)) (v ∷ words)
        → Found words rows (Some (name, v ∷ [])) (rows_at_end (at (H rows (Some (name, []))) (option name)) (v ∷ words))
    unfolding walked walk_fault
    value_read v words rows name takes by_id self read f e = first (bytes_eq v dashes) (long_of v) f e
      where
        second : (o : Option Text) → or_else (or_else (option_map_or (λ flags. bundle_fault all false flags (H rows (Some (name, [])))) o []) (step_fault s 1 (short_or_plain all (option name) v o (H rows (Some (name, [])))).0 (short_or_plain all (option name) v o (H rows (Some (name, [])))).1))
            (walk_fault s [] (after_step all v (at (H rows (Some (name, []))) (option name)) (short_or_plain all (option name) v o (H rows (Some (name, [])))).0 (short_or_plain all (option name) v o (H rows (Some (name, [])))).1) words) ≡ []
            → Ends (after_step all v (at (H rows (Some (name, []))) (option name)) (short_or_plain all (option name) v o (H rows (Some (name, [])))).0 (short_or_plain all (option name) v o (H rows (Some (name, [])))).1) words
            → Found words rows (Some (name, v ∷ [])) (rows_at_end (after_step all v (at (H rows (Some (name, []))) (option name)) (short_or_plain all (option name) v o (H rows (Some (name, [])))).0 (short_or_plain all (option name) v o (H rows (Some (name, [])))).1) words)
        second None g d = value_kept v words rows name takes by_id self read g d
        second (Some flags) g d =
            let bundling = bundle_fault all false flags (H rows (Some (name, []))) in
            let step = step_fault s 1 (short_word all (option name) v flags (H rows (Some (name, [])))).0 (short_word all (option name) v flags (H rows (Some (name, [])))).1 in
            let none = earlier bundling step (earlier (or_else bundling step) _ g) in
            let done : ValueDone v words rows name (short_word all (option name) v flags (H rows (Some (name, [])))) =
            subst (λ (q : Held × Outcome). ValueDone v words rows name (after_flag all (option name) v q.0 q.1)) (sym (bundled all short_rule flags rows (Some (name, [])) none))
            (value_kept v words rows name takes by_id self read) in
            done (later (or_else bundling step) _ g) d

        first : (b : Bool) (l : Option (Text × Option Text))
            → or_else (or_else (cond b [] (flag_word_fault all false l v (H rows (Some (name, []))))) (step_fault s 1 (word_step v (H rows (Some (name, []))) (option name) b l).0 (word_step v (H rows (Some (name, []))) (option name) b l).1))
            (walk_fault s [] (after_step all v (at (H rows (Some (name, []))) (option name)) (word_step v (H rows (Some (name, []))) (option name) b l).0 (word_step v (H rows (Some (name, []))) (option name) b l).1) words) ≡ []
            → Ends (after_step all v (at (H rows (Some (name, []))) (option name)) (word_step v (H rows (Some (name, []))) (option name) b l).0 (word_step v (H rows (Some (name, []))) (option name) b l).1) words
            → Found words rows (Some (name, v ∷ [])) (rows_at_end (after_step all v (at (H rows (Some (name, []))) (option name)) (word_step v (H rows (Some (name, []))) (option name) b l).0 (word_step v (H rows (Some (name, []))) (option name) b l).1) words)
        first true l g d =
            let none = behind_mark_is_nothing (H rows (Some (name, []))) (option name) words g in
            absurd (unsettled name takes rows by_id (subst (λ (ws : List Text). Ends (behind_mark (H rows (Some (name, []))) (option name)) ws) none d))
        first false (Some p) g d =
            let long = long_fault all false (arg_by_long all p.0) p.1 (H rows (Some (name, []))) in
            let step = step_fault s 1 (word_step v (H rows (Some (name, []))) (option name) false (Some p)).0 (word_step v (H rows (Some (name, []))) (option name) false (Some p)).1 in
            absurd (waiting_is_faulty name takes rows by_id p.0 (arg_by_long all p.0) (long_rule p.0) p.1 (earlier long step (earlier (or_else long step) _ g)))
        first false None g d = second (short_of v) g d

    marked_end : (words : List Text) (rows : List Row) (p : Option (Text × List Text)) → walk_fault s [] (behind_mark (H rows p) idle) words ≡ [] → Ends (behind_mark (H rows p) idle) words
        → Found (dashes ∷ words) rows p (rows_at_end (behind_mark (H rows p) idle) words)
    unfolding walk_fault
    marked_end [] rows p f e = ([], marked, e, sym (append-nil (settled_rows all p rows)), tt)
    marked_end (w ∷ words) rows p f e = absurd (stray (H rows p) (earlier (step_fault s 1 (H rows p) lone_word) _ f))

    abbrev OptionRead : Text → List Text → List Row → Option (Text × List Text) → Option Rule → Option Text → Type 0
    OptionRead word words rows p o x =
        or_else (or_else (long_fault all false o x (H rows p)) (step_fault s 1 (flag_step word (H rows p) o x).0 (flag_step word (H rows p) o x).1))
        (walk_fault s [] (after_step all word (at (H rows p) idle) (flag_step word (H rows p) o x).0 (flag_step word (H rows p) o x).1) words) ≡ []
        → Ends (after_step all word (at (H rows p) idle) (flag_step word (H rows p) o x).0 (flag_step word (H rows p) o x).1) words
        → Found (word ∷ words) rows p (rows_at_end (after_step all word (at (H rows p) idle) (flag_step word (H rows p) o x).0 (flag_step word (H rows p) o x).1) words)

    value_option : (word name : Text) (x : Option Text) → long_of word ≡ Some (name, x) → (takes : ValueParser) → arg_by_id all name ≡ Some (value_rule name takes) → bytes_eq name name ≡ true
        → (words : List Text) (rows : List Row) (p : Option (Text × List Text)) → Reads words → ReadsBehind words → OptionRead word words rows p (Some (value_rule name takes)) x
    value_option word name (Some v) is takes by_id self words rows p read behind f e =
        let before = settled_rows all p rows in
        let after = used (value_rule name takes) (v ∷ []) before in
        let using_it = react_fault all false (value_rule name takes) (v ∷ []) (H rows p) in
        let react = earlier using_it [] (earlier (or_else using_it []) _ f) in
        let got = read after None (later (or_else using_it []) _ f) e in (
          (name, v) ∷ got.0,
          joined is got.1,
          earlier (settle_fault all false (H rows p)) (use_fault false (value_rule name takes) (v ∷ []) before) react,
          one_more (name, v) got.0 before after _ (used_row name takes v before by_id (later (settle_fault all false (H rows p)) (use_fault false (value_rule name takes) (v ∷ []) before) react)) got.3,
          (
            takes,
            by_id,
            later (settle_fault all false (H rows p)) (use_fault false (value_rule name takes) (v ∷ []) before) react,
            subst (λ (rs : List Row). Taken rs got.0) (used_row name takes v before by_id (later (settle_fault all false (H rows p)) (use_fault false (value_rule name takes) (v ∷ []) before) react)) got.4,
          ),
        )
    value_option word name None is takes by_id self [] rows p read behind f e = absurd (unsettled name takes (settled_rows all p rows) by_id e)
    value_option word name None is takes by_id self (v ∷ words) rows p read behind f e =
        let before = settled_rows all p rows in
        let settling = settle_fault all false (H rows p) in
        let got = value_read v words before name takes by_id self behind (later (or_else settling []) _ f) e in (
          (name, v) ∷ got.0,
          apart is got.1,
          earlier settling [] (earlier (or_else settling []) _ f),
          one_more (name, v) got.0 before (settled_rows all (Some (name, v ∷ [])) before) _ (settles name takes v before by_id got.2) got.3,
          (
            takes,
            by_id,
            subst (λ (o : Option Rule). option_map_or (λ a. use_fault false a (v ∷ []) before) o [] ≡ []) by_id got.2,
            subst (λ (rs : List Row). Taken rs got.0) (settles name takes v before by_id got.2) got.4,
          ),
        )

    option_read : (word name : Text) (x : Option Text) → long_of word ≡ Some (name, x) → (o : Option Rule) → IsLongRule name (arg_by_id all name) o
        → (words : List Text) (rows : List Row) (p : Option (Text × List Text)) → Reads words → ReadsBehind words → OptionRead word words rows p o x
    option_read word name x is o (inl none) words rows p read behind =
        subst (λ (r : Option Rule). OptionRead word words rows p r x) (sym none) (λ f e. absurd (faulty kind.UnknownArgument [] f))
    option_read word name (Some y) is o (inr (inl help_is)) words rows p read behind =
        subst (λ (r : Option Rule). OptionRead word words rows p r (Some y)) (sym help_is) (λ f e. absurd (faulty kind.TooManyValues [] f))
    option_read word name None is o (inr (inl help_is)) words rows p read behind =
        subst (λ (r : Option Rule). OptionRead word words rows p r None) (sym help_is)
        (λ f e. absurd (help_is_asked all rows p (earlier (react_fault all false help [] (H rows p)) _ (earlier (or_else (react_fault all false help [] (H rows p)) []) _ f))))
    option_read word name x is o (inr (inr r)) words rows p read behind =
        let rule_is : Some r.0 ≡ Some (value_rule name r.2.0) = ap (λ (a : Rule). Some a) r.2.1 in
        subst (λ (a : Option Rule). OptionRead word words rows p a x) (sym (r.1 ∙ rule_is)) (value_option word name x is r.2.0 (r.2.2 ∙ rule_is) r.2.3 words rows p read behind)

    not_plain : (word : Text) (rest : Kinds) (rows : List Row) (p : Option (Text × List Text)) (o : Option Text)
        → or_else (or_else (option_map_or (λ flags. bundle_fault all false flags (H rows p)) o []) (step_fault s 1 (short_or_plain all idle word o (H rows p)).0 (short_or_plain all idle word o (H rows p)).1)) rest ≡ [] → ⊥
    not_plain word rest rows p None f = stray (H rows p) (earlier (step_fault s 1 (H rows p) lone_word) rest f)
    not_plain word rest rows p (Some flags) f =
        let bundling = bundle_fault all false flags (H rows p) in
        let step = step_fault s 1 (short_word all idle word flags (H rows p)).0 (short_word all idle word flags (H rows p)).1 in
        let turn = earlier (or_else bundling step) rest f in
        let none = earlier bundling step turn in
        let value_step = subst (λ (q : Held × Outcome). step_fault s 1 (after_flag all idle word q.0 q.1).0 (after_flag all idle word q.0 q.1).1 ≡ []) (bundled all short_rule flags rows p none) (later bundling step turn) in
        stray (H rows p) value_step

    turn : (word : Text) (words : List Text) (rows : List Row) (p : Option (Text × List Text)) → Reads words → ReadsBehind words
        → walk_fault s [] (at (H rows p) idle) (word ∷ words) ≡ [] → Ends (at (H rows p) idle) (word ∷ words) → Found (word ∷ words) rows p (rows_at_end (at (H rows p) idle) (word ∷ words))
    unfolding walked walk_fault
    turn word words rows p read behind f e = first (bytes_eq word dashes) refl (long_of word) refl f e
      where
        first : (b : Bool) → bytes_eq word dashes ≡ b → (l : Option (Text × Option Text)) → long_of word ≡ l
            → or_else (or_else (cond b [] (flag_word_fault all false l word (H rows p))) (step_fault s 1 (word_step word (H rows p) idle b l).0 (word_step word (H rows p) idle b l).1)) (walk_fault s [] (after_step all word (at (H rows p) idle) (word_step word (H rows p) idle b l).0 (word_step word (H rows p) idle b l).1) words) ≡ []
            → Ends (after_step all word (at (H rows p) idle) (word_step word (H rows p) idle b l).0 (word_step word (H rows p) idle b l).1) words
            → Found (word ∷ words) rows p (rows_at_end (after_step all word (at (H rows p) idle) (word_step word (H rows p) idle b l).0 (word_step word (H rows p) idle b l).1) words)
        first true is l long g d =
            subst (λ (w : Text). Found (w ∷ words) rows p (rows_at_end (behind_mark (H rows p) idle) words)) (sym ((bytes_eq-Decides word dashes).0 is)) (marked_end words rows p g d)
        first false is (Some q) long g d = option_read word q.0 q.1 long (arg_by_long all q.0) (long_rule q.0) words rows p read behind g d
        first false is None long g d = absurd (not_plain word _ rows p (short_of word) g)

    pub reads : (words : List Text) → Reads words × ReadsBehind words
    unfolding walk_fault
    reads [] = ((λ rows p f e. ([], nothing, e, sym (append-nil (settled_rows all p rows)), tt)), tt)
    reads (w ∷ words) =
        let behind = reads words in
        ((λ rows p f e. turn w words rows p behind.0 behind.1 f e), behind.0)
