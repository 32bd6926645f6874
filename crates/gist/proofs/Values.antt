-- The values that clap takes for the options of a table.
use Rattle.std.proofs.Common.{◌≡◌, ◌∙◌, ◌<◌, ◌^◌, ◌||◌, ◌&&◌, ℕ, Bool, true, false, cond, refl, sym, ap, subst, arith, List, [], ◌∷◌, ◌++◌, map, drop, inl, inr, Option, Some, None, codes, true≢false, pos}
use Rattle.std.proofs.lemmas.Int.{ints}
use Rattle.std.specs.Option.{is_some, option_map, unwrap_or}
use Rattle.std.specs.List.{list_any}
use Rattle.std.specs.Prelude.{◌==◌}
use Rattle.std.specs.Str.{bytes_eq}
use Rattle.std.specs.Str.Parse.{IsNumeral, digits_value, starts_with_minus, without_leading_plus}
use Rattle.std.proofs.lemmas.Bool.{ne_eqb}
use Rattle.std.proofs.lemmas.Str.Parse.{digit_from_value}
use Rattle.std.proofs.lemmas.List.{map-append}
use Rattle.std.proofs.lemmas.Slice.Eq.{bytes_eq-Decides}
use Rattle.clap.specs.Words.{IsSignedIn, Row, Rule, Text, without_minus}
use Rattle.clap.specs.Kinds.{or_else, value_kinds}
use Rattle.clap.specs.Values.{refused_kind}
use Rattle.clap.specs.Faults.{repeat_fault, use_fault, values_fault}
use Rattle.clap.specs.ValueTests.{accepts}
use Rattle.clap.specs.Walk.{arg_by_id, has_row}
use Rattle.clap.specs.declared.builder.ValueParser.{ValueParser}
use Rattle.clap.specs.declared.builder.ValueParser.TheVariants as parser
use Rattle.clap.specs.declared.error.ErrorKind.TheVariants as kind
use Rattle.clap.proofs.ValueTestLemmas.{Accepts-accepts, accepts-Accepts}
use Rattle.clap.proofs.WalkLemmas.{list_any-map}
use Rattle.gist.specs.CommandLine.{AreClassNames, ClassNames, NumberGiven, NumberRead, number_of_32_bits, parser_of}
use Rattle.gist.specs.Spelling.{AreOptions, IsClassName, IsNumber, IsOption, IsValueOf, OptionKind, a_class, a_number, kind_named, SpellsNumber, value_of}
use Rattle.gist.proofs.Reading.{Taken, earlier, faulty, help, later, option_row, rules, value_rule}

no_plus : (digits : Text) → IsNumeral 10 digits → without_leading_plus digits ≡ digits
no_plus [] numeral = refl
no_plus (d ∷ digits) numeral =
    let range = digit_from_value d numeral.1.0 in
    let plus : (d == 43) ≡ false = ne_eqb d 43 (λ e. omega (arith, range)) in
    ap (λ (b : Bool). drop (cond b 1 0) (d ∷ digits)) plus

minus_taken_off : (text : Text) → without_minus text ≡ cond (starts_with_minus text) (drop 1 text) text
minus_taken_off [] = refl
minus_taken_off (x ∷ text) = go (x == 45)
  where
    go : (b : Bool) → unwrap_or (cond b (Some text) None) (x ∷ text) ≡ cond b text (x ∷ text)
    go true = refl
    go false = refl

number_spelled : (text : Text) (number : ℕ) → IsSignedIn (pos 0) (pos 4294967295) text → NumberRead (Some (without_minus text)) 0 number → SpellsNumber text number
number_spelled text number passed read = go (starts_with_minus text) refl (subst (λ (t : Text). NumberRead (Some t) 0 number) (minus_taken_off text) read)
  where
    go : (b : Bool) → starts_with_minus text ≡ b → NumberRead (Some (cond (starts_with_minus text) (drop 1 text) text)) 0 number → SpellsNumber text number
    go true minus r =
        let numeral : IsNumeral 10 (drop 1 text) = rw minus at passed.0 in
        let low = rw minus at passed.2 in
        let none : digits_value 10 (drop 1 text) ≡ 0 = omega (arith, ints) in
        let plain = no_plus (drop 1 text) numeral in
        let here = rw minus at r in
        let is : number ≡ 0 = here (rw plain numeral) (rw (plain, none) (omega arith)) ∙ ap (digits_value 10) plain ∙ none in
        record {
          digits = passed.0;
          value = rw (minus, none, is) refl;
          fits = rw is (omega arith);
        }
    go false minus r =
        let numeral : IsNumeral 10 (without_leading_plus text) = rw minus at passed.0 in
        let high = rw minus at passed.3 in
        let small : digits_value 10 (without_leading_plus text) < 2 ^ 32 = omega (arith, ints) in
        let here = rw minus at r in
        let is : number ≡ digits_value 10 (without_leading_plus text) = here numeral small in
        record {
          digits = passed.0;
          value = rw (minus, is) refl;
          fits = rw is small;
        }

accepted : (takes : ValueParser) (value : Text) → value_kinds false takes value ≡ [] → accepts false takes value ≡ true
accepted takes value = go (accepts false takes value)
  where
    go : (b : Bool) → cond b [] (refused_kind takes ∷ []) ≡ [] → b ≡ true
    go true e = refl
    go false e = absurd (faulty (refused_kind takes) [] e)

class_taken : (names : ClassNames) (value : Text) → AreClassNames names → accepts false (parser.Names names) value ≡ true → IsClassName value
class_taken names value are e = go (bytes_eq (codes "interval") value) refl (bytes_eq (codes "box") value) refl (bytes_eq (codes "set") value) refl
    (subst (λ (texts : List Text). list_any (λ (t : Text). bytes_eq t value) texts ≡ true) are (sym (list_any-map (λ (t : Text). bytes_eq t value) (λ name. name.now) names.now) ∙ e))
  where
    go : (a : Bool) → bytes_eq (codes "interval") value ≡ a → (b : Bool) → bytes_eq (codes "box") value ≡ b → (c : Bool) → bytes_eq (codes "set") value ≡ c → (a || (b || (c || false))) ≡ true → IsClassName value
    go true is b f c g h = inl (sym ((bytes_eq-Decides (codes "interval") value).0 is))
    go false e true is c g h = inr (inl (sym ((bytes_eq-Decides (codes "box") value).0 is)))
    go false e false f true is h = inr (inr (sym ((bytes_eq-Decides (codes "set") value).0 is)))
    go false e false f false g h = absurd (true≢false (sym h))

number_taken : (value : Text) → accepts false number_of_32_bits value ≡ true → IsSignedIn (pos 0) (pos 4294967295) value
number_taken value e = accepts-Accepts false number_of_32_bits value e

-- the rule of a name is that of the option which the table has of that name
pub rule_named : (names : ClassNames) (table : List (Text × OptionKind)) (name : Text) (takes : ValueParser) → arg_by_id (rules names table) name ≡ Some (value_rule name takes)
    → (kind : OptionKind) × (kind_named table name ≡ Some kind) × (takes ≡ parser_of names kind)
rule_named names [] name takes = go (bytes_eq (codes "help") name)
  where
    go : (b : Bool) → cond b (Some help) None ≡ Some (value_rule name takes) → (kind : OptionKind) × (None ≡ Some kind) × (takes ≡ parser_of names kind)
    go true e =
        let bad : true ≡ false = ap (λ (o : Option Rule). is_some (unwrap_or o help).short) e in
        absurd (true≢false bad)
    go false e =
        let bad : false ≡ true = ap (λ (o : Option Rule). is_some o) e in
        absurd (true≢false (sym bad))
rule_named names (o ∷ table) name takes = go (bytes_eq o.0 name) (rule_named names table name takes)
  where
    own : ValueParser
    own = parser_of names o.1

    go : (b : Bool) → (arg_by_id (rules names table) name ≡ Some (value_rule name takes) → (kind : OptionKind) × (kind_named table name ≡ Some kind) × (takes ≡ parser_of names kind))
        → cond b (Some (value_rule o.0 own)) (arg_by_id (rules names table) name) ≡ Some (value_rule name takes)
        → (kind : OptionKind) × (cond b (Some o.1) (kind_named table name) ≡ Some kind) × (takes ≡ parser_of names kind)
    go true rest e = (o.1, refl, sym (ap (λ (r : Option Rule). unwrap_or (unwrap_or r (value_rule o.0 own)).parser own) e))
    go false rest e = rest e

-- an option of the table has a rule, which its name finds
rule_there : (names : ClassNames) (table : List (Text × OptionKind)) (name : Text) (kind : OptionKind) → kind_named table name ≡ Some kind → arg_by_id (rules names table) name ≡ Some (value_rule name (parser_of names kind))
rule_there names [] name kind e =
    let bad : false ≡ true = ap (λ (o : Option OptionKind). is_some o) e in
    absurd (true≢false (sym bad))
rule_there names (o ∷ table) name kind e = go (bytes_eq o.0 name) refl e (rule_there names table name kind)
  where
    go : (b : Bool) → bytes_eq o.0 name ≡ b → cond b (Some o.1) (kind_named table name) ≡ Some kind
        → (kind_named table name ≡ Some kind → arg_by_id (rules names table) name ≡ Some (value_rule name (parser_of names kind)))
        → cond b (Some (value_rule o.0 (parser_of names o.1))) (arg_by_id (rules names table) name) ≡ Some (value_rule name (parser_of names kind))
    go true is f rest =
        ap (λ (n : Text). Some (value_rule n (parser_of names o.1))) ((bytes_eq-Decides o.0 name).0 is)
        ∙ ap (λ (k : Option OptionKind). Some (value_rule name (parser_of names (unwrap_or k o.1)))) f
    go false is f rest = rest f

-- a value that was used passes its parser
value_accepted : (name : Text) (takes : ValueParser) (value : Text) (rows : List Row) → use_fault false (value_rule name takes) (value ∷ []) rows ≡ [] → accepts false takes value ≡ true
value_accepted name takes value rows e =
    accepted takes value (earlier (value_kinds false takes value) [] (later (repeat_fault false name rows) (values_fault (value_rule name takes) (value ∷ [])) e))

unused : (name : Text) (takes : ValueParser) (value : Text) (rows : List Row) → use_fault false (value_rule name takes) (value ∷ []) rows ≡ [] → has_row name rows ≡ false
unused name takes value rows e = go (has_row name rows) (earlier (repeat_fault false name rows) (values_fault (value_rule name takes) (value ∷ [])) e)
  where
    go : (b : Bool) → cond (b && true) (kind.ArgumentConflict ∷ []) [] ≡ [] → b ≡ false
    go true h = absurd (faulty kind.ArgumentConflict [] h)
    go false h = refl

number_there : (value : Text) → IsSignedIn (pos 0) (pos 4294967295) value → IsNumber value
number_there value passed = go (starts_with_minus value) refl
  where
    go : (b : Bool) → starts_with_minus value ≡ b → IsNumber value
    go true minus =
        let low = rw minus at passed.2 in
        let none : digits_value 10 (drop 1 value) ≡ 0 = omega (arith, ints) in
        (0, record { digits = passed.0; value = rw (minus, none) refl; fits = omega arith })
    go false minus =
        let high = rw minus at passed.3 in
        (digits_value 10 (without_leading_plus value), record { digits = passed.0; value = rw minus refl; fits = omega (arith, ints) })

kind_taken : (names : ClassNames) (kind : OptionKind) (value : Text) → AreClassNames names → accepts false (parser_of names kind) value ≡ true → IsValueOf kind value
kind_taken names a_class value are e = class_taken names value are e
kind_taken names a_number value are e = number_there value (number_taken value e)

option_taken : (names : ClassNames) (table : List (Text × OptionKind)) (name : Text) (takes : ValueParser) (value : Text) → AreClassNames names
    → arg_by_id (rules names table) name ≡ Some (value_rule name takes) → accepts false takes value ≡ true → IsOption table (name, value)
option_taken names table name takes value are by_id e =
    let r = rule_named names table name takes by_id in
    (r.0, r.1, kind_taken names r.0 value are (subst (λ (p : ValueParser). accepts false p value ≡ true) r.2 e))

seen_rows : (names : ClassNames) (table : List (Text × OptionKind)) (name : Text) (seen : List (Text × Text)) → has_row name (map (option_row names table) seen) ≡ list_any (λ (n : Text). bytes_eq n name) (map (λ (o : Text × Text). o.0) seen)
seen_rows names table name [] = refl
seen_rows names table name (o ∷ seen) = ap (λ (b : Bool). bytes_eq o.0 name || b) (seen_rows names table name seen)

pub are_options : (names : ClassNames) (table : List (Text × OptionKind)) (seen given : List (Text × Text)) → AreClassNames names → Taken names table (map (option_row names table) seen) given → AreOptions table (map (λ (o : Text × Text). o.0) seen) given
are_options names table seen [] are taken = tt
are_options names table seen (o ∷ given) are taken =
    let rows = map (option_row names table) seen in
    let rest = subst (λ (rs : List Row). Taken names table rs given) (sym (map-append (option_row names table) seen (o ∷ []))) taken.3 in (
      option_taken names table o.0 taken.0 o.1 are taken.1 (value_accepted o.0 taken.0 o.1 rows taken.2),
      sym (seen_rows names table o.0 seen) ∙ unused o.0 taken.0 o.1 rows taken.2,
      subst (λ (ns : List Text). AreOptions table ns given) (map-append (λ (p : Text × Text). p.0) seen (o ∷ [])) (are_options names table (seen ++ o ∷ []) given are rest),
    )

-- the number that the words give an option was taken by its parser
number_passed : (names : ClassNames) (table : List (Text × OptionKind)) (name : Text) (rows : List Row) (given : List (Text × Text)) → arg_by_id (rules names table) name ≡ Some (value_rule name number_of_32_bits) → Taken names table rows given
    → (value : Text) → value_of name given ≡ Some value → IsSignedIn (pos 0) (pos 4294967295) value
number_passed names table name rows [] by_id taken value e =
    let bad : false ≡ true = ap (λ (o : Option Text). is_some o) e in
    absurd (true≢false (sym bad))
number_passed names table name rows (o ∷ given) by_id taken value e = go (bytes_eq o.0 name) refl e (number_passed names table name (rows ++ option_row names table o ∷ []) given by_id taken.3 value)
  where
    go : (b : Bool) → bytes_eq o.0 name ≡ b → cond b (Some o.1) (value_of name given) ≡ Some value → (value_of name given ≡ Some value → IsSignedIn (pos 0) (pos 4294967295) value) → IsSignedIn (pos 0) (pos 4294967295) value
    go true is v rest =
        let own = (bytes_eq-Decides o.0 name).0 is in
        let found : Some (value_rule o.0 taken.0) ≡ Some (value_rule name number_of_32_bits) = sym taken.1 ∙ ap (arg_by_id (rules names table)) own ∙ by_id in
        let takes : taken.0 ≡ number_of_32_bits = ap (λ (r : Option Rule). unwrap_or (unwrap_or r (value_rule o.0 taken.0)).parser taken.0) found in
        let passed = value_accepted o.0 taken.0 o.1 rows taken.2 in
        let same : o.1 ≡ value = ap (λ (t : Option Text). unwrap_or t o.1) v in
        subst (λ (t : Text). IsSignedIn (pos 0) (pos 4294967295) t) same (number_taken o.1 (subst (λ (p : ValueParser). accepts false p o.1 ≡ true) takes passed))
    go false is v rest = rest v

pub number_given : (names : ClassNames) (table : List (Text × OptionKind)) (name : Text) (given : List (Text × Text)) (usual number : ℕ) → arg_by_id (rules names table) name ≡ Some (value_rule name number_of_32_bits) → Taken names table [] given
    → NumberRead (option_map without_minus (value_of name given)) usual number → NumberGiven (value_of name given) usual number
number_given names table name given usual number by_id taken = go (value_of name given) refl
  where
    go : (o : Option Text) → value_of name given ≡ o → NumberRead (option_map without_minus o) usual number → NumberGiven o usual number
    go None e r = r
    go (Some text) e r = number_spelled text number (number_passed names table name [] given by_id taken text e) r

class_accepted : (names : ClassNames) (value : Text) → AreClassNames names → IsClassName value → accepts false (parser.Names names) value ≡ true
class_accepted names value are is =
    list_any-map (λ (t : Text). bytes_eq t value) (λ name. name.now) names.now
    ∙ ap (list_any (λ (t : Text). bytes_eq t value)) are ∙ go is
  where
    go : IsClassName value → list_any (λ (t : Text). bytes_eq t value) (codes "interval" ∷ codes "box" ∷ codes "set" ∷ []) ≡ true
    go (inl e) = subst (λ (v : Text). list_any (λ (t : Text). bytes_eq t v) (codes "interval" ∷ codes "box" ∷ codes "set" ∷ []) ≡ true) (sym e) refl
    go (inr (inl e)) = subst (λ (v : Text). list_any (λ (t : Text). bytes_eq t v) (codes "interval" ∷ codes "box" ∷ codes "set" ∷ []) ≡ true) (sym e) refl
    go (inr (inr e)) = subst (λ (v : Text). list_any (λ (t : Text). bytes_eq t v) (codes "interval" ∷ codes "box" ∷ codes "set" ∷ []) ≡ true) (sym e) refl

number_accepted : (value : Text) (number : ℕ) → SpellsNumber value number → accepts false number_of_32_bits value ≡ true
number_accepted value number spells =
    let small = spells.fits in
    Accepts-accepts false number_of_32_bits value (spells.digits, rw spells.value (omega (arith, ints)), rw spells.value (omega (arith, ints)), rw spells.value (omega (arith, ints)))

used_well : (name : Text) (takes : ValueParser) (value : Text) (rows : List Row) → has_row name rows ≡ false → accepts false takes value ≡ true → use_fault false (value_rule name takes) (value ∷ []) rows ≡ []
used_well name takes value rows free passes =
    subst (λ (b : Bool). or_else (cond (b && true) (kind.ArgumentConflict ∷ []) []) (values_fault (value_rule name takes) (value ∷ [])) ≡ []) (sym free)
    (subst (λ (b : Bool). or_else (cond b [] (refused_kind takes ∷ [])) [] ≡ []) (sym passes) refl)

kind_accepted : (names : ClassNames) (kind : OptionKind) (value : Text) → AreClassNames names → IsValueOf kind value → accepts false (parser_of names kind) value ≡ true
kind_accepted names a_class value are is = class_accepted names value are is
kind_accepted names a_number value are is = number_accepted value is.0 is.1

-- the parser of an option, which takes its value
parser_there : (names : ClassNames) (table : List (Text × OptionKind)) (o : Text × Text) → AreClassNames names → IsOption table o
    → (takes : ValueParser) × (arg_by_id (rules names table) o.0 ≡ Some (value_rule o.0 takes)) × (accepts false takes o.1 ≡ true)
parser_there names table o are option =
    (parser_of names option.0, rule_there names table o.0 option.0 option.1, kind_accepted names option.0 o.1 are option.2)

pub are_taken : (names : ClassNames) (table : List (Text × OptionKind)) (seen given : List (Text × Text)) → AreClassNames names → AreOptions table (map (λ (o : Text × Text). o.0) seen) given → Taken names table (map (option_row names table) seen) given
are_taken names table seen [] are options = tt
are_taken names table seen (o ∷ given) are options =
    let there = parser_there names table o are options.0 in
    let rows = map (option_row names table) seen in
    let rest = are_taken names table (seen ++ o ∷ []) given are (subst (λ (ns : List Text). AreOptions table ns given) (sym (map-append (λ (p : Text × Text). p.0) seen (o ∷ []))) options.2) in
    (there.0, there.1, used_well o.0 there.0 o.1 rows (seen_rows names table o.0 seen ∙ options.1) there.2, subst (λ (rs : List Row). Taken names table rs given) (map-append (option_row names table) seen (o ∷ [])) rest)
