-- Words that have no fault name a command.
use Rattle.std.proofs.Common.{◌≡◌, ◌∙◌, Bool, true, false, refl, ap, arith, List, [], ◌∷◌, length, ◌⊎◌, inl, inr}
use Rattle.clap.specs.Words.{App, IsAmong, Kinds, Row, Rule, Shape, Text, fault_of, is_simple, is_simple_and_free, new_app, with_subcommand}
use Rattle.clap.specs.declared.error.ErrorKind.{ErrorKind}
use Rattle.clap.specs.declared.error.ErrorKind.TheVariants.{OutOfMemory}
use Rattle.clap.proofs.OnLiterals.{clap_on_literals}
use Rattle.clap.specs.Kinds.{or_else}
use Rattle.clap.specs.Faults.{check_fault, defaults_fault, level_fault, settle_fault, walk_fault}
use Rattle.clap.specs.Simple.{built, new_shape}
use Rattle.clap.specs.Walk.{Held, Names, finished, settled, walk, walk_from}
use Rattle.gist.specs.CommandLine.{ClassNames, IsGistLine, Refuses, gist_line, program}

second : (a b : Kinds) → or_else a b ≡ [] → b ≡ []
second [] b e = e
second (k ∷ ks) b e =
    let bad : length (k ∷ ks) ≡ 0 = ap length e in
    absurd (omega (arith, bad))

-- a shape that passes the last checks was given the subcommand that it requires
pub checked : (s : Shape) (rows : List Row) (b : Bool) → s.subcommand_required ≡ true → s.arg_required_else_help ≡ false → check_fault s rows b ≡ [] → b ≡ true
checked s rows true wanted help e = refl
checked s rows false wanted help e =
    let f = rw (wanted, help) at e in
    let bad : 1 ≡ 0 = ap length f in
    absurd (omega (arith, bad))

pub last_checks : (s : Shape) (names : Names) (h : Held) (words : List Text) (has : Bool) (below : Kinds) → level_fault s names h words has below ≡ []
    → check_fault s (finished s.rules (walk s.rules names h words).held) has ≡ []
last_checks s names h words has below e =
    let end = (walk s.rules names h words).held in
    let checks = check_fault s (finished s.rules end) has in
    let defaults = defaults_fault (settled s.rules end).rows s.rules in
    let settling = settle_fault s.rules s.args_override_self end in
    second defaults checks (second settling (or_else defaults checks)
    (second below (or_else settling (or_else defaults checks))
    (second (walk_fault s names (walk_from h) words) (or_else below (or_else settling (or_else defaults checks))) e)))

abbrev pub first : List Shape → Shape
first [] = new_shape []
first (s ∷ ss) = s

-- a command with these rules, as it is built
abbrev pub shape_with : List Rule → Text → Shape
shape_with rules command = record (first (built (with_subcommand program (new_app command).top)).subs) { rules = rules }

pub is_plain : (names : ClassNames) → is_simple (gist_line names) ≡ true
unfolding clap_on_literals
is_plain names = refl

pub is_free : (names : ClassNames) → is_simple_and_free (gist_line names) ≡ true
unfolding clap_on_literals
is_free names = refl

pub refuses : (line : App) (words : List Text) (kind : ErrorKind) → IsGistLine line
    → (is_simple_and_free line ≡ true → (kind ≡ OutOfMemory) ⊎ IsAmong kind (fault_of line words))
    → (kind ≡ OutOfMemory → ⊥) → Refuses words kind
refuses line words kind gist fails memory =
    let free : is_simple_and_free line ≡ true = ap is_simple_and_free gist.2 ∙ is_free gist.0 in
    elim (fails free) [
      | inl m ↦ absurd (memory m)
      | inr among ↦ (line, gist, among)
    ]
