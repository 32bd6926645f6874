use Rattle.std.proofs.Common.{◌≡◌, ◌∙◌, ◌&&◌, Bool, ap, ap₂, codes, false, not, refl, sym, true, true≢false}
use Rattle.std.proofs.lemmas.Result.{IfOk-weaker}
use Rattle.clap.specs.Words.{App, app_of, with_subcommand}
use Rattle.gist.specs.CommandLine.{AreClassNames, program, store_command, storm_command, with_store_commands}
use Rattle.gist.proofs.words.command_line.Goals as goal

abbrev asking : App → App
asking a = record a { top = record a.top { has_version = true; subcommand_required = true; disable_help_subcommand = true } }

-- a plain command has no global argument
no_globals : (groups external globals rest : Bool) → (groups && (external && (not globals && rest))) ≡ true → globals ≡ false
no_globals true true false rest plain = refl
no_globals true true true rest plain = absurd (true≢false (sym plain))
no_globals true false globals rest plain = absurd (true≢false (sym plain))
no_globals false external globals rest plain = absurd (true≢false (sym plain))

pub returns : goal.returns
returns c =
    let classes = c.class_names-classes.result in
    let named : AreClassNames classes = c.class_names-classes.ensures in
    let serve_is : app_of c.after_help-serve.result ≡ store_command classes (codes "serve") = rw (c.after_help-serve.ensures, c.about.ensures) c.in_ok-store_command.ensures in
    let replay_is : app_of c.after_help-replay.result ≡ store_command classes (codes "replay") = rw (c.after_help-replay.ensures, c.about-2.ensures) c.in_ok-store_command-2.ensures in
    let program_is : app_of c.disable_help_subcommand.result ≡ program =
    rw (c.disable_help_subcommand.ensures, c.subcommand_required.ensures, c.after_help.ensures, c.about-4.ensures, c.version.ensures) (ap asking c.new.ensures.app) in
    let one_is : app_of c.in_ok-subcommand.field-0 ≡ with_subcommand program (store_command classes (codes "serve")).top =
    c.in_ok-subcommand.ensures.shape (no_globals _ _ _ _ (ap (λ (a : App). a.top.is_plain) serve_is)) ∙ ap₂ with_subcommand program_is (ap (λ (a : App). a.top) serve_is) in
    let two_are : app_of c.in_ok-subcommand-2.field-0 ≡ with_store_commands classes =
    c.in_ok-subcommand-2.ensures.shape (no_globals _ _ _ _ (ap (λ (a : App). a.top.is_plain) replay_is)) ∙ ap₂ with_subcommand one_is (ap (λ (a : App). a.top) replay_is) in
    let storm_is : app_of c.after_help-storm.result ≡ storm_command classes = rw (c.after_help-storm.ensures, c.about-3.ensures) (c.in_ok-storm_command.ensures classes) in
    IfOk-weaker c.subcommand-3.result _ _ (λ line added. (
      classes,
      named,
      added.shape (no_globals _ _ _ _ (ap (λ (a : App). a.top.is_plain) storm_is)) ∙ ap₂ with_subcommand two_are (ap (λ (a : App). a.top) storm_is),
    )) c.subcommand-3.ensures
