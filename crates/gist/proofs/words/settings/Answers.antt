use Rattle.std.proofs.Common.{◌≡◌, ◌∙◌, Option, Some, None, refl}
use Rattle.std.specs.Option.{option_map}
use Rattle.std.proofs.lemmas.Result.{err_from_is_err_and}
use Rattle.clap.specs.Words.{app_of, found_of, kind_of, rows_of, subcommand_rows_of}
use Rattle.gist.specs.CommandLine.{texts_of}
use Rattle.gist.proofs.Giving.{Meets, gives, meets, names_command}
use Rattle.gist.proofs.Serving.{refuses}
use Rattle.gist.proofs.Taking.{only_memory}
use Rattle.gist.proofs.words.settings.Goals as goal

fused : {A B C : Type 0} (f : A → B) (g : B → C) (o : Option A) → option_map (λ a. g (f a)) o ≡ option_map g (option_map f o)
fused f g None = refl
fused f g (Some a) = refl

pub returns-in_err-matches-clause-refused : goal.returns-in_err-matches-clause-refused
returns-in_err-matches-clause-refused c =
    let p = err_from_is_err_and c.from_residual-in_err-matches.result c.from_residual-in_err-matches.ensures.1 in
    rw (p.1, p.2) (refuses (app_of c.in_ok-command_line.field-0) (texts_of c.args.words.now) (kind_of c.in_err-matches.field-0.0) c.in_ok-command_line.ensures c.in_err-matches.ensures.kinds)

pub returns-in_err-matches-clause-taken : goal.returns-in_err-matches-clause-taken
returns-in_err-matches-clause-taken c well =
    let p = err_from_is_err_and c.from_residual-in_err-matches.result c.from_residual-in_err-matches.ensures.1 in
    rw (p.1, p.2) (only_memory (app_of c.in_ok-command_line.field-0) (texts_of c.args.words.now) (kind_of c.in_err-matches.field-0.0) c.in_ok-command_line.ensures c.in_err-matches.ensures.kinds well)

pub settings_of-requires : goal.settings_of-requires
settings_of-requires c =
    let words = texts_of c.args.words.now in
    let met = subcommand_rows_of c.in_ok-matches.matches in
    let m : Meets words met = meets (app_of c.in_ok-command_line.field-0) words met c.in_ok-command_line.ensures c.in_ok-matches.ensures.kinds (λ simple. (c.in_ok-matches.ensures.matches simple).1) in
    names_command words met c.in-Some.command.now m (c.in-Some.ensures.name ∙ fused _ _ _)

pub returns-clause-given : goal.returns-clause-given
returns-clause-given c =
    let words = texts_of c.args.words.now in
    let met = subcommand_rows_of c.in_ok-matches.matches in
    let m : Meets words met = meets (app_of c.in_ok-command_line.field-0) words met c.in_ok-command_line.ensures c.in_ok-matches.ensures.kinds (λ simple. (c.in_ok-matches.ensures.matches simple).1) in
    gives words met c.in-Some.command.now (rows_of (found_of c.in-Some.options.now)) m (c.in-Some.ensures.name ∙ fused _ _ _) c.in-Some.ensures.rows c.settings_of.result c.settings_of.ensures
