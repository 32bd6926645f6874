use Rattle.std.proofs.Common.{◌∙◌, ap, codes}
use Rattle.clap.specs.Words.{found_of, one_text}
use Rattle.clap.proofs.WalkLemmas.{first_value-rows, one_text-rows}
use Rattle.std.specs.Str.Parse.{ParsesUnsigned, ExplainsUnsignedError, HasUnsignedDigitsIfOk}
use Rattle.gist.specs.CommandLine.{class_named}
use Rattle.gist.proofs.Numbers.{number_read}
use Rattle.gist.proofs.words.store_options.Goals as goal

pub returns : goal.returns
returns c =
    let found = found_of c.args.options.now in
    record {
      class = c.class_of.ensures ∙ ap class_named (first_value-rows found (codes "class"));
      fan = rw (← one_text-rows found (codes "fan")) (number_read (λ bs r. ParsesUnsigned 32 10 bs r × ExplainsUnsignedError 10 bs r × HasUnsignedDigitsIfOk bs r) (λ u x g. g.0) (one_text found (codes "fan")) 8 c.get_one.result c.unwrap_or.result c.get_one.ensures.none c.get_one.ensures.value c.unwrap_or.ensures);
      least = rw (← one_text-rows found (codes "least")) (number_read (λ bs r. ParsesUnsigned 32 10 bs r × ExplainsUnsignedError 10 bs r × HasUnsignedDigitsIfOk bs r) (λ u x g. g.0) (one_text found (codes "least")) 3 c.get_one-2.result c.unwrap_or-2.result c.get_one-2.ensures.none c.get_one-2.ensures.value c.unwrap_or-2.ensures);
    }
