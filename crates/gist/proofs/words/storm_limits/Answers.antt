use Rattle.std.proofs.Common.{codes}
use Rattle.clap.specs.Words.{found_of, one_text}
use Rattle.clap.proofs.WalkLemmas.{one_text-rows}
use Rattle.std.specs.Str.Parse.{ParsesUnsigned, ExplainsUnsignedError, HasUnsignedDigitsIfOk}
use Rattle.gist.proofs.Numbers.{number_read}
use Rattle.gist.proofs.words.storm_limits.Goals as goal

pub returns : goal.returns
returns c =
    let found = found_of c.args.options.now in
    record {
      writers = rw (← one_text-rows found (codes "writers")) (number_read (λ bs r. ParsesUnsigned 32 10 bs r × ExplainsUnsignedError 10 bs r × HasUnsignedDigitsIfOk bs r) (λ u x g. g.0) (one_text found (codes "writers")) 4 c.get_one.result c.unwrap_or.result c.get_one.ensures.none c.get_one.ensures.value c.unwrap_or.ensures);
      inserts = rw (← one_text-rows found (codes "inserts")) (number_read (λ bs r. ParsesUnsigned 32 10 bs r × ExplainsUnsignedError 10 bs r × HasUnsignedDigitsIfOk bs r) (λ u x g. g.0) (one_text found (codes "inserts")) 250 c.get_one-2.result c.unwrap_or-2.result c.get_one-2.ensures.none c.get_one-2.ensures.value c.unwrap_or-2.ensures);
      deletes = rw (← one_text-rows found (codes "deletes")) (number_read (λ bs r. ParsesUnsigned 32 10 bs r × ExplainsUnsignedError 10 bs r × HasUnsignedDigitsIfOk bs r) (λ u x g. g.0) (one_text found (codes "deletes")) 0 c.get_one-3.result c.unwrap_or-3.result c.get_one-3.ensures.none c.get_one-3.ensures.value c.unwrap_or-3.ensures);
      readers = rw (← one_text-rows found (codes "readers")) (number_read (λ bs r. ParsesUnsigned 32 10 bs r × ExplainsUnsignedError 10 bs r × HasUnsignedDigitsIfOk bs r) (λ u x g. g.0) (one_text found (codes "readers")) 2 c.get_one-4.result c.unwrap_or-4.result c.get_one-4.ensures.none c.get_one-4.ensures.value c.unwrap_or-4.ensures);
      lookers = rw (← one_text-rows found (codes "lookers")) (number_read (λ bs r. ParsesUnsigned 32 10 bs r × ExplainsUnsignedError 10 bs r × HasUnsignedDigitsIfOk bs r) (λ u x g. g.0) (one_text found (codes "lookers")) 0 c.get_one-5.result c.unwrap_or-5.result c.get_one-5.ensures.none c.get_one-5.ensures.value c.unwrap_or-5.ensures);
      subscribers = rw (← one_text-rows found (codes "subscribers")) (number_read (λ bs r. ParsesUnsigned 32 10 bs r × ExplainsUnsignedError 10 bs r × HasUnsignedDigitsIfOk bs r) (λ u x g. g.0) (one_text found (codes "subscribers")) 0 c.get_one-6.result c.unwrap_or-6.result c.get_one-6.ensures.none c.get_one-6.ensures.value c.unwrap_or-6.ensures);
      room = rw (← one_text-rows found (codes "room")) (number_read (λ bs r. ParsesUnsigned 32 10 bs r × ExplainsUnsignedError 10 bs r × HasUnsignedDigitsIfOk bs r) (λ u x g. g.0) (one_text found (codes "room")) 2 c.get_one-7.result c.unwrap_or-7.result c.get_one-7.ensures.none c.get_one-7.ensures.value c.unwrap_or-7.ensures);
      pumps = rw (← one_text-rows found (codes "pumps")) (number_read (λ bs r. ParsesUnsigned 32 10 bs r × ExplainsUnsignedError 10 bs r × HasUnsignedDigitsIfOk bs r) (λ u x g. g.0) (one_text found (codes "pumps")) 2 c.get_one-8.result c.unwrap_or-8.result c.get_one-8.ensures.none c.get_one-8.ensures.value c.unwrap_or-8.ensures);
      sweeps = rw (← one_text-rows found (codes "sweeps")) (number_read (λ bs r. ParsesUnsigned 32 10 bs r × ExplainsUnsignedError 10 bs r × HasUnsignedDigitsIfOk bs r) (λ u x g. g.0) (one_text found (codes "sweeps")) 0 c.get_one-9.result c.unwrap_or-9.result c.get_one-9.ensures.none c.get_one-9.ensures.value c.unwrap_or-9.ensures);
      seed = rw (← one_text-rows found (codes "seed")) (number_read (λ bs r. ParsesUnsigned 32 10 bs r × ExplainsUnsignedError 10 bs r × HasUnsignedDigitsIfOk bs r) (λ u x g. g.0) (one_text found (codes "seed")) 1 c.get_one-10.result c.unwrap_or-10.result c.get_one-10.ensures.none c.get_one-10.ensures.value c.unwrap_or-10.ensures);
    }
