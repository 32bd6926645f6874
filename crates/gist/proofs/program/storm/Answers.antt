use Rattle.std.proofs.Common.{refl}
use Rattle.gist.proofs.program.storm.Goals as goal

pub returns-then-is_whole-clause-ok : goal.returns-then-is_whole-clause-ok
returns-then-is_whole-clause-ok g c = λ well.
    record {
      outcome = c.in-Ok.outcome;
      within = c.in-Ok.ensures.within;
      true_outcome = c.in-Ok.ensures.told;
      whole = c.if-is_whole.ensures.0 refl;
      told = c.in-Ok-tell_storm.ensures;
    }
