use Rattle.std.proofs.Common.{rules, Ok, Err}
use Rattle.libgist.specs.Configs.{config_of}
use Rattle.libgist.specs.Renewal.{IsRenewal}
use Rattle.libgist.proofs.renewal.renew_from.Goals as goal

pub returns-in-Ok-clause-made : goal.returns-in-Ok-clause-made
returns-in-Ok-clause-made c =
    let renewal : IsRenewal (config_of c.args.limits.now) c.in-Some.held.now (Ok c.in-Ok.anew.store) = search rules in
    record {
      full = search rules;
      made = λ free. record { made = Ok c.in-Ok.anew.store; is = rw c.in-Some.ensures.some renewal; settles = c.settle_anew.ensures.settled };
    }

pub returns-in-Err-clause-made : goal.returns-in-Err-clause-made
returns-in-Err-clause-made c =
    let renewal : IsRenewal (config_of c.args.limits.now) c.in-Some.held.now (Err c.in-Err.why) = search rules in
    record {
      full = search rules;
      made = λ free. record { made = Err c.in-Err.why; is = rw c.in-Some.ensures.some renewal; settles = search rules };
    }
