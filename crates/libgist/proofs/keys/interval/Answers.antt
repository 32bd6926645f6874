use Rattle.std.proofs.Common.{rules, w64, FitsSigned}
use Rattle.std.proofs.lemmas.Int.{to_z-of_z}
use Rattle.libgist.proofs.Ends.{interval_with, interval_without}
use Rattle.libgist.proofs.keys.interval.Goals as goal

pub returns-in-Ok : goal.returns-in-Ok
returns-in-Ok c =
    let lo : FitsSigned w64 c.args.lo = search rules in
    let hi : FitsSigned w64 c.args.hi = search rules in
    interval_with c.args.lo c.args.hi c.in-Ok.key (simp to_z-of_z at c.in-Ok.ensures.ends.0) (simp to_z-of_z at c.in-Ok.ensures.ends.1)

pub returns-in-Err : goal.returns-in-Err
returns-in-Err c =
    let lo : FitsSigned w64 c.args.lo = search rules in
    let hi : FitsSigned w64 c.args.hi = search rules in
    interval_without c.args.lo c.args.hi (search rules)
