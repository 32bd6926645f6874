use Rattle.std.proofs.Common.{rules, w32, FitsSigned}
use Rattle.std.proofs.lemmas.Int.{to_z-of_z}
use Rattle.libgist.proofs.Ends.{box_with, box_without}
use Rattle.libgist.proofs.keys.box_key.Goals as goal

pub returns-in-Ok : goal.returns-in-Ok
returns-in-Ok c =
    let x1 : FitsSigned w32 c.args.x1 = search rules in
    let y1 : FitsSigned w32 c.args.y1 = search rules in
    let x2 : FitsSigned w32 c.args.x2 = search rules in
    let y2 : FitsSigned w32 c.args.y2 = search rules in
    box_with c.args.x1 c.args.y1 c.args.x2 c.args.y2 c.in-Ok.key (simp to_z-of_z at c.in-Ok.ensures.across.0) (simp to_z-of_z at c.in-Ok.ensures.across.1) (simp to_z-of_z at c.in-Ok.ensures.along.0) (simp to_z-of_z at c.in-Ok.ensures.along.1)

pub returns-in-Err : goal.returns-in-Err
returns-in-Err c = box_without c.args.x1 c.args.y1 c.args.x2 c.args.y2 (search rules)
