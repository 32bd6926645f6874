use Rattle.std.proofs.Common.{rules, w32, ap}
use Rattle.std.proofs.lemmas.Int.{to_z-of_z}
use Rattle.std.specs.Prelude.{replicate}
use mir.Val.{SFits}
use Rattle.box_class.proofs.Columns.{filled}
use Rattle.box_class.proofs.block.BoxBlockBlockBoxKey.filled.Goals as goal

pub returns : goal.returns
returns c =
    let q = c.args.item in
    let fits_x1 : SFits w32 q.x1 = search rules in
    let fits_y1 : SFits w32 q.y1 = search rules in
    let fits_x2 : SFits w32 q.x2 = search rules in
    let fits_y2 : SFits w32 q.y2 = search rules in
    let lefts = ap (replicate 8) (to_z-of_z w32 q.x1 fits_x1) in
    let lows = ap (replicate 8) (to_z-of_z w32 q.y1 fits_y1) in
    let rights = ap (replicate 8) (to_z-of_z w32 q.x2 fits_x2) in
    let highs = ap (replicate 8) (to_z-of_z w32 q.y2 fits_y2) in
    search (filled, lefts, lows, rights, highs)
