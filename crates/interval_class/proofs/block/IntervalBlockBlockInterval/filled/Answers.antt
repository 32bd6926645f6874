use Rattle.std.proofs.Common.{rules, w64, ap}
use Rattle.std.proofs.lemmas.Int.{to_z-of_z}
use Rattle.std.specs.Prelude.{replicate}
use mir.Val.{SFits}
use Rattle.interval_class.proofs.Columns.{filled}
use Rattle.interval_class.proofs.block.IntervalBlockBlockInterval.filled.Goals as goal

pub returns : goal.returns
returns c =
    let q = c.args.item in
    let lo : SFits w64 q.lo = search rules in
    let hi : SFits w64 q.hi = search rules in
    let lows = ap (replicate 8) (to_z-of_z w64 q.lo lo) in
    let highs = ap (replicate 8) (to_z-of_z w64 q.hi hi) in
    search (filled, lows, highs)
