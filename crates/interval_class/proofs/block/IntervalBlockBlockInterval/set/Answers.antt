use Rattle.std.proofs.Common.{rules, w64, ◌≡◌, length, set, ap}
use Rattle.std.proofs.lemmas.Int.{to_z-of_z}
use mir.Val.{SFits}
use Rattle.interval_class.proofs.Columns.{with_one}
use Rattle.interval_class.proofs.block.IntervalBlockBlockInterval.set.Goals as goal

pub returns : goal.returns
returns c =
    let b = c.args.self.now in
    let q = c.args.item in
    let lo : SFits w64 q.lo = search rules in
    let hi : SFits w64 q.hi = search rules in
    let lows : length b.lows ≡ 8 = search rules in
    let highs : length b.highs ≡ 8 = search rules in
    let low = ap (set b.lows c.args.place) (to_z-of_z w64 q.lo lo) in
    let high = ap (set b.highs c.args.place) (to_z-of_z w64 q.hi hi) in
    search (with_one, lows, highs, low, high, c.requires)
