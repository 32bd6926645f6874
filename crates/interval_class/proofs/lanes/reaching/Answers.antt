use Rattle.std.proofs.Common.{rules, w64, ◌≡◌, ◌∙◌, ap, length}
use Rattle.std.specs.Prelude.{◌%◌, ◌^◌, int_le, ◌&&◌}
use mir.Val.{SFits}
use Rattle.interval_class.specs.Blocks.{interval_at}
use lib.Lanes.{mask_l}
use Rattle.key_class.specs.BlockLaws.{eight_lanes}
use Rattle.interval_class.proofs.Compared.{reaching_told}
use Rattle.interval_class.proofs.lanes.reaching.Goals as goal

pub returns : goal.returns
returns c =
    let b = c.args.keys.now in
    let most = c.args.most.now in
    let least = c.args.least.now in
    let fits_most : SFits w64 most = search rules in
    let fits_least : SFits w64 least = search rules in
    let lows : length b.lows ≡ 8 = search rules in
    let highs : length b.highs ≡ 8 = search rules in
    ap (λ ms. mask_l ms % 2 ^ 64) (reaching_told most least fits_most fits_least b lows highs c.are_in_range.ensures c.are_in_range-2.ensures)
    ∙ eight_lanes (λ k. int_le k.lo most && int_le least k.hi) (interval_at b)
