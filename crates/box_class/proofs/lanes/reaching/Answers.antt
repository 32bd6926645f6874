use Rattle.std.proofs.Common.{rules, w32, ◌≡◌, ◌∙◌, ap, length}
use Rattle.std.specs.Prelude.{◌%◌, ◌^◌, int_le, ◌&&◌}
use mir.Val.{SFits}
use lib.Lanes.{mask_l}
use Rattle.key_class.specs.BlockLaws.{eight_lanes}
use Rattle.box_class.specs.Blocks.{box_at}
use Rattle.box_class.proofs.Compared.{reaching_told}
use Rattle.box_class.proofs.lanes.reaching.Goals as goal

pub returns : goal.returns
returns c =
    let b = c.args.keys.now in
    let x_most = c.args.x_most.now in
    let fits_x_most : SFits w32 x_most = search rules in
    let x_least = c.args.x_least.now in
    let fits_x_least : SFits w32 x_least = search rules in
    let y_most = c.args.y_most.now in
    let fits_y_most : SFits w32 y_most = search rules in
    let y_least = c.args.y_least.now in
    let fits_y_least : SFits w32 y_least = search rules in
    let lefts : length b.lefts ≡ 8 = search rules in
    let rights : length b.rights ≡ 8 = search rules in
    let lows : length b.lows ≡ 8 = search rules in
    let highs : length b.highs ≡ 8 = search rules in
    ap (λ ms. mask_l ms % 2 ^ 64) (reaching_told x_most x_least y_most y_least fits_x_most fits_x_least fits_y_most fits_y_least b lefts rights lows highs c.are_in_range.ensures c.are_in_range-2.ensures c.are_in_range-3.ensures c.are_in_range-4.ensures)
    ∙ eight_lanes (λ k. (int_le k.x1 x_most && int_le x_least k.x2) && (int_le k.y1 y_most && int_le y_least k.y2)) (box_at b)
