use Rattle.std.proofs.Common.{rules, ◌≡◌, ◌∙◌, ap, length, arith, ◌%◌, ◌^◌, ◌&&◌}
use lib.Lanes.{mask_l}
use Rattle.key_class.specs.BlockLaws.{eight_lanes}
use Rattle.set_class.specs.Blocks.{set_at}
use Rattle.set_class.specs.Sets.{is_cover}
use Rattle.set_class.proofs.Compared.{alike_told}
use Rattle.set_class.proofs.lanes.alike.Goals as goal

pub returns : goal.returns
returns c =
    let b = c.args.keys.now in
    let q = c.args.operand in
    let lowers : length b.lowers ≡ 8 = search rules in
    let uppers : length b.uppers ≡ 8 = search rules in
    ap (λ ms. mask_l ms % 2 ^ 64) (alike_told b lowers uppers c.are_in_range.ensures c.are_in_range-2.ensures q (omega arith) c.lower.ensures c.upper.ensures)
    ∙ eight_lanes (λ k. is_cover q k && is_cover k q) (set_at b)
