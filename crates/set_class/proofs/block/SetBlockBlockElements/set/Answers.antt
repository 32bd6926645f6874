use Rattle.std.proofs.Common.{rules, ◌≡◌, length, set, ap}
use Rattle.set_class.proofs.Columns.{with_one}
use Rattle.set_class.proofs.block.SetBlockBlockElements.set.Goals as goal

pub returns : goal.returns
returns c =
    let b = c.args.self.now in
    let all_lowers : length b.lowers ≡ 8 = search rules in
    let all_uppers : length b.uppers ≡ 8 = search rules in
    let lowers = ap (set b.lowers c.args.place) c.lower.ensures in
    let uppers = ap (set b.uppers c.args.place) c.upper.ensures in
    search (with_one, all_lowers, all_uppers, lowers, uppers, c.requires)
