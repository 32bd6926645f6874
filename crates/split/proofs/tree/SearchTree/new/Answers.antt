use Rattle.std.proofs.Common.{◌≤◌, ◌/◌, arith}
use Rattle.key_class.specs.Limits.{least_part, most_fan, most_pages}
use Rattle.split.proofs.NewSearchTree.{new_search_tree}
use Rattle.split.proofs.tree.SearchTree.new.Goals as goal

pub invariant_of-result : goal.invariant_of-result
invariant_of-result g c =
    let two : least_part ≤ c.args.least = omega (arith, c.if-least-from.false, c.from-else-from-fan.ensures) in
    let half : c.args.least ≤ c.args.fan / 2 = omega arith in
    let few_entries : c.args.fan ≤ most_fan = omega (arith, c.if-from-fan.false, c.from-else-fan-from.ensures) in
    let few_pages : c.args.limit ≤ most_pages = omega (arith, c.if-from-limit.false, c.from-else-limit-lt1.ensures) in
    new_search_tree g.C.KeyClass.rules.is_cover c.in_ok-table.table c.args.fan c.args.least c.args.limit c.in_ok-table.ensures
    few_entries two half c.if-limit-lt1.false few_pages
