use Rattle.std.proofs.Common.{◌≤◌, length}
use Rattle.map.specs.Items.{number_of}
use Rattle.map.proofs.Found.{each_at}
use Rattle.map.proofs.map_snapshot.map_items.Goals as goal

pub map_item-requires-clause-number : goal.map_item-requires-clause-number
map_item-requires-clause-number g c = each_at (λ i. number_of i ≤ length c.args.snapshot.now) c.args.items.now c.renumbering.item-index c.item-item.result c.requires.numbers c.renumbering-test.true c.item-item.is
