use Rattle.std.proofs.Common.{◌≤◌, length, subst}
use Rattle.map.specs.Items.{number_of}
use Rattle.map.proofs.Telling.{each_due}
use Rattle.map.proofs.map_feed.told_items.Goals as goal

pub map_item-requires-clause-number : goal.map_item-requires-clause-number
map_item-requires-clause-number g c = each_due (length c.args.snapshot.now) c.args.given.now c.renumbering.due-index c.due-item.result c.requires.numbers c.renumbering-test.true c.due-item.is
