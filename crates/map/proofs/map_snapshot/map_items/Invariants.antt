use Rattle.std.proofs.Common.{◌≡◌, map, take}
use Rattle.map.specs.Items.{map_item}
use Rattle.map.proofs.map_snapshot.map_items.Given as goal

abbrev pub invariant-renumbering : goal.invariant-renumbering
invariant-renumbering g l = l.given.items ≡ map (map_item l.numbering.oldest l.numbering.begun l.snapshot) (take l.item-index l.items)
