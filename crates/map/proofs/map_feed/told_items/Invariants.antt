use Rattle.std.proofs.Common.{◌≡◌, map, take}
use Rattle.map.specs.Items.{map_item}
use Rattle.map.proofs.map_feed.told_items.Given as goal

abbrev pub invariant-renumbering : goal.invariant-renumbering
invariant-renumbering g l = l.told.items ≡ map (λ d. (d.0, map_item l.numbering.oldest l.numbering.begun l.snapshot d.1)) (take l.due-index l.given)
