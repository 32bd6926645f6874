use Rattle.std.proofs.Common.{◌≡◌, ◌++◌, drop, map}
use Rattle.change_list.specs.declared.item.Item.TheVariants as item
use Rattle.storm.proofs.looks.row_items.Given as goal

abbrev pub invariant-loop-row : goal.invariant-loop-row
invariant-loop-row g l = l.items.items ++ map item.Row (drop l.row-index l.rows) ≡ map item.Row l.rows
