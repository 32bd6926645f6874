use Rattle.std.proofs.Common.{◌≡◌, ◌++◌, map, take}
use Rattle.feed.proofs.tree.find_tags.Given as goal

abbrev pub invariant-loop-row : goal.invariant-loop-row
invariant-loop-row g l = l.tags.items ≡ l.initial.tags.items ++ map (λ row. row.tag) (take l.row-index l.row-items)
