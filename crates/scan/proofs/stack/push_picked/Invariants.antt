use Rattle.std.proofs.Common.{◌≡◌, ◌++◌, length, map, reverse}
use Rattle.smallvec.specs.SmallVec.{HasRoomFor}
use Rattle.scan.specs.Scanning.{item_of_child}
use Rattle.search.specs.Picks.{HasBitsFor, picked}
use Rattle.scan.proofs.stack.push_picked.Given as goal

abbrev pub invariant-loop-bits : goal.invariant-loop-bits
invariant-loop-bits g l = record {
  bits : HasBitsFor l.branches l.bits;
  room : HasRoomFor l.items (length (picked l.bits l.branches));
  pushed : l.items.items ++ map (item_of_child l.memo) (reverse (picked l.bits l.branches))
      ≡ l.initial.items.items ++ map (item_of_child l.memo) (reverse (picked l.fn.bits l.branches));
}

abbrev pub decreases-loop-bits : goal.decreases-loop-bits
decreases-loop-bits g l = l.bits
