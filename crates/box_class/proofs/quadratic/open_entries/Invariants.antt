use Rattle.std.proofs.Common.{◌≡◌, length}
use Rattle.box_class.proofs.Bounds.{AreAmong}
use Rattle.box_class.proofs.Places.{AreOpenBelow}
use Rattle.box_class.proofs.quadratic.open_entries.Given as goal

abbrev pub invariant-loop-place : goal.invariant-loop-place
invariant-loop-place g l = record {
  places : AreOpenBelow l.groups l.place l.places.items;
  keys : length l.open_keys.items ≡ length l.places.items;
  among : AreAmong l.keys l.open_keys.items;
}
