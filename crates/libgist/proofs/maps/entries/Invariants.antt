use Rattle.std.proofs.Common.{◌≡◌, map, take}
use Rattle.std.specs.Prelude.{Some}
use Rattle.libgist.specs.MapMaking.{entry_told}
use Rattle.libgist.proofs.maps.entries.Given as goal

abbrev pub invariant-reading : goal.invariant-reading
invariant-reading g l = map (entry_told g.C.Crossing.key_of) (take l.shown-index l.words) ≡ map Some l.entries.items
