use Rattle.std.proofs.Common.{◌-◌, ◌≤◌, drop, length, map}
use Rattle.search.specs.Live.{row_of}
use Rattle.search.specs.Picks.{HasBitsFor, picked}
use Rattle.search.proofs.Sinking.{TakesBut}
use Rattle.search.proofs.row_sink.RowSink.take_picked.Given as goal

abbrev pub invariant-entries : goal.invariant-entries
invariant-entries g l =
    let rest = drop l.place l.entries in record {
      within : l.place ≤ length l.entries;
      bits : HasBitsFor rest l.left;
      taken : TakesBut g.Self.RowSink.takes (map row_of (picked l.bits l.entries)) (map row_of (picked l.left rest)) l.initial.self l.self;
    }

abbrev pub decreases-entries : goal.decreases-entries
decreases-entries g l = length l.entries - l.place
