use Rattle.std.proofs.Common.{◌≡◌, take}
use Rattle.feed.specs.Reaches.{total_size}
use Rattle.feed.proofs.queries.total_size.Given as goal

abbrev pub invariant-loop-key : goal.invariant-loop-key
invariant-loop-key g l = l.total ≡ total_size g.C.KeyClass.rules.size_of (take l.key-index l.keys)
