use Rattle.std.proofs.Common.{◌≡◌, drop}
use Rattle.snapshot.specs.Life.{holds_live}
use Rattle.snapshot.proofs.life.holds_live.Given as goal

abbrev pub invariant-loop-place : goal.invariant-loop-place
invariant-loop-place g l = holds_live l.row (drop l.place l.entries) ≡ holds_live l.row l.entries
