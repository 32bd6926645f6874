use Rattle.std.proofs.Common.{length, take}
use Rattle.snapshot.specs.Ended.{TellsEnded}
use Rattle.snapshot.proofs.all_rows.ended_rows.Given as goal

abbrev pub invariant-loop-place : goal.invariant-loop-place
invariant-loop-place g l = TellsEnded (take l.place l.list) (length l.list) l.ended.items
