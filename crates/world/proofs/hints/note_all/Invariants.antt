use Rattle.std.proofs.Common.{◌≡◌, drop}
use Rattle.world.specs.Hints.{with_hints}
use Rattle.world.proofs.hints.note_all.Given as goal

abbrev pub invariant-loop-place : goal.invariant-loop-place
invariant-loop-place g l = with_hints l.page (drop l.place l.rows) l.hints.items ≡ with_hints l.page l.rows l.initial.hints.items
