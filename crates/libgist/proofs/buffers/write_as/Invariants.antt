use Rattle.std.proofs.Common.{◌≡◌, map, ◌≤◌, length, take, drop, ◌++◌}
use Rattle.libgist.proofs.buffers.write_as.Given as goal

abbrev pub invariant-loop-place : goal.invariant-loop-place
invariant-loop-place g l =
    (l.buffer ≡ take l.place (map g.F.Form.form_of l.items) ++ drop l.place l.initial.buffer)
    × (l.fitting ≤ length l.items) × (l.fitting ≤ length l.initial.buffer)
