use Rattle.std.proofs.Common.{◌≡◌, map, ◌≤◌, length, take, drop, ◌++◌}
use Rattle.libgist.specs.Following.{told_item}
use Rattle.libgist.proofs.following.write_told.Given as goal

abbrev pub invariant-loop-place : goal.invariant-loop-place
invariant-loop-place g l =
    (l.buffer ≡ take l.place (map (told_item g.C.Crossing.words_of l.snapshot) l.items) ++ drop l.place l.initial.buffer)
    × (l.fitting ≤ length l.items) × (l.fitting ≤ length l.initial.buffer)
