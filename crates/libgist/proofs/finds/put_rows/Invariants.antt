use Rattle.std.proofs.Common.{◌≡◌, ◌+◌, ◌≤◌, ◌++◌, length, map, take, drop}
use Rattle.libgist.specs.Shown.{shown_row}
use Rattle.libgist.proofs.finds.put_rows.Given as goal

abbrev pub invariant-loop-place : goal.invariant-loop-place
invariant-loop-place g l =
    (l.buffer ≡ take l.at l.initial.buffer ++ (take l.place (map (shown_row g.C.Crossing.words_of) l.rows) ++ drop (l.at + l.place) l.initial.buffer))
    × (l.at + length l.rows ≤ length l.initial.buffer)
