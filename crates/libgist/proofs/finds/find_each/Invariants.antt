use Rattle.std.proofs.Common.{◌≡◌, ◌≤◌, List, ◌++◌, length, map, take, drop}
use Rattle.libgist.specs.ManyFinds.{joined, ends_from, live_by, AskFor}
use Rattle.libgist.specs.Shown.{shown_row}
use Rattle.libgist.proofs.finds.find_each.Given as goal

abbrev pub invariant-loop-place : goal.invariant-loop-place
invariant-loop-place g l =
    (found : List (List _)) × (length found ≡ l.place) × (length (joined found) ≡ l.end) × (l.end ≤ length l.initial.rows)
    × AskFor (live_by g.C.KeyClass.rules g.C.ClassText.texts g.C.Crossing.key_of l.snapshot l.relation) (take l.place l.keys) found
    × (l.rows ≡ map (shown_row g.C.Crossing.words_of) (joined found) ++ drop l.end l.initial.rows)
    × (l.ends ≡ ends_from 0 found ++ drop l.place l.initial.ends)
