use Rattle.std.proofs.Common.{◌≡◌, ◌+◌, ◌*◌, ◌≤◌, drop, length}
use Rattle.std.specs.List.{flat_map}
use Rattle.front.specs.Replies.{row_line}
use Rattle.front.proofs.answers.put_rows.Given as goal

abbrev pub invariant-loop-place : goal.invariant-loop-place
invariant-loop-place g l = record {
  within : l.place ≤ length l.rows;
  text : l.line ≡ flat_map (row_line g.C.ClassText.texts.key_text) (drop l.place l.rows);
  short : length l.line + 450 * l.place ≤ 450 * length l.rows;
}

abbrev pub decreases-loop-place : goal.decreases-loop-place
decreases-loop-place g l = l.place
