use Rattle.std.proofs.Common.{length}
use Rattle.front.specs.Replies.{row_line}
use Rattle.front.specs.Written.{HasRoomForLine}
use Rattle.front.proofs.Writing.{HasWritten}
use Rattle.front.proofs.answers.write_rows.Given as goal

abbrev pub invariant-loop-rest : goal.invariant-loop-rest
invariant-loop-rest g l = record {
  written : HasWritten (row_line g.C.ClassText.texts.key_text) l.rows l.rest (g.W.Write.contents l.initial.writer) l.initial.gathered.items (g.W.Write.contents l.writer) l.gathered.items;
  room : HasRoomForLine l.gathered.items;
}

abbrev pub decreases-loop-rest : goal.decreases-loop-rest
decreases-loop-rest g l = length l.rest
