use Rattle.std.proofs.Common.{◌++◌}
use Rattle.std.specs.List.{flat_map}
use Rattle.front.specs.Replies.{first_line, listed, row_line}
use Rattle.front.proofs.Writing.{gathers, writes_then_nothing, then_more, fails_behind, more_fails, failed}
use Rattle.front.proofs.answers.write_reply.Goals as goal

pub returns-in_err-send_enough-clause-written : goal.returns-in_err-send_enough-clause-written
returns-in_err-send_enough-clause-written g c =
    let w = g.W.Write.contents in
    let first = first_line g.C.ClassText.texts.key_text c.args.reply.now in
    let rows = flat_map (row_line g.C.ClassText.texts.key_text) (listed c.args.reply.now) in
    let one = gathers (w c.args.writer.now) c.args.gathered.now.items c.append_line.new.gathered.items first c.append_line.ensures in
    failed c.from_residual.result (w c.args.writer.now) (w c.send_enough.new.writer) c.args.gathered.now.items c.send_enough.new.gathered.items (first ++ rows) c.from_residual.ensures.0
    (fails_behind (w c.args.writer.now) (w c.args.writer.now) (w c.send_enough.new.writer) c.args.gathered.now.items c.append_line.new.gathered.items first rows one
    (more_fails (w c.args.writer.now) (w c.send_enough.new.writer) c.append_line.new.gathered.items rows c.in_err-send_enough.ensures.written))

pub returns-clause-written : goal.returns-clause-written
returns-clause-written g c =
    let w = g.W.Write.contents in
    let first = first_line g.C.ClassText.texts.key_text c.args.reply.now in
    let rows = flat_map (row_line g.C.ClassText.texts.key_text) (listed c.args.reply.now) in
    let one = gathers (w c.args.writer.now) c.args.gathered.now.items c.append_line.new.gathered.items first c.append_line.ensures in
    let two = writes_then_nothing (w c.args.writer.now) (w c.args.writer.now) (w c.send_enough.new.writer) c.args.gathered.now.items c.append_line.new.gathered.items c.send_enough.new.gathered.items first one c.in_ok-send_enough.ensures.written in
    then_more c.write_rows.result (w c.args.writer.now) (w c.send_enough.new.writer) (w c.write_rows.new.writer) c.args.gathered.now.items c.send_enough.new.gathered.items c.write_rows.new.gathered.items first rows two (rw c.rows_of.ensures at c.write_rows.ensures.written)
