use Rattle.std.proofs.Common.{rules, ◌≡◌, ◌++◌}
use Rattle.std.specs.List.{flat_map}
use Rattle.front.specs.Replies.{row_line}
use Rattle.front.proofs.Writing.{gathers, writes_then_nothing, more_of, fails_in_rest, more_fails, failed}
use Rattle.front.proofs.answers.write_rows.Goals as goal

pub loop-rest-preserved : goal.loop-rest-preserved
loop-rest-preserved g c =
    let w = g.W.Write.contents in
    let f = row_line g.C.ClassText.texts.key_text in
    let some = c.split_at.result.0.now in
    let parts : c.loop-rest.rest.now ≡ some ++ c.split_at.result.1.now = search rules in
    let one = gathers (w c.loop-rest.writer) c.loop-rest.gathered.items c.append_rows.new.gathered.items (flat_map f some) c.append_rows.ensures in
    let two = writes_then_nothing (w c.loop-rest.writer) (w c.loop-rest.writer) (w c.send_enough.new.writer) c.loop-rest.gathered.items c.append_rows.new.gathered.items c.send_enough.new.gathered.items (flat_map f some) one c.in_ok-send_enough.ensures.written in
    record {
      written = more_of f c.args.rows.now some c.loop-rest.rest.now c.split_at.result.1.now (w c.args.writer.now) (w c.loop-rest.writer) (w c.send_enough.new.writer) c.args.gathered.now.items c.loop-rest.gathered.items c.send_enough.new.gathered.items parts c.loop-rest.invariant.written two;
      room = c.in_ok-send_enough.ensures.room;
    }

pub returns-in_err-send_enough-clause-written : goal.returns-in_err-send_enough-clause-written
returns-in_err-send_enough-clause-written g c =
    let w = g.W.Write.contents in
    let f = row_line g.C.ClassText.texts.key_text in
    let some = c.split_at.result.0.now in
    let left = c.split_at.result.1.now in
    let parts : c.loop-rest.rest.now ≡ some ++ left = search rules in
    let one = gathers (w c.loop-rest.writer) c.loop-rest.gathered.items c.append_rows.new.gathered.items (flat_map f some) c.append_rows.ensures in
    let up_to = more_of f c.args.rows.now some c.loop-rest.rest.now left (w c.args.writer.now) (w c.loop-rest.writer) (w c.loop-rest.writer) c.args.gathered.now.items c.loop-rest.gathered.items c.append_rows.new.gathered.items parts c.loop-rest.invariant.written one in
    failed c.from_residual.result (w c.args.writer.now) (w c.send_enough.new.writer) c.args.gathered.now.items c.send_enough.new.gathered.items (flat_map f c.args.rows.now) c.from_residual.ensures.0
    (fails_in_rest f c.args.rows.now left (w c.args.writer.now) (w c.loop-rest.writer) (w c.send_enough.new.writer) c.args.gathered.now.items c.append_rows.new.gathered.items up_to
    (more_fails (w c.loop-rest.writer) (w c.send_enough.new.writer) c.append_rows.new.gathered.items (flat_map f left) c.in_err-send_enough.ensures.written))
