use Rattle.front.specs.EventReplies.{reply_line}
use Rattle.front.proofs.Writing.{gathers, then_sent}
use Rattle.front.proofs.event_answers.write_event_reply.Goals as goal

pub returns-clause-written : goal.returns-clause-written
returns-clause-written g c =
    let w = g.W.Write.contents in
    let line = reply_line g.C.ClassText.texts.key_text c.args.reply.now in
    then_sent c.send_enough.result (w c.args.writer.now) (w c.args.writer.now) (w c.send_enough.new.writer) c.args.gathered.now.items c.append_line.new.gathered.items c.send_enough.new.gathered.items line
    (gathers (w c.args.writer.now) c.args.gathered.now.items c.append_line.new.gathered.items line c.append_line.ensures) c.send_enough.ensures.written
