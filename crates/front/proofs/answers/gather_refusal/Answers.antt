use Rattle.front.specs.Replies.{refusal_line}
use Rattle.front.proofs.Writing.{gathers, then_sent}
use Rattle.front.proofs.answers.gather_refusal.Goals as goal

pub returns-clause-written : goal.returns-clause-written
returns-clause-written g c =
    let w = g.W.Write.contents in
    then_sent c.send_enough.result (w c.args.writer.now) (w c.args.writer.now) (w c.send_enough.new.writer) c.args.gathered.now.items c.append_refusal.new.gathered.items c.send_enough.new.gathered.items (refusal_line c.args.why)
    (gathers (w c.args.writer.now) c.args.gathered.now.items c.append_refusal.new.gathered.items (refusal_line c.args.why) c.append_refusal.ensures) c.send_enough.ensures.written
