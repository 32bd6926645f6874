use Rattle.front.proofs.Writing.{sends, beginning_of, failed}
use Rattle.std.proofs.Common.{[]}
use Rattle.front.proofs.answers.send.Goals as goal

pub returns-clause-written : goal.returns-clause-written
returns-clause-written g c = sends (g.W.Write.contents c.args.writer.now) (g.W.Write.contents c.write_out.new.writer) c.args.gathered.now.items c.clear.new.self.items (rw c.as_slice.ensures.value at c.in_ok-write_out.ensures.ok) c.clear.ensures

pub returns-in_err-write_out-clause-written : goal.returns-in_err-write_out-clause-written
returns-in_err-write_out-clause-written g c =
    failed c.from_residual.result (g.W.Write.contents c.args.writer.now) (g.W.Write.contents c.write_out.new.writer) c.args.gathered.now.items c.args.gathered.now.items [] c.from_residual.ensures.0
    (beginning_of (g.W.Write.contents c.args.writer.now) (g.W.Write.contents c.write_out.new.writer) c.args.gathered.now.items [] (rw c.as_slice.ensures.value at c.in_err-write_out.ensures.part))
