use Rattle.std.proofs.Common.{sym, subst}
use Rattle.std.proofs.lemmas.List.{take_rest}
use Rattle.front.specs.Written.{WritesAllBut}
use Rattle.front.proofs.Writing.{more_written}
use Rattle.front.proofs.answers.write_out.Goals as goal

pub writing-preserved : goal.writing-preserved
writing-preserved g c =
    let w0 = g.W.Write.contents c.args.writer.now in
    let w1 = g.W.Write.contents c.writing.writer in
    let w2 = g.W.Write.contents c.write_retrying.new.writer in
    subst (λ r. WritesAllBut w0 w2 c.args.bytes.now r) (sym (take_rest c.writing.rest.now c.in-Ok.count)) (more_written w0 w1 w2 c.args.bytes.now c.writing.rest.now c.in-Ok.count c.writing.invariant c.in-Ok.ensures.bytes)
