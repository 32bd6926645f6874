use Rattle.std.proofs.Common.{arith, [], refl}
use Rattle.std.proofs.KnownBytes.{Appends-nil}
use Rattle.storm.specs.declared.judge.Verdict.TheVariants.{Whole}
use Rattle.gist.proofs.Telling.{said_more, said_all}
use Rattle.gist.proofs.program.tell_clients.Goals as goal

pub loop-place-init : goal.loop-place-init
loop-place-init g c = ([], Appends-nil (g.W.Write.contents c.args.writer.now), refl)

pub loop-place-preserved : goal.loop-place-preserved
loop-place-preserved g c =
    let w = g.W.Write.contents in
    let inv = c.loop-place.invariant in
    said_more c.args.role (w c.args.writer.now) (w c.loop-place.writer) (w c.tell_client.new.writer) c.args.commits c.loop-place.place c.args.verdicts.now Whole _ inv.0 inv.1 inv.2 (omega (arith, c.loop-place-test.true)) refl c.in_ok-tell_client.ensures

pub returns : goal.returns
returns g c =
    let w = g.W.Write.contents in
    let inv = c.loop-place.invariant in
    said_all c.args.role (w c.args.writer.now) (w c.loop-place.writer) c.args.commits c.loop-place.place c.args.verdicts.now inv.0 inv.1 inv.2 (omega (arith, c.loop-place-test.false))
