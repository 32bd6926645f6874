use Rattle.std.proofs.Common.{arith}
use Rattle.storm.proofs.Streams.{one_enqueued, rest_enqueued}
use Rattle.storm.proofs.publishing.enqueue_all.Goals as goal

pub loop-serial-preserved : goal.loop-serial-preserved
loop-serial-preserved c =
    let loop = c.loop-serial in
    let one = c.loop-serial-item in
    one_enqueued c.args.delivered.now loop.serial-index c.args.streams.now.entries loop.streams.entries one.result c.enqueue.new.streams.entries
    (omega (arith, c.loop-serial-test.true)) one.is c.in_ok-enqueue.ensures loop.invariant

pub returns : goal.returns
returns c =
    let loop = c.loop-serial in
    rest_enqueued c.args.delivered.now loop.serial-index c.args.streams.now.entries loop.streams.entries (omega (arith, c.loop-serial-test.false)) loop.invariant
