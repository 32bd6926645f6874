use Rattle.storm.proofs.Streams.{EnqueuesWithRest}
use Rattle.storm.proofs.publishing.enqueue_all.Given as goal

abbrev pub invariant-loop-serial : goal.invariant-loop-serial
invariant-loop-serial l = EnqueuesWithRest l.delivered l.serial-index l.initial.streams.entries l.streams.entries
