use denote.Param.Send.{sendable}
use Rattle.interval_class.proofs.interval.Interval.TheSendSync as key
use Rattle.interval_class.proofs.atom.Atom.TheSendSync as atom
use Rattle.interval_class.proofs.block.IntervalBlock.TheSendSync as block
use Rattle.desk.proofs.Crossing.{crosses}
use Rattle.storm.proofs.outcome.run_all.Goals as goal

pub work_beside-requires-sync-D : goal.work_beside-requires-sync-D
work_beside-requires-sync-D g c κs within = search (crosses, key.the_send, key.the_sync, atom.the_send, atom.the_sync, block.the_send, block.the_sync, sendable) depth 40
