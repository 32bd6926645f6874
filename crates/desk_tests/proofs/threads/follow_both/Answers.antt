use denote.Param.Send.{sendable}
use Rattle.interval_class.proofs.interval.Interval.TheSendSync as key
use Rattle.interval_class.proofs.atom.Atom.TheSendSync as atom
use Rattle.interval_class.proofs.block.IntervalBlock.TheSendSync as block
use Rattle.desk.proofs.Crossing.{crosses}
use Rattle.desk_tests.proofs.threads.follow_both.Goals as goal

pub at_once-requires-sync-D : goal.at_once-requires-sync-D
at_once-requires-sync-D g c κs within = search (crosses, key.the_send, key.the_sync, atom.the_send, atom.the_sync, block.the_send, block.the_sync, sendable) depth 40

pub at_once-requires-send-T : goal.at_once-requires-send-T
at_once-requires-send-T g c κs within = search (crosses, key.the_send, key.the_sync, atom.the_send, atom.the_sync, block.the_send, block.the_sync, sendable) depth 40
