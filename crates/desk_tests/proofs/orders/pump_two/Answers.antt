use denote.Param.Send.{sendable}
use Rattle.interval_class.proofs.interval.Interval.TheSendSync as key
use Rattle.interval_class.proofs.atom.Atom.TheSendSync as atom
use Rattle.interval_class.proofs.block.IntervalBlock.TheSendSync as block
use Rattle.desk.proofs.Crossing.{crosses}
use Rattle.desk_tests.proofs.orders.pump_two.Goals as goal

pub pump_and_take-requires-send-T : goal.pump_and_take-requires-send-T
pump_and_take-requires-send-T g c κs within = search (crosses, key.the_send, key.the_sync, atom.the_send, atom.the_sync, block.the_send, block.the_sync, sendable) depth 40
