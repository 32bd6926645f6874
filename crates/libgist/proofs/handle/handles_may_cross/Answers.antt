use denote.Param.Send.{sendable}
use Rattle.std.proofs.Crossing.{crosses}
use Rattle.libgist.proofs.handle.Handle.TheSendSync as handle
use Rattle.libgist.proofs.handle.handles_may_cross.Goals as goal

pub may_cross-requires : goal.may_cross-requires
may_cross-requires c = search (crosses, handle.the_send, sendable) depth 20
