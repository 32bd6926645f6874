use denote.Param.Send.{sendable}
use Rattle.std.proofs.Crossing.{crosses}
use Rattle.libgist.proofs.lent.Lent.TheSendSync as lent
use Rattle.libgist.proofs.lent.lent_handles_may_be_shared.Goals as goal

pub may_be_shared-requires : goal.may_be_shared-requires
may_be_shared-requires c = search (crosses, lent.the_sync, sendable) depth 20
