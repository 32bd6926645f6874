-- A handle may be moved to another thread.
use denote.Param.Send.{IsSend}
use Rattle.libgist.specs.contracts.inside.Inside.{the_row}
use Rattle.libgist.proofs.Threads.{inside_send}

pub send : IsSend the_row
send = inside_send
