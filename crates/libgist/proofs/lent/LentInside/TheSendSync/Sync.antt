-- What is lent may be shared by threads.
use denote.Param.Send.{IsSync}
use Rattle.libgist.specs.contracts.lent.LentInside.{the_row}
use Rattle.libgist.proofs.Sharing.{lent_inside_sync}

pub sync : IsSync the_row
sync = lent_inside_sync
