use denote.Param.Send.{sendable}
use Rattle.desk.proofs.Crossing.{crosses}
use Rattle.pumps.proofs.pumps.Pumps.run.Goals as goal

pub run_all-requires-sync-D : goal.run_all-requires-sync-D
run_all-requires-sync-D g c κs within = search (crosses, sendable) depth 20
