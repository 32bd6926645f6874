use Rattle.std.proofs.Common.{length}
use Rattle.desk.proofs.finish.+audit_told.Given as goal

abbrev pub decreases-audit_told : goal.decreases-audit_told
decreases-audit_told g l = length l.seats.now
