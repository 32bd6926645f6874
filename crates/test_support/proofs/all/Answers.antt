use Rattle.std.proofs.Common.{refl}
use Rattle.test_support.proofs.all.Goals as goal

pub returns : goal.returns
returns c = record { asks = record { atom = _; is = refl; overlaps = refl; low = refl; high = refl } }
