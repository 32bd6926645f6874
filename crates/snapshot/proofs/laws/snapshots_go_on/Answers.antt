use Rattle.snapshot.proofs.Going.{found_go_on}
use Rattle.snapshot.proofs.laws.snapshots_go_on.Goals as goal

pub returns : goal.returns
returns g c = λ wanted first further later items a. found_go_on wanted first further later items a
