use Rattle.store.proofs.Stands.{NoneBefore}
use Rattle.store.proofs.store.Store.keeper.Given as goal

abbrev pub invariant-loop-cursor : goal.invariant-loop-cursor
invariant-loop-cursor g l = NoneBefore l.cursors l.least l.cursor-index
