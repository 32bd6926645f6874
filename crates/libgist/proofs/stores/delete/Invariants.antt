use Rattle.std.proofs.Common.{take}
use Rattle.libgist.specs.Batches.{DoesAll}
use Rattle.libgist.specs.Calls.{IsDelete, Passing}
use Rattle.libgist.proofs.stores.delete.Given as goal

abbrev pub invariant-loop-place : goal.invariant-loop-place
invariant-loop-place g l =
    DoesAll (λ row. Passing (IsDelete g.C.KeyClass.rules row)) (take l.place l.rows) l.initial.store l.store
