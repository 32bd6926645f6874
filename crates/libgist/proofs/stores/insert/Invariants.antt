use Rattle.std.proofs.Common.{take}
use Rattle.libgist.specs.Batches.{DoesAll}
use Rattle.libgist.specs.Calls.{InsertsOne}
use Rattle.libgist.proofs.stores.insert.Given as goal

abbrev pub invariant-loop-place : goal.invariant-loop-place
invariant-loop-place g l =
    DoesAll (InsertsOne g.C.KeyClass.rules g.C.Crossing.key_of) (take l.place l.rows) l.initial.store l.store
