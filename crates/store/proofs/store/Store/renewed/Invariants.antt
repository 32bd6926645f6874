use Rattle.std.proofs.Common.{◌≤◌, length, take, vec_capacity}
use Rattle.store.proofs.Filling.{IsRenewing}
use Rattle.store.proofs.store.Store.renewed.Given as goal

abbrev pub invariant-loop-row : goal.invariant-loop-row
invariant-loop-row g l = IsRenewing l.fn.config (take l.row-index l.row-items) l.store l.old_numbers.items × (length l.row-items ≤ vec_capacity l.old_numbers)
