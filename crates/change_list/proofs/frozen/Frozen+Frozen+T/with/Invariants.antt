use Rattle.std.proofs.Common.{◌≡◌, take}
use Rattle.change_list.proofs.frozen.Frozen+Frozen+T.with.Given as goal

abbrev pub invariant-loop-list : goal.invariant-loop-list
invariant-loop-list g l = l.items.items ≡ take l.list-index l.before
