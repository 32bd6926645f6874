use Rattle.std.proofs.Common.{◌≡◌, List, ◌++◌}
use Rattle.change_list.specs.declared.item.Item.{Item}
use Rattle.store.specs.States.{Gave, work_at}
use Rattle.store.specs.Worlds.{HasCursor}
use Rattle.store.proofs.store.Store.drain.Given as goal

abbrev pub invariant-draining : goal.invariant-draining
invariant-draining g l = (given : List (Item _)) × (l.into.items ≡ l.initial.into.items ++ given) × Gave g.C.KeyClass.rules.is_match l.initial.self l.c given l.self × HasCursor l.self l.c

abbrev pub decreases-draining : goal.decreases-draining
decreases-draining g l = work_at l.self l.c
