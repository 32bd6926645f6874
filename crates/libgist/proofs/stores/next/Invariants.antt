use Rattle.std.proofs.Common.{◌≡◌, List, ◌++◌, length, map, drop}
use Rattle.change_list.specs.declared.item.Item.{Item}
use Rattle.store.specs.States.{Gave}
use Rattle.libgist.specs.Shown.{shown_item}
use Rattle.libgist.proofs.stores.next.Given as goal

abbrev pub invariant-loop-place : goal.invariant-loop-place
invariant-loop-place g l =
    (given : List (Item _)) × (length given ≡ l.place)
    × (l.items ≡ map (shown_item g.C.Crossing.words_of l.initial.store.commits) given ++ drop l.place l.initial.items)
    × Gave g.C.KeyClass.rules.is_match l.initial.store l.cursor given l.store
    × (l.store.commits ≡ l.initial.store.commits)
