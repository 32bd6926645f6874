use Rattle.std.proofs.Common.{◌≡◌, ◌++◌}
use Rattle.feed.specs.Listening.{item_to}
use Rattle.feed.proofs.listeners.Listeners.tell.Given as goal

abbrev pub invariant-loop-serial : goal.invariant-loop-serial
invariant-loop-serial g l = l.told.items ++ item_to l.number l.item l.serial-iterator ≡ l.fn.told.items ++ item_to l.number l.item l.self
