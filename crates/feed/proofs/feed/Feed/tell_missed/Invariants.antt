use Rattle.std.proofs.Common.{◌≡◌, ◌++◌, ℕ, List}
use Rattle.change_list.specs.declared.item.Item.{Item}
use Rattle.feed.specs.Asking.{due_upto}
use Rattle.feed.specs.Holding.{shown}
use Rattle.feed.proofs.Advancing.{TellsUpto}
use Rattle.feed.proofs.feed.Feed.tell_missed.Given as goal

abbrev pub invariant-loop-passed : goal.invariant-loop-passed
invariant-loop-passed g l = record {
  given : List (ℕ × Item _);
  is : l.told.items ≡ l.fn.told.items ++ given;
  tells : TellsUpto (λ s. due_upto g.C.KeyClass.rules l.fn.numbering l.snapshot l.self-inside.upto (shown l.self-inside.upto l.self-inside.passed s)) l.self-inside.registrations.entries l.passed given;
}
