use Rattle.std.proofs.Common.{take}
use Rattle.feed.proofs.Giving.{TellsThose}
use Rattle.feed.proofs.topics.Topics.tell_commit.Given as goal

abbrev pub invariant-loop-number : goal.invariant-loop-number
invariant-loop-number g l = TellsThose g.C.KeyClass.rules l.fn.numbering l.snapshot l.self l.revision (take l.number-index l.number-items) l.fn.told.items l.told.items
