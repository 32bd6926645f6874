use Rattle.feed.specs.Asking.{GivesInto, due_upto}
use Rattle.feed.proofs.feed.Feed.tell.Given as goal

abbrev pub invariant-loop-revision : goal.invariant-loop-revision
invariant-loop-revision g l = GivesInto (due_upto g.C.KeyClass.rules l.fn.numbering l.snapshot l.revision) l.self l.fn.told.items l.told.items
