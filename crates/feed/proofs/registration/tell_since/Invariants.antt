use Rattle.std.proofs.Common.{◌≡◌, ◌≤◌, ◌++◌, max}
use Rattle.key_class.specs.Queries.{query_of}
use Rattle.key_class.specs.Rules.{satisfies}
use Rattle.change_list.specs.Changes.{changes}
use Rattle.feed.specs.Asking.{under}
use Rattle.feed.specs.Numberings.{commit_of}
use Rattle.feed.proofs.registration.tell_since.Given as goal

abbrev pub invariant-loop-revision : goal.invariant-loop-revision
invariant-loop-revision g l = record {
  within : l.revision ≤ max (max l.registration.from l.numbering.oldest) l.upto;
  told : l.told.items ≡ l.initial.told.items ++ under l.serial (changes (satisfies g.C.KeyClass.rules (query_of l.registration.query)) (commit_of l.numbering l.registration.from) (commit_of l.numbering l.revision) l.snapshot);
}
