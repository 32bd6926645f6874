use Rattle.revisions.proofs.Forgetting.{entries_kept, entries_restored, items_kept, revision_kept}
use Rattle.revisions.proofs.laws.maps_forget.Goals as goal

pub returns-clause-revision : goal.returns-clause-revision
returns-clause-revision g c = λ map n known within. revision_kept map n known within

pub returns-clause-entries : goal.returns-clause-entries
returns-clause-entries g c = λ map n later known l. entries_kept map n later known l

pub returns-clause-items : goal.returns-clause-items
returns-clause-items g c = λ wanted map n from upto known l. items_kept wanted map n from upto known l

pub returns-clause-restored : goal.returns-clause-restored
returns-clause-restored g c = λ map n known within. entries_restored map n known within
