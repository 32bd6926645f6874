use Rattle.std.proofs.Common.{sym, subst}
use Rattle.change_list.specs.Records.{IsKept, writes_of}
use Rattle.change_list.proofs.Keeping.{kept_push, tracked_kept}
use Rattle.change_list.proofs.Tracking.{names_earlier}
use Rattle.change_list.proofs.roomy_list.RoomyList.push.Goals as goal

pub with_letter-ended-requires-clause-names : goal.with_letter-ended-requires-clause-names
with_letter-ended-requires-clause-names g c =
    let inside = c.self.inside in
    names_earlier (writes_of inside.kept.list) inside.ended.items inside.write c.self.invariant.2 c.self.invariant.3

pub invariant_of-commits : goal.invariant_of-commits
invariant_of-commits g c =
    let inside = c.self.inside in
    let kept = c.self.invariant in
    subst (λ l. IsKept l) (sym c.push.ensures) (kept_push inside.kept.list inside.write inside.kept.next kept.0 kept.3 kept.1)

pub invariant_of-result : goal.invariant_of-result
invariant_of-result g c =
    let inside = c.self.inside in
    let kept = c.self.invariant in
    tracked_kept inside.kept.list c.push.result inside.write inside.kept.next inside.ended.items c.with_letter-ended.result.items kept.1 kept.2 kept.3 c.push.ensures c.with_letter-ended.ensures
