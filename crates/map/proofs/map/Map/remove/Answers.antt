use Rattle.std.proofs.Common.{sym, ap, ◌∙◌, subst}
use Rattle.std.specs.Prelude.{IfOk}
use Rattle.revisions.specs.Maps.{Forgets, entries_of, has_id}
use Rattle.revisions.specs.declared.change.MapChange.TheVariants.{Remove}
use Rattle.map.specs.Kept.{ChangesIf, KeptMap, kept_map}
use Rattle.map.proofs.Forgetting.{removal_none, removal_ok}
use Rattle.map.proofs.map.Map.remove.Goals as goal
use Rattle.map.proofs.map.Map.remove.Goals.{then-branch, else-branch}

pub returns-clause-ok : goal.returns-clause-ok
returns-clause-ok g c =
    let s = c.self.inside in
    let old = c.args.self.now in
    let id = c.args.id in
    let new = kept_map s.config c.remove.new.self in
    let config = ap (λ (x : KeptMap _). x.config) c.self.view_is ∙ c.tend.ensures.config in
    let forgets = subst (λ m. Forgets old.config.history old.map m) (sym (ap (λ (x : KeptMap _). x.map) c.self.view_is)) c.tend.ensures.forgets in
    let done = c.in_ok-remove.ensures in
    elim c.if-branch.branch [
      | then-branch w ↦ subst (λ r. IfOk r (ChangesIf (Remove id) (has_id id (entries_of old.map)) old new)) (sym w.result-is) (removal_ok id old new s.present config forgets c.in_ok-remove.field-0 done.had done.ok w.if-branch.true w.revision.result w.revision.ensures.is)
      | else-branch w ↦ subst (λ r. IfOk r (ChangesIf (Remove id) (has_id id (entries_of old.map)) old new)) (sym w.result-is) (removal_none id old new s.present config forgets c.in_ok-remove.field-0 done.had done.ok w.if-branch.false)
    ]
