use Rattle.std.proofs.Common.{length, ap, ◌∙◌}
use Rattle.std.proofs.lemmas.Result.{IfOk-weaker}
use Rattle.map.specs.Kept.{MapView}
use Rattle.map.specs.Snapshots.{found_in_map}
use Rattle.map.proofs.Found.{found_number}
use Rattle.map.proofs.map_snapshot.MapSnapshot.count.Goals as goal

pub returns-clause-ok : goal.returns-clause-ok
returns-clause-ok g c =
    let s = c.self.inside in let viewed = ap (λ (v : MapView _). v.map) c.self.view_is in
    let rules = g.C.KeyClass.rules in
    let query = c.args.query.now in
    let number = found_number rules query s.numbering.oldest s.numbering.begun s.snapshot c.self.invariant.list ∙ ap (λ m. length (found_in_map rules query m)) viewed in
    IfOk-weaker c.count.result _ _ (λ n is. is ∙ number) c.count.ensures.ok
