use Rattle.std.proofs.Common.{ap, ◌∙◌}
use Rattle.map.specs.Kept.{MapView}
use Rattle.map.specs.Generations.{entries_from}
use Rattle.map.specs.Snapshots.{found_in_map}
use Rattle.map.proofs.Found.{found_are}
use Rattle.map.proofs.map_snapshot.MapSnapshot.find.Goals as goal

pub returns-clause-ok : goal.returns-clause-ok
returns-clause-ok g c =
    let s = c.self.inside in let viewed = ap (λ (v : MapView _). v.map) c.self.view_is in
    let rules = g.C.KeyClass.rules in
    let query = c.args.query.now in
    c.in_ok-as_entries.ensures ∙ ap entries_from (c.deref.ensures.value ∙ c.in_ok-rows.ensures.ok) ∙ found_are rules query s.numbering.oldest s.numbering.begun s.snapshot c.self.invariant.list ∙ ap (found_in_map rules query) viewed
