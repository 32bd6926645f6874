use Rattle.std.proofs.Common.{sym, ap, ◌∙◌, subst}
use Rattle.std.specs.Prelude.{IsPermutation}
use Rattle.map.specs.Kept.{MapView}
use Rattle.map.specs.Generations.{entries_from}
use Rattle.map.specs.Snapshots.{found_in_map}
use Rattle.map.proofs.Found.{found_arranged}
use Rattle.map.proofs.map_snapshot.MapSnapshot.find_any.Goals as goal

pub returns-clause-ok : goal.returns-clause-ok
returns-clause-ok g c =
    let s = c.self.inside in let viewed = ap (λ (v : MapView _). v.map) c.self.view_is in
    let rules = g.C.KeyClass.rules in
    let query = c.args.query.now in
    let items = c.in_ok-as_entries.ensures ∙ ap entries_from c.deref.ensures.value in
    let arranged = found_arranged rules query s.numbering.oldest s.numbering.begun s.snapshot c.self.invariant.list c.in_ok-rows.rows.items c.in_ok-rows.ensures.ok in
    subst (λ es. IsPermutation es (found_in_map rules query c.args.self.now.map)) (sym items) (subst (λ m. IsPermutation (entries_from c.in_ok-rows.rows.items) (found_in_map rules query m)) viewed arranged)
