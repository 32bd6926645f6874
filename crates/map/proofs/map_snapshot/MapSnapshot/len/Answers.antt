use Rattle.std.proofs.Common.{length, sym, ap, ◌∙◌}
use Rattle.revisions.specs.Maps.{entries_of}
use Rattle.map.specs.Kept.{MapView}
use Rattle.map.proofs.Faithful.{entries_counted}
use Rattle.map.proofs.map_snapshot.MapSnapshot.len.Goals as goal

pub returns : goal.returns
returns g c =
    let s = c.self.inside in let viewed = ap (λ (v : MapView _). v.map) c.self.view_is in
    c.self.invariant.counted ∙ sym (entries_counted s.numbering.oldest s.numbering.begun s.snapshot c.self.invariant.list) ∙ ap (λ m. length (entries_of m)) viewed
