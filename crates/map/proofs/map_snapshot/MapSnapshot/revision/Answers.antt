use Rattle.std.proofs.Common.{◌+◌, ◌-◌, sym, ap, ◌∙◌}
use Rattle.revisions.specs.Maps.{revision_of}
use Rattle.map.specs.Kept.{MapView}
use Rattle.map.proofs.Faithful.{revision_is}
use Rattle.map.proofs.map_snapshot.MapSnapshot.revision.Goals as goal

pub returns : goal.returns
returns g c =
    let s = c.self.inside in let viewed = ap (λ (v : MapView _). v.map) c.self.view_is in
    ap (λ n. s.numbering.oldest + (n - s.numbering.begun)) c.commits.ensures.number ∙ sym (revision_is s.numbering.oldest s.numbering.begun s.snapshot c.self.invariant.list) ∙ ap revision_of viewed
