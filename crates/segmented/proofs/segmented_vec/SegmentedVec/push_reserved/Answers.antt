use Rattle.std.proofs.Common.{◌∙◌, ◌++◌, ◌∷◌, [], ap, arith, length}
use Rattle.segmented.proofs.Joining.{items-pushed, segment_has_room, segmented-pushed}
use Rattle.segmented.proofs.segmented_vec.SegmentedVec.push_reserved.Goals as goal

pub push_reserved-requires : goal.push_reserved-requires
push_reserved-requires g c =
    segment_has_room c.self.inside.segments.items c.self.inside.len c.self.invariant (omega (arith, c.requires.room, ap (λ v. length v.items) c.self.view_is, ap (λ v. v.capacity) c.self.view_is)) c.index_mut.result.now c.index_mut.ensures.value

pub invariant_of-self : goal.invariant_of-self
invariant_of-self g c =
    segmented-pushed c.self.inside.segments.items c.self.inside.len c.self.invariant (omega (arith, c.requires.room, ap (λ v. length v.items) c.self.view_is, ap (λ v. v.capacity) c.self.view_is)) c.index_mut.result.now c.index_mut.ensures.value
    c.push_reserved.new.self c.args.value c.push_reserved.ensures.items c.push_reserved.ensures.capacity

pub returns-clause-items : goal.returns-clause-items
returns-clause-items g c =
    items-pushed c.self.inside.segments.items c.self.inside.len c.self.invariant (omega (arith, c.requires.room, ap (λ v. length v.items) c.self.view_is, ap (λ v. v.capacity) c.self.view_is)) c.index_mut.result.now c.index_mut.ensures.value
    c.push_reserved.new.self c.args.value c.push_reserved.ensures.items
    ∙ ap (λ v. v.items ++ c.args.value ∷ []) c.self.view_is
