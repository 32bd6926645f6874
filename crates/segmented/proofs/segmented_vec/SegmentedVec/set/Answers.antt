use Rattle.std.proofs.Common.{◌∙◌, ◌%◌, ap, arith, length, refl, slice_set}
use Rattle.std.specs.Vec.{with_item}
use Rattle.segmented.proofs.Joining.{items-set, place_within, segment_exists, segmented-set}
use Rattle.segmented.proofs.segmented_vec.SegmentedVec.set.Goals as goal

pub index_mut-requires : goal.index_mut-requires
index_mut-requires g c =
    omega (arith, segment_exists c.self.inside.segments.items c.self.inside.len c.self.invariant c.args.place (omega (arith, c.requires.within, ap (λ v. length v.items) c.self.view_is)), c.self.inside.segments.ok.0)

pub index_mut-requires-2 : goal.index_mut-requires-2
index_mut-requires-2 g c =
    place_within c.self.inside.segments.items c.self.inside.len c.self.invariant c.args.place (omega (arith, c.requires.within, ap (λ v. length v.items) c.self.view_is)) c.index_mut.result.now c.index_mut.ensures.value

pub invariant_of-self : goal.invariant_of-self
invariant_of-self g c =
    segmented-set c.self.inside.segments.items c.self.inside.len c.self.invariant c.args.place (omega (arith, c.requires.within, ap (λ v. length v.items) c.self.view_is)) c.index_mut.result.now c.index_mut.ensures.value
    (with_item c.index_mut.result.now (c.args.place % 4096) c.args.value) c.args.value refl refl refl

pub returns-clause-items : goal.returns-clause-items
returns-clause-items g c =
    items-set c.self.inside.segments.items c.self.inside.len c.self.invariant c.args.place (omega (arith, c.requires.within, ap (λ v. length v.items) c.self.view_is)) c.index_mut.result.now c.index_mut.ensures.value
    (with_item c.index_mut.result.now (c.args.place % 4096) c.args.value) c.args.value refl
    ∙ ap (λ v. slice_set v.items c.args.place c.args.value) c.self.view_is
