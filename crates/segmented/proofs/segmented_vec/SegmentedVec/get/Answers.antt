use Rattle.std.proofs.Common.{◌∙◌, ◌/◌, ◌%◌, ◌≤◌, ap, arith, length, slice_get, sym}
use Rattle.segmented.proofs.Joining.{found_at, nothing_at, segment_read}
use Rattle.segmented.proofs.segmented_vec.SegmentedVec.get.Goals as goal

pub returns-in_err-segment : goal.returns-in_err-segment
returns-in_err-segment g c =
    let past : length c.self.inside.segments.items ≤ c.args.place / 4096 = omega (arith, c.in_err-segment.ensures.lookup.3, ap length c.deref.ensures.value) in
    c.from_residual.ensures ∙ sym (nothing_at c.self.inside.segments.items c.self.inside.len c.self.invariant c.args.place past) ∙ ap (λ v. slice_get v.items c.args.place) c.self.view_is

pub returns : goal.returns
returns g c =
    let segments = c.self.inside.segments.items in
    let lookup = rw c.deref.ensures.value at c.in_ok-segment.ensures.lookup in
    let at = segment_read segments c.self.inside.len c.self.invariant (c.args.place / 4096) c.in_ok-segment.segment.now lookup.3.0 lookup.1 in
    c.at.ensures ∙ ap (λ l. slice_get l (c.args.place % 4096)) c.deref-2.ensures.value
    ∙ sym (found_at segments c.self.inside.len c.self.invariant c.args.place c.in_ok-segment.segment.now at) ∙ ap (λ v. slice_get v.items c.args.place) c.self.view_is
