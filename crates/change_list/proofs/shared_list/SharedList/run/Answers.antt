use Rattle.std.proofs.Common.{◌≡◌, ◌+◌, ◌-◌, ◌*◌, ◌/◌, ◌%◌, ◌<◌, Some, slice_get, drop, ap, ap₂, ◌∙◌, arith, length, subst}
use Rattle.change_list.specs.Segments.{IsRun}
use Rattle.change_list.proofs.Joining.{full_at, full_segments, run_at_segment, run_at_tail, whole_length}
use Rattle.change_list.proofs.shared_list.SharedList.run.Goals as goal

pub segment-requires : goal.segment-requires
segment-requires g c = omega (arith, c.if-segment-full.true, c.segments-full.ensures, full_segments c.self.inside.full c.self.inside.tail.items c.self.invariant.0, ap length c.self.view_is)

pub behind-requires : goal.behind-requires
behind-requires g c = omega (arith, full_at c.self.inside.full c.self.invariant.0.each_full (c.args.place / 256) _ c.segment.ensures, ap length c.as_slice.ensures)

pub returns-then-segment-full : goal.returns-then-segment-full
returns-then-segment-full g c =
    subst (λ list. IsRun list c.args.place c.behind.result.now) c.self.view_is
    (run_at_segment c.self.inside.full c.self.inside.tail.items c.self.invariant.0 c.args.place c.segment.result.now c.segment.ensures c.behind.result.now (c.behind.ensures ∙ ap (drop (c.args.place % 256)) c.as_slice.ensures))

pub behind-requires-2 : goal.behind-requires-2
behind-requires-2 g c =
    omega (arith, c.if-segment-full.false, c.segments-full.ensures, whole_length c.self.inside.full c.self.inside.tail.items c.self.invariant.0, full_segments c.self.inside.full c.self.inside.tail.items c.self.invariant.0, ap length c.self.view_is, ap length c.as_slice-2.ensures.value, c.requires)

pub returns : goal.returns
returns g c =
    let full = full_segments c.self.inside.full c.self.inside.tail.items c.self.invariant.0 in
    let start : c.args.place - c.segments-full.result * 256 ≡ c.args.place - length c.self.inside.full * 256 = omega (arith, full, c.segments-full.ensures, ap length c.self.view_is) in
    subst (λ list. IsRun list c.args.place c.behind-2.result.now) c.self.view_is
    (run_at_tail c.self.inside.full c.self.inside.tail.items c.self.invariant.0 c.args.place
    (omega (arith, full, c.if-segment-full.false, c.segments-full.ensures, ap length c.self.view_is)) c.behind-2.result.now
    (c.behind-2.ensures ∙ ap₂ drop start c.as_slice-2.ensures.value))
