use Rattle.std.proofs.Common.{arith}
use Rattle.segmented.proofs.Joining.{room-added, segmented-added}
use Rattle.segmented.proofs.segmented_vec.SegmentedVec.reserve.Goals as goal

pub invariant_of-self-2 : goal.invariant_of-self-2
invariant_of-self-2 g c =
    segmented-added c.self.inside.segments.items c.self.inside.len c.self.invariant c.in_ok-segment.segment c.push.new.self.items c.in_ok-push.ensures.items
    c.in_ok-segment.ensures.items c.in_ok-segment.ensures.exact
    (omega (arith, c.if-self-count.false, c.len-count.ensures, c.self.inside.segments.ok.0))
    (omega (arith, c.self.invariant.few, c.if-count-eq-MAX_SEGMENTS.false, c.len-count.ensures, c.self.inside.segments.ok.0))

pub returns-clause-room : goal.returns-clause-room
returns-clause-room g c =
    room-added c.self.inside.segments.items c.self.inside.len c.self.invariant c.in_ok-segment.segment c.push.new.self.items c.in_ok-push.ensures.items c.in_ok-segment.ensures.items
