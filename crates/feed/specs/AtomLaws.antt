-- A key that matches an atom overlaps the atom's reach, for each class.
use Rattle.std.specs.Prelude.{◌≡◌, Bool, true, false, not, Option, Some, None, ◌==◌, bit_and, refl}
use Rattle.std.proofs.Common.{arith, ◌∙◌, subst}
use Rattle.std.proofs.lemmas.Bool.{and_parts, eqb-true}
use Rattle.std.proofs.lemmas.Nat.{and_comm}
use Rattle.std.proofs.lemmas.Int.{ints}
use Rattle.key_class.specs.declared.sides.Rel.{Rel}
use Rattle.key_class.specs.declared.sides.Rel.TheVariants.{Overlaps, Within, Holds, Same}
use Rattle.interval_class.specs.declared.interval.Interval.{Interval}
use Rattle.interval_class.specs.declared.atom.Atom as interval
use Rattle.interval_class.specs.Intervals as intervals
use Rattle.interval_class.specs.IntervalLaws as interval_laws
use Rattle.box_class.specs.declared.boxes.BoxKey.{BoxKey}
use Rattle.box_class.specs.declared.atom.Atom as box
use Rattle.box_class.specs.Boxes as boxes
use Rattle.box_class.specs.BoxLaws as box_laws
use Rattle.set_class.specs.declared.elements.Elements.{Elements}
use Rattle.set_class.specs.declared.atom.Atom as set
use Rattle.set_class.specs.SetLaws as set_laws
use Rattle.set_class.specs.Sets as sets
use Rattle.feed.specs.Atoms.{interval_reach, overlapping_interval, same_interval, box_reach, overlapping_box, same_box, reach_by, if_some, set_reach, overlapping_set, same_set}
use Rattle.feed.specs.Reaches.{MatchesItself, MatchesOverlap}

-- an interval overlaps one that it covers, and one that covers it
interval_covers : (outer inner : Interval) → intervals.is_cover outer inner ≡ true → intervals.is_meeting outer inner ≡ true
interval_covers outer inner h =
    let p = interval_laws.cover_from outer inner h in
    let o = inner.ordered in
    interval_laws.meeting_to outer inner (omega (arith, ints)) (omega (arith, ints))

interval_held : (inner outer : Interval) → intervals.is_cover outer inner ≡ true → intervals.is_meeting inner outer ≡ true
interval_held inner outer h =
    let p = interval_laws.cover_from outer inner h in
    let o = inner.ordered in
    interval_laws.meeting_to inner outer (omega (arith, ints)) (omega (arith, ints))

interval_related : (rel : Rel) (operand key : Interval) → intervals.is_related rel key operand ≡ true → intervals.is_meeting operand key ≡ true
interval_related Overlaps operand key h = let p = interval_laws.meeting_from key operand h in interval_laws.meeting_to operand key p.1 p.0
interval_related Within operand key h = interval_covers operand key h
interval_related Holds operand key h = interval_held operand key h
interval_related Same operand key h = interval_covers operand key (and_parts _ _ h).0

pub interval_overlaps : MatchesOverlap intervals.matches_atom interval_reach overlapping_interval
interval_overlaps a key reach is h =
    let same : a.operand ≡ reach = cc in
    subst (λ k. intervals.is_meeting k key ≡ true) same (interval_related a.rel a.operand key h)

-- the same of boxes
box_covers : (outer inner : BoxKey) → boxes.is_cover outer inner ≡ true → boxes.is_meeting outer inner ≡ true
box_covers outer inner h =
    let p = box_laws.cover_from outer inner h in
    let x = inner.x_ordered in
    let y = inner.y_ordered in
    box_laws.meeting_to outer inner (omega (arith, ints)) (omega (arith, ints)) (omega (arith, ints)) (omega (arith, ints))

box_held : (inner outer : BoxKey) → boxes.is_cover outer inner ≡ true → boxes.is_meeting inner outer ≡ true
box_held inner outer h =
    let p = box_laws.cover_from outer inner h in
    let x = inner.x_ordered in
    let y = inner.y_ordered in
    box_laws.meeting_to inner outer (omega (arith, ints)) (omega (arith, ints)) (omega (arith, ints)) (omega (arith, ints))

box_related : (rel : Rel) (operand key : BoxKey) → boxes.is_related rel key operand ≡ true → boxes.is_meeting operand key ≡ true
box_related Overlaps operand key h = let p = box_laws.meeting_from key operand h in box_laws.meeting_to operand key p.1 p.0 p.3 p.2
box_related Within operand key h = box_covers operand key h
box_related Holds operand key h = box_held operand key h
box_related Same operand key h = box_covers operand key (and_parts _ _ h).0

pub box_overlaps : MatchesOverlap boxes.matches_atom box_reach overlapping_box
box_overlaps a key reach is h =
    let same : a.operand ≡ reach = cc in
    subst (λ k. boxes.is_meeting k key ≡ true) same (box_related a.rel a.operand key h)

-- overlapping is symmetric
sets_meet : (a b : Elements) → sets.is_meeting a b ≡ true → sets.is_meeting b a ≡ true
sets_meet a b h = subst (λ m. not (m == 0) ≡ true) (and_comm a.mask b.mask) h

-- a set with an element overlaps each set that holds it
set_held : (inner outer : Elements) → (inner.mask == 0) ≡ false → sets.is_cover outer inner ≡ true → sets.is_meeting inner outer ≡ true
set_held inner outer some h =
    let whole : bit_and inner.mask outer.mask ≡ inner.mask = and_comm inner.mask outer.mask ∙ eqb-true _ _ h in
    rw (whole, some) refl

-- what `if_some` gives is the set itself, which has an element
some_given : (set reach : Elements) → if_some set ≡ Some reach → (set ≡ reach) × ((set.mask == 0) ≡ false)
some_given set reach is = by_test (set.mask == 0) refl
  where
    by_test : (b : Bool) → (set.mask == 0) ≡ b → (set ≡ reach) × ((set.mask == 0) ≡ false)
    by_test true e = absurd (let n : None ≡ Some reach = rw e at is in cc)
    by_test false e = let n : Some set ≡ Some reach = rw e at is in ((cc), e)

set_related : (rel : Rel) (operand key reach : Elements) → reach_by rel operand ≡ Some reach → sets.is_related rel key operand ≡ true → sets.is_meeting reach key ≡ true
set_related Overlaps operand key reach is h = let same : operand ≡ reach = cc in subst (λ k. sets.is_meeting k key ≡ true) same (sets_meet key operand h)
set_related Within operand key reach is h = absurd (cc)
set_related Holds operand key reach is h = let some = some_given operand reach is in subst (λ k. sets.is_meeting k key ≡ true) some.0 (set_held operand key some.1 h)
set_related Same operand key reach is h = let some = some_given operand reach is in subst (λ k. sets.is_meeting k key ≡ true) some.0 (set_held operand key some.1 (and_parts _ _ h).1)

pub set_overlaps : MatchesOverlap sets.matches_atom set_reach overlapping_set
set_overlaps a key reach is h = set_related a.rel a.operand key reach is h

-- each key matches the atom that asks for it
pub interval_itself : MatchesItself intervals.matches_atom same_interval
interval_itself key = rw (interval_laws.covers_itself key) refl

pub box_itself : MatchesItself boxes.matches_atom same_box
box_itself key = rw (box_laws.covers_itself key) refl

pub set_itself : MatchesItself sets.matches_atom same_set
set_itself key = rw (set_laws.covers_itself key) refl
