-- Which row each finder of a trace was asked to find, and what its events wrote.
use Rattle.std.proofs.Common.{◌≡◌, ◌<◌, ◌≤◌, ℕ, [], ◌∷◌, ◌++◌, length, take, Some, inl, inr, sym, ap, ◌∙◌, arith, subst}
use Rattle.std.specs.Prelude.{slice_get}
use Rattle.key_class.specs.Rules.{Rules}
use Rattle.mailbox.specs.Outlets.{Rule}
use Rattle.change_list.proofs.Lists.{slice_get_push, slice_get_before, slice_get_end, slice_get_within}
use Rattle.descent.specs.Finders.{OpenFinder}
use Rattle.world.specs.declared.event.Event.{Event}
use Rattle.world.specs.declared.event.Event.TheVariants as event
use Rattle.world.specs.declared.reply.Reply.{Reply}
use Rattle.world.specs.declared.reply.Reply.TheVariants as reply
use Rattle.world.specs.Stamps.{Stamp}
use Rattle.world.specs.States.{State, finder_at}
use Rattle.world.specs.Traces.{Moment, Trace, HasFinder, IsWriteOf}
use Rattle.world.proofs.Effects.{FinderEffect, Finding, Writing, WritesAs}
use Rattle.world.proofs.Askings.{take_push, take_end}

module _ {K A E : Type 0} where
  -- what holds of the finders of a trace and of the state that it leads to
  pub record Founds (trace : Trace K A E) (s : State K A) : Type 0 where
    pub found : (f : ℕ) (k : OpenFinder K) → finder_at s f ≡ Some k → HasFinder trace f k.row
    pub given : (i f row : ℕ) → slice_get trace i ≡ Some (event.Find row, reply.Finder f) → f ≤ s.last_finder
    pub once : (i j f row other : ℕ) → slice_get trace i ≡ Some (event.Find row, reply.Finder f) → slice_get trace j ≡ Some (event.Find other, reply.Finder f) → i ≡ j
    pub writes : (i : ℕ) (e : Event K A) (stamp : Stamp K) → slice_get trace i ≡ Some (e, reply.Committed stamp) → IsWriteOf (take i trace) e stamp.write

  found_push : (trace : Trace K A E) (m : Moment K A E) (f row : ℕ) → HasFinder trace f row → HasFinder (trace ++ m ∷ []) f row
  found_push trace m f row h = record { place = h.place; is = slice_get_before trace (m ∷ []) h.place (slice_get_within trace h.place _ h.is) ∙ h.is }

module _ {K A E : Type 0} (rules : Rules K A) (rule : Rule) (trace : Trace K A E) (old new : State K A) (e : Event K A) (r : Reply K E) (F : Founds trace old) (E' : FinderEffect rules rule old e r new) where
  write_now : (stamp : Stamp K) → Founds trace old → (d : Event K A) → WritesAs old d stamp.write → IsWriteOf trace d stamp.write
  write_now stamp F (event.Place page key tag) h = h
  write_now stamp F (event.Seek f) h = (h.0.row, F.found f h.0 h.1, h.2)
  write_now stamp F (event.Move f leaf key) h = (h.0.row, F.found f h.0 h.1, h.2)
  write_now stamp F d h = absurd h

  finding_now : (f row : ℕ) → ◌≡◌ {A = Event K A × Reply K E} (e, r) (event.Find row, reply.Finder f) → (old.last_finder < f) × (f ≤ new.last_finder)
  finding_now f row is = subst (λ m. Finding rules rule old new m.0 m.1) is E'.finding

  pub founds_push : Founds (trace ++ (e, r) ∷ []) new
  founds_push = record {
    found = λ f k h. elim (E'.asked f k h) [
      | inl b ↦ found_push trace (e, r) f k.row (subst (λ n. HasFinder trace f n) b.2 (F.found f b.0 b.1))
      | inr is ↦ record { place = length trace; is = slice_get_end trace (e, r) ∙ ap Some is }
    ];
    given = λ i f row h. elim (slice_get_push trace (e, r) (event.Find row, reply.Finder f) i h) [
      | inl p ↦ omega (arith, F.given i f row p.0, E'.last)
      | inr p ↦ (finding_now f row p.1).1
    ];
    once = λ i j f row other h g. elim (slice_get_push trace (e, r) (event.Find row, reply.Finder f) i h) [
      | inl p ↦ elim (slice_get_push trace (e, r) (event.Find other, reply.Finder f) j g) [
        | inl q ↦ F.once i j f row other p.0 q.0
        | inr q ↦ absurd (omega (arith, F.given i f row p.0, (finding_now f other q.1).0))
      ]
      | inr p ↦ elim (slice_get_push trace (e, r) (event.Find other, reply.Finder f) j g) [
        | inl q ↦ absurd (omega (arith, F.given j f other q.0, (finding_now f row p.1).0))
        | inr q ↦ p.0 ∙ sym q.0
      ]
    ];
    writes = λ i d stamp h. elim (slice_get_push trace (e, r) (d, reply.Committed stamp) i h) [
      | inl p ↦ rw (take_push trace (e, r) i (omega (arith, p.1))) (F.writes i d stamp p.0)
      | inr p ↦ rw (p.0, take_end trace (e, r)) (write_now stamp F d (subst (λ (m : Moment K A E). Writing rules rule old m.0 m.1) p.1 E'.writing))
    ];
  }
