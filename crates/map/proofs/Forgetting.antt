-- A map that forgets older changes has the same entries and revision.
use Rattle.std.proofs.Common.{◌≡◌, ◌⊎◌, inl, inr, ◌+◌, ◌-◌, ◌≤◌, ℕ, Bool, true, false, List, [], ◌∷◌, ◌++◌, length, take, drop, Option, Some, None, refl, sym, ap, ◌∙◌, arith, subst}
use Rattle.std.proofs.lemmas.List.{length-append, take-append-drop}
use Rattle.revisions.specs.declared.change.MapChange.{MapChange}
use Rattle.revisions.specs.declared.change.MapChange.TheVariants.{Remove}
use Rattle.revisions.specs.Maps.{Forgets, MapState, entries_after, entries_of, has_id, revision_of, with_change}
use Rattle.revisions.proofs.Forgetting.{after_append, revision_kept}
use Rattle.std.specs.Prelude.{IfSome, option_map}
use Rattle.map.specs.Kept.{Changes, ChangesIf, ForgetsOnly, IsKept, KeptMap}
use Rattle.map.specs.Rolls.{RollState}
use Rattle.map.specs.Refusals.{RemovesIf}
use Rattle.map.specs.Successors.{IsReady, IsSuccessor}

module _ {K : Type 0} where
  upto_within : (history : ℕ) (old new : MapState K) (f : Forgets history old new) → f.upto ≤ revision_of old
  upto_within history old new f = elim f.keeps [ inl e ↦ omega (arith, e) | inr l ↦ omega (arith, l) ]

  pub forgets_revision : (history : ℕ) (old new : MapState K) → Forgets history old new → revision_of new ≡ revision_of old
  forgets_revision history old new f = ap revision_of f.is ∙ revision_kept old f.upto f.later (upto_within history old new f)

  pub forgets_entries : (history : ℕ) (old new : MapState K) → Forgets history old new → entries_of new ≡ entries_of old
  forgets_entries history old new f =
      ap entries_of f.is
      ∙ sym (after_append old.first (take (f.upto - old.oldest) old.changes) (drop (f.upto - old.oldest) old.changes))
      ∙ ap (entries_after old.first) (take-append-drop (f.upto - old.oldest) old.changes)

  pub ready_forgets : (map : MapState K) (history : ℕ) (next : MapState K) → IsReady map history next → Forgets history map next
  ready_forgets map history next ready = record { upto = next.oldest; later = ready.known; keeps = inr ready.keeps; is = ready.is }

  pub forgets_none : (old new : KeptMap K) → new ≡ old → ForgetsOnly old new
  forgets_none old new same = record {
    config = ap (λ (m : KeptMap K). m.config) same;
    forgets = record {
      upto = old.map.oldest;
      later = omega arith;
      keeps = inl refl;
      is =
          let none : old.map.oldest - old.map.oldest ≡ 0 = omega arith in
          ap (λ (m : KeptMap K). m.map) same
          ∙ sym (ap (λ n. record { oldest = old.map.oldest; first = entries_after old.map.first (take n old.map.changes); changes = drop n old.map.changes }) none);
    };
  }

  -- a change after forgetting is one revision more
  pub changed_revision : (history : ℕ) (old between new : MapState K) (c : MapChange K) → Forgets history old between → new ≡ with_change c between → revision_of new ≡ revision_of old + 1
  changed_revision history old between new c f is =
      let longer : length (between.changes ++ c ∷ []) ≡ length between.changes + 1 = length-append between.changes (c ∷ []) in
      let one : revision_of (with_change c between) ≡ revision_of between + 1 = omega (arith, longer) in
      ap revision_of is ∙ one ∙ ap (λ n. n + 1) (forgets_revision history old between f)

  -- what a removal gives, where there was a key and where there was none
  pub removal_ok : (id : ℕ) (old new : KeptMap K) (between : MapState K) → new.config ≡ old.config → Forgets old.config.history old.map between → (had : Bool) → had ≡ has_id id (entries_of between) → RemovesIf id between new.map had → had ≡ true
      → (n : ℕ) → n ≡ revision_of new.map → ChangesIf (Remove id) (has_id id (entries_of old.map)) old new (Some n)
  removal_ok id old new between config f had is removes true' n number =
      let there : has_id id (entries_of old.map) ≡ true = ap (has_id id) (sym (forgets_entries old.config.history old.map between f)) ∙ sym is ∙ true' in
      let made : new.map ≡ with_change (Remove id) between = subst (λ b. RemovesIf id between new.map b) true' removes in
      subst (λ b. ChangesIf (Remove id) b old new (Some n)) (sym there) (
        record { config = config; between = between; forgets = f; is = made },
        ap Some (number ∙ changed_revision old.config.history old.map between new.map (Remove id) f made),
      )

  pub removal_none : (id : ℕ) (old new : KeptMap K) (between : MapState K) → new.config ≡ old.config → Forgets old.config.history old.map between → (had : Bool) → had ≡ has_id id (entries_of between) → RemovesIf id between new.map had → had ≡ false
      → ChangesIf (Remove id) (has_id id (entries_of old.map)) old new None
  removal_none id old new between config f had is removes false' =
      let absent : has_id id (entries_of old.map) ≡ false = ap (has_id id) (sym (forgets_entries old.config.history old.map between f)) ∙ sym is ∙ false' in
      let same : new.map ≡ between = subst (λ b. RemovesIf id between new.map b) false' removes in
      subst (λ b. ChangesIf (Remove id) b old new None) (sym absent) (
        record { config = config; forgets = subst (λ m. Forgets old.config.history old.map m) (sym same) f },
        refl,
      )

-- a successor at its beginning, if there is one
pub kept_from : {K S : Type 0} (map : MapState K) (parts : S → RollState K × MapState K) (o : Option S) → IfSome o (λ next. IsSuccessor map (parts next).0 (parts next).1) → IsKept map (option_map parts o)
kept_from map parts None is = tt
kept_from map parts (Some next) is = is
