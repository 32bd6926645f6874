-- Why a finder of a live row doesn't go on.
use Rattle.std.proofs.Common.{◌≡◌, ◌≤◌, ℕ, Bool, true, false, List, [], ◌∷◌, ◌++◌, length, Some, None, inl, inr, refl, ap, ◌∙◌, sym, arith}
use Rattle.std.specs.Prelude.{nat_le}
use Rattle.std.proofs.lemmas.Option.{same_Some}
use Rattle.key_class.specs.Rules.{Rules}
use Rattle.mailbox.specs.Outlets.{Rule}
use Rattle.key_class.specs.declared.refusal.Refusal.{Refusal}
use Rattle.key_class.specs.declared.refusal.Refusal.TheVariants as refusal
use Rattle.change_list.proofs.Tracking.{live_kept}
use Rattle.change_list.specs.Changes.{is_ended, status_of}
use Rattle.change_list.specs.declared.write.Status.TheVariants.{Live}
use Rattle.descent.specs.Finders.{OpenFinder, is_at_row}
use Rattle.writes.specs.Ending.{MayEnd, event_of_ending}
use Rattle.writes.specs.EndVisits.{RefusesCommit}
use Rattle.writes.specs.declared.ending.Ending.{Ending}
use Rattle.writes.specs.declared.ending.Ending.TheVariants as ending
use Rattle.split.specs.Tests.{first_failing, place_tests}
use Rattle.world.specs.States.{State, finder_at}
use Rattle.world.specs.Steps.{IsRefused, RefusesLater, commit_tests, tests, visit_tests}
use Rattle.world.proofs.Meeting.{visit_further, visit_here}
use Rattle.world.proofs.Refusing.{failing_later}

module _ {K A : Type 0} (is_cover : K → K → Bool) (old : State K A) where
  -- what is tested where the row is met
  further : Ending K → List (Bool × Refusal)
  further ending.Delete = commit_tests old
  further (ending.Move leaf key) = place_tests is_cover old.search leaf key ++ commit_tests old

  at_last : (how : Ending K) → MayEnd is_cover old.search how → first_failing (further how) ≡ first_failing (commit_tests old)
  unfolding further
  at_last ending.Delete may = refl
  at_last (ending.Move leaf key) may = failing_later (place_tests is_cover old.search leaf key) (commit_tests old) may

  by_commits : (why : Refusal) (b : Bool) → nat_le old.limit (length old.commits) ≡ b → first_failing ((b, refusal.CommitsFull) ∷ []) ≡ Some why → RefusesCommit old why
  by_commits why true e failed = inr (sym (same_Some refusal.CommitsFull why failed), (let full : old.limit ≤ length old.commits = search (arith, e) in full))
  by_commits why false e failed = absurd cc

module _ {K A : Type 0} (rules : Rules K A) (rule : Rule) where
  tested : (old : State K A) (f : ℕ) (how : Ending K) → first_failing (tests rules rule old (event_of_ending f how)) ≡ first_failing (visit_tests old f (further rules.is_cover old how))
  unfolding further
  tested old f ending.Delete = refl
  tested old f (ending.Move leaf key) = refl

  memory : (old : State K A) (f : ℕ) (why : Refusal) (how : Ending K) → RefusesLater rules rule old (event_of_ending f how) why → why ≡ refusal.OutOfMemory
  memory old f why ending.Delete h = h.memory
  memory old f why (ending.Move leaf key) h = h.memory

pub refused_step : {K A : Type 0} (rules : Rules K A) (rule : Rule) (old new : State K A) (row f : ℕ) (why : Refusal) (k : OpenFinder K) (how : Ending K)
    → status_of old.commits row ≡ Live → finder_at old f ≡ Some k → k.row ≡ row → MayEnd rules.is_cover old.search how → IsRefused rules rule old (event_of_ending f how) why new → RefusesCommit old why
refused_step rules rule old new row f why k how live found same may r = elim r.cause [
  | inl failed ↦ by_place (is_at_row old.search.tree k) refl (sym (tested rules rule old f how) ∙ failed)
  | inr later ↦ inl (memory rules rule old f why how later.1)
]
  where
    alive : is_ended old.commits k.row ≡ false
    alive = ap (is_ended old.commits) same ∙ live_kept old.commits row live

    by_place : (b : Bool) → is_at_row old.search.tree k ≡ b → first_failing (visit_tests old f (further rules.is_cover old how)) ≡ Some why → RefusesCommit old why
    by_place true e failed = by_commits rules.is_cover old why (nat_le old.limit (length old.commits)) refl (sym (at_last rules.is_cover old how may) ∙ sym (visit_here old f k found (further rules.is_cover old how) alive e) ∙ failed)
    by_place false e failed = absurd (let none : None ≡ Some why = sym (visit_further old f k found (further rules.is_cover old how) alive e) ∙ failed in cc)
