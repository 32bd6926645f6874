-- Why a visit of an insertion is refused for good.
use Rattle.std.proofs.Common.{◌≡◌, ◌⊎◌, ◌+◌, ◌<◌, Bool, true, false, List, [], ◌∷◌, length, Some, None, Result, Ok, Err, IfErr, OnOk, ◌≢◌, inl, inr, sym, ◌∙◌, arith}
use Rattle.std.proofs.lemmas.Option.{same_Some}
use Rattle.key_class.specs.Rules.{Rules}
use Rattle.mailbox.specs.Outlets.{Rule}
use Rattle.key_class.specs.declared.refusal.Refusal.{Refusal}
use Rattle.key_class.specs.declared.refusal.Refusal.TheVariants as refusal
use Rattle.split.specs.Tests.{first_failing, enlarge_tests, post_tests}
use Rattle.world.specs.declared.event.Event.{Event}
use Rattle.world.specs.declared.event.Event.TheVariants as event
use Rattle.world.specs.States.{State}
use Rattle.world.specs.Steps.{IsRefused, tests, RefusesLater}
use Rattle.writes.specs.PageSteps.{IsWanting}
use Rattle.writes.specs.Splitting.{MovesUnlessBarred}
use Rattle.writes.specs.InsertVisits.{IsOfPages}
use Rattle.writes.proofs.MovingPages.{NoneFull, split_full, grow_full}

-- tests none of which tells of too few pages
never_full : (tests : List (Bool × Refusal)) → NoneFull tests → first_failing tests ≡ Some refusal.PagesFull → ⊥
never_full [] n e = absurd cc
never_full ((true, why) ∷ tests) n e = n.0 (same_Some why refusal.PagesFull e)
never_full ((false, why) ∷ tests) n e = never_full tests n.1 e

module _ {K A : Type 0} (rules : Rules K A) (rule : Rule) (old new : State K A) where
  full_pages : (e : Event K A) → IsOfPages e → first_failing (tests rules rule old e) ≡ Some refusal.PagesFull → old.search.limit < length old.search.tree.pages + 2
  full_pages (event.Enlarge parent child k) own f = absurd (never_full (enlarge_tests rules.is_cover old.search parent child k) ((λ h. cc), ((λ h. cc), tt)) f)
  full_pages (event.Split page sides) own f = omega (arith, split_full old.search page sides f)
  full_pages (event.Post parent child) own f = absurd (never_full (post_tests old.search parent child) ((λ h. cc), ((λ h. cc), tt)) f)
  full_pages (event.Grow sides) own f = grow_full old.search sides f
  full_pages e own f = absurd own

  later_memory : (e : Event K A) (why : Refusal) → IsOfPages e → RefusesLater rules rule old e why → why ≡ refusal.OutOfMemory
  later_memory (event.Enlarge parent child k) why own h = h
  later_memory (event.Split page sides) why own h = h
  later_memory (event.Post parent child) why own h = h
  later_memory (event.Grow sides) why own h = h
  later_memory e why own h = absurd own

  from_cause : (e : Event K A) (why : Refusal) → IsOfPages e → why ≡ refusal.PagesFull → (first_failing (tests rules rule old e) ≡ Some why) ⊎ ((first_failing (tests rules rule old e) ≡ None) × RefusesLater rules rule old e why) → old.search.limit < length old.search.tree.pages + 2
  from_cause e why own full (inl failing) = full_pages e own (rw full at failing)
  from_cause e why own full (inr later) = absurd (let h : refusal.OutOfMemory ≡ refusal.PagesFull = sym (later_memory e why own later.1) ∙ full in cc)

  -- a refusal that is told, by want of pages or memory alone
  pub told_wanting : {B : Type 0} (e : Event K A) (why : Refusal) (told : Result B Refusal) → IsOfPages e → IsRefused rules rule old e why new
      → IfErr told (λ r. r ≡ why) → IfErr told (λ r. (r ≡ refusal.OutOfMemory) ⊎ (r ≡ refusal.PagesFull)) → IfErr told (IsWanting old.search)
  told_wanting e why (Ok b) own refused same some = tt
  told_wanting e why (Err r) own refused same (inl memory) = inl memory
  told_wanting e why (Err r) own refused same (inr full) = inr (full, from_cause e why own (sym same ∙ full) refused.cause)

  failing : (e : Event K A) (why : Refusal) → IsOfPages e → why ≢ refusal.OutOfMemory → (first_failing (tests rules rule old e) ≡ Some why) ⊎ ((first_failing (tests rules rule old e) ≡ None) × RefusesLater rules rule old e why)
      → first_failing (tests rules rule old e) ≡ Some why
  failing e why own memory (inl fails) = fails
  failing e why own memory (inr later) = absurd (memory (later_memory e why own later.1))

  -- where a refusal isn't told, for it is none by want of pages or memory, the event is barred
  pub untold_barred : {B : Type 0} (e : Event K A) (why : Refusal) (told : Result B Refusal) → IsOfPages e → IsRefused rules rule old e why new
      → OnOk told (why ≢ refusal.OutOfMemory) → OnOk told (why ≢ refusal.PagesFull) → OnOk told (MovesUnlessBarred rules rule old e new)
  untold_barred e why (Ok b) own refused memory pages = inr (record { why = why; fails = failing e why own memory refused.cause; not_full = pages }, refused.unchanged)
  untold_barred e why (Err r) own refused memory pages = tt
