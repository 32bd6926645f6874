-- What a step that changes pages alone leaves of a world, why one is refused, and what placing a row leaves.
use Rattle.std.proofs.Common.{◌≡◌, ◌⊎◌, ◌+◌, ◌<◌, ◌≤◌, ℕ, Bool, true, false, not, ◌||◌, List, [], ◌∷◌, ◌++◌, length, Option, Some, None, inl, inr, refl, sym, ap, ◌∙◌, arith, subst}
use Rattle.std.specs.Prelude.{nat_eq, nat_le, nat_lt, IsPermutation}
use Rattle.std.proofs.lemmas.Option.{same_Some}
use Rattle.std.proofs.lemmas.List.Sorted.{IsPermutation-refl, IsPermutation-trans}
use Rattle.key_class.specs.Rules.{Rules}
use Rattle.mailbox.specs.Outlets.{Rule}
use Rattle.key_class.specs.declared.sides.Side.{Side}
use Rattle.key_class.specs.declared.refusal.Refusal.{Refusal}
use Rattle.key_class.specs.declared.refusal.Refusal.TheVariants as refusal
use Rattle.row_version.specs.Entries.{Entry}
use Rattle.node.specs.Changes.{with_rows}
use Rattle.page_table.proofs.PageLists.{replaced-length}
use Rattle.page_table.specs.Keeping.{KeepsRows}
use Rattle.page_table.specs.Trees.{Tree, page_at, after_rows}
use Rattle.split.specs.SearchTrees.{SearchTree}
use Rattle.split.specs.Steps.{after_enlarge, after_grow, after_post, after_split}
use Rattle.split.specs.Tests.{first_failing, parts_well, place_tests, enlarge_tests, split_tests, post_tests, grow_tests}
use Rattle.world.proofs.Placing.{page_exists}
use Rattle.world.proofs.Resting.{deaths_kept, deaths_placed, rests_refl, rests_trans, step_rests}
use Rattle.world.specs.declared.event.Event.{Event}
use Rattle.world.specs.declared.event.Event.TheVariants as event
use Rattle.world.specs.declared.reply.Reply.{Reply}
use Rattle.world.specs.declared.reply.Reply.TheVariants as reply
use Rattle.world.specs.Promises.{ServesAll, KeepsRowsUnder}
use Rattle.world.specs.Resting.{Rests, deaths}
use Rattle.world.specs.Stamps.{Stamp}
use Rattle.world.specs.States.{State, with_pages, IsSoundWorld}
use Rattle.world.specs.Steps.{Step, Changes, IsCarriedOut, IsRefused, Places}
use Rattle.world.specs.Traces.{taken_by}
use Rattle.writes.specs.PageSteps.{IsWanting, MayMove, Moves, MovesPages}
use Rattle.writes.specs.InsertVisits.{IsOfPages}

-- tests before the last, none of which tells of too few pages
abbrev pub NoneFull : List (Bool × Refusal) → Type 0
NoneFull [] = Unit {0}
NoneFull ((fails, why) ∷ tests) = (why ≡ refusal.PagesFull → ⊥) × NoneFull tests

-- where too few pages are told of, the last test failed
last_fails : (tests : List (Bool × Refusal)) (full : Bool) → NoneFull tests → first_failing (tests ++ (full, refusal.PagesFull) ∷ []) ≡ Some refusal.PagesFull → full ≡ true
last_fails [] true n e = refl
last_fails [] false n e = absurd cc
last_fails ((true, why) ∷ tests) full n e = absurd (n.0 (same_Some why refusal.PagesFull e))
last_fails ((false, why) ∷ tests) full n e = last_fails tests full n.1 e

le_from : (a b : ℕ) → nat_le a b ≡ true → a ≤ b
le_from a b h = search (arith, h)

lt_from : (a b : ℕ) → nat_lt a b ≡ true → a < b
lt_from a b h = search (arith, h)

module _ {K : Type 0} where
  pub split_full : (s : SearchTree K) (p : ℕ) (sides : List Side) → first_failing (split_tests s p sides) ≡ Some refusal.PagesFull → s.limit ≤ length s.tree.pages
  split_full s p sides e =
      le_from s.limit (length s.tree.pages)
      (last_fails
      ((nat_eq p 0 || nat_le (length s.tree.pages) p, refusal.NotHere)
      ∷ ((page_at s.tree p).owed, refusal.Owed)
      ∷ (not (page_at s.tree p).hung, refusal.Unhung)
      ∷ (nat_lt (length (page_at s.tree p).rows + length (page_at s.tree p).branches) s.fan, refusal.TooFew)
      ∷ (not (parts_well s.least (page_at s.tree p) sides), refusal.BadSides) ∷ [])
      (nat_le s.limit (length s.tree.pages)) ((λ h. cc), ((λ h. cc), ((λ h. cc), ((λ h. cc), ((λ h. cc), tt))))) e)

  pub grow_full : (s : SearchTree K) (sides : List Side) → first_failing (grow_tests s sides) ≡ Some refusal.PagesFull → s.limit < length s.tree.pages + 2
  grow_full s sides e =
      lt_from s.limit (length s.tree.pages + 2)
      (last_fails ((nat_lt (length (page_at s.tree 0).rows + length (page_at s.tree 0).branches) s.fan, refusal.TooFew) ∷ (not (parts_well s.least (page_at s.tree 0) sides), refusal.BadSides) ∷ [])
      (nat_lt s.limit (length s.tree.pages + 2)) ((λ h. cc), ((λ h. cc), tt)) e)

-- the cause of a refusal
abbrev Cause : Option Refusal → Refusal → Type 0
Cause failing why = (failing ≡ Some why) ⊎ ((failing ≡ None) × (why ≡ refusal.OutOfMemory))

cause_passed : (failing : Option Refusal) (why : Refusal) → failing ≡ None → Cause failing why → why ≡ refusal.OutOfMemory
cause_passed failing why none (inl e) = absurd (let h : None ≡ Some why = sym none ∙ e in cc)
cause_passed failing why none (inr e) = e.1

cause_full : (failing : Option Refusal) (why : Refusal) → failing ≡ Some refusal.PagesFull → Cause failing why → why ≡ refusal.PagesFull
cause_full failing why full (inl e) = same_Some why refusal.PagesFull (sym e ∙ full)
cause_full failing why full (inr e) = absurd (let h : None ≡ Some refusal.PagesFull = sym e.0 ∙ full in cc)

module _ {K : Type 0} (s : SearchTree K) where
  wanting_from : (failing : Option Refusal) (why : Refusal) → (failing ≡ None) ⊎ (failing ≡ Some refusal.PagesFull) → (failing ≡ Some refusal.PagesFull → s.limit < length s.tree.pages + 2) → Cause failing why → IsWanting s why
  wanting_from failing why (inl none) full cause = inl (cause_passed failing why none cause)
  wanting_from failing why (inr e) full cause = inr (cause_full failing why e cause, full e)

module _ {K A : Type 0} (rules : Rules K A) (rule : Rule) (old new : State K A) where
  wants_pages : (e : Event K A) (why : Refusal) → MayMove rules.is_cover old e → IsRefused rules rule old e why new → IsWanting old.search why
  wants_pages (event.Enlarge page child key) why may r = inl (cause_passed (first_failing (enlarge_tests rules.is_cover old.search page child key)) why may r.cause)
  wants_pages (event.Post page child) why may r = inl (cause_passed (first_failing (post_tests old.search page child)) why may r.cause)
  wants_pages (event.Split page sides) why may r =
      wanting_from old.search (first_failing (split_tests old.search page sides)) why may (λ full. omega (arith, split_full old.search page sides full)) r.cause
  wants_pages (event.Grow sides) why may r = wanting_from old.search (first_failing (grow_tests old.search sides)) why may (λ full. grow_full old.search sides full) r.cause
  wants_pages e why may r = absurd may

  -- where it was refused
  pub refused_wanting : (e : Event K A) (why : Refusal) → MayMove rules.is_cover old e → IsRefused rules rule old e why new → IsWanting new.search why
  refused_wanting e why may r = subst (λ (s : State K A). IsWanting s.search why) (sym r.unchanged) (wants_pages e why may r)

module _ {K A : Type 0} (rules : Rules K A) (rule : Rule) where
  pub moves_none : (s : State K A) → MovesPages rules rule s s
  moves_none s = record { rests = rests_refl rules rule s; commits = refl; dead = IsPermutation-refl (deaths s.search.tree); finders = refl; last_finder = refl }

  pub moves_more : (a b c : State K A) → MovesPages rules rule a b → MovesPages rules rule b c → MovesPages rules rule a c
  moves_more a b c m n = record {
    rests = rests_trans rules rule a b c m.rests n.rests;
    commits = n.commits ∙ m.commits;
    dead = IsPermutation-trans (deaths a.search.tree) (deaths b.search.tree) (deaths c.search.tree) m.dead n.dead;
    finders = n.finders ∙ m.finders;
    last_finder = n.last_finder ∙ m.last_finder;
  }

  pub refused_moves : (old new : State K A) → new ≡ old → MovesPages rules rule old new
  refused_moves old new same = subst (λ (s : State K A). MovesPages rules rule old s) (sym same) (moves_none old)

rows_pages : {K : Type 0} (t : Tree K) (p : ℕ) (rows : List (Entry K)) → length (after_rows t p rows).pages ≡ length t.pages
unfolding after_rows
rows_pages t p rows = replaced-length t p (with_rows (page_at t p) rows)

module _ {K A : Type 0} (is_cover : K → K → Bool) (old : State K A) where
  -- an event that may be made changes pages alone
  of_pages : (e : Event K A) → MayMove is_cover old e → IsOfPages e
  of_pages (event.Enlarge page child key) may = tt
  of_pages (event.Split page sides) may = tt
  of_pages (event.Post page child) may = tt
  of_pages (event.Grow sides) may = tt
  of_pages e may = absurd may

module _ {K A E : Type 0} (rules : Rules K A) (rule : Rule) (old new : State K A) where
  -- an answer that doesn't refuse
  done_of : (seat : ℕ) (e : Event K A) (r : Reply K E) → ((why : Refusal) → r ≡ reply.Refused why → ⊥) → Step rules rule seat old e r new → IsCarriedOut rules rule seat old e r new
  done_of seat e (reply.Refused why) not d = absurd (not why refl)
  done_of seat e r not d = d

  changed_pages : (seat : ℕ) (e : Event K A) (r : Reply K E) → IsOfPages e → Changes rules rule seat old e r new → Moves rules.union_of old e new
  changed_pages seat (event.Enlarge page child key) reply.Enlarged own d = d
  changed_pages seat (event.Enlarge page child key) r own d = absurd d
  changed_pages seat (event.Split page sides) (reply.Split sibling) own d = d.1
  changed_pages seat (event.Split page sides) r own d = absurd d
  changed_pages seat (event.Post page child) reply.Posted own d = d
  changed_pages seat (event.Post page child) r own d = absurd d
  changed_pages seat (event.Grow sides) (reply.Grown first second) own d = d.2
  changed_pages seat (event.Grow sides) r own d = absurd d
  changed_pages seat e r own d = absurd own

  -- where an event of pages wasn't refused
  pub made_of_pages : (seat : ℕ) (e : Event K A) (r : Reply K E) → IsOfPages e → ((why : Refusal) → r ≡ reply.Refused why → ⊥) → Step rules rule seat old e r new → Moves rules.union_of old e new
  made_of_pages seat e r own not d = changed_pages seat e r own (done_of seat e r not d).change

  -- where one wasn't that may be made
  pub made_moves : (seat : ℕ) (e : Event K A) (r : Reply K E) → MayMove rules.is_cover old e → ((why : Refusal) → r ≡ reply.Refused why → ⊥) → Step rules rule seat old e r new → Moves rules.union_of old e new
  made_moves seat e r may not d = made_of_pages seat e r (of_pages rules.is_cover old e may) not d

  moved_to : (e : Event K A) (r : Reply K E) (tree : Tree K) → new ≡ with_pages old tree → ServesAll rules rule old e r new → ((c : ℕ) → taken_by c (e, r) ≡ None) → KeepsRows old.search.tree new.search.tree → MovesPages rules rule old new
  moved_to e r tree is serves none kept = record {
    rests = step_rests rules rule old e r new serves none (ap (λ (s : State K A). s.limit) is) (ap (λ (s : State K A). s.search.limit) is) kept.pages (ap (λ (s : State K A). s.last) is) (ap (λ (s : State K A). s.cursors) is);
    commits = ap (λ (s : State K A). s.commits) is;
    dead = deaths_kept old.search.tree new.search.tree kept;
    finders = ap (λ (s : State K A). s.finders) is;
    last_finder = ap (λ (s : State K A). s.last_finder) is;
  }

  -- where it was made
  pub moves_pages : (e : Event K A) (r : Reply K E) → Moves rules.union_of old e new → ServesAll rules rule old e r new → KeepsRowsUnder old e new → MovesPages rules rule old new
  moves_pages (event.Enlarge page child key) r m serves kept = moved_to (event.Enlarge page child key) r (after_enlarge rules.union_of old.search.tree page child key) m serves (λ c. refl) kept
  moves_pages (event.Split page sides) r m serves kept = moved_to (event.Split page sides) r (after_split rules.union_of old.search.tree page sides) m serves (λ c. refl) kept
  moves_pages (event.Post page child) r m serves kept = moved_to (event.Post page child) r (after_post old.search.tree page child m.sibling) m.after serves (λ c. refl) kept
  moves_pages (event.Grow sides) r m serves kept = moved_to (event.Grow sides) r (after_grow rules.union_of old.search.tree sides) m serves (λ c. refl) kept
  moves_pages e r m serves kept = absurd m

  module _ (seat page : ℕ) (key : K) (tag : ℕ) (stamp : Stamp K) (p : Places seat old page key tag stamp new) where
    pub place_rests : (r : Reply K E) → ServesAll rules rule old (event.Place page key tag) r new → Rests rules rule old new
    place_rests r serves = step_rests rules rule old (event.Place page key tag) r new serves (λ c. refl) (ap (λ (s : State K A). s.limit) p.after) (ap (λ (s : State K A). s.search.limit) p.after)
        (omega (arith, ap (λ (s : State K A). length s.search.tree.pages) p.after, rows_pages old.search.tree page ((page_at old.search.tree page).rows ++ (record { key = key; row = length old.commits + 1; tag = tag; died = None }) ∷ []))) (ap (λ (s : State K A). s.last) p.after) (ap (λ (s : State K A). s.cursors) p.after)

module _ {K A : Type 0} (rules : Rules K A) (rule : Rule) (old new : State K A) (seat page : ℕ) (key : K) (tag : ℕ) (stamp : Stamp K) where
  pub place_deaths : IsSoundWorld rules.is_cover old → first_failing (place_tests rules.is_cover old.search page key) ≡ None → Places seat old page key tag stamp new → IsPermutation (deaths old.search.tree) (deaths new.search.tree)
  place_deaths sound passes p =
      subst (λ (s : State K A). IsPermutation (deaths old.search.tree) (deaths s.search.tree)) (sym p.after)
      (deaths_placed rules.is_cover old.search.tree old.search.fan sound.tree.sound page (page_exists rules rule old page key tag passes) key (length old.commits + 1) tag)
