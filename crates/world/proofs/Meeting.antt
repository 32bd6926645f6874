-- The calls that change one open finder.
use Rattle.std.proofs.Common.{◌≡◌, ◌+◌, ◌<◌, ◌≤◌, ℕ, Bool, true, false, map, List, [], ◌∷◌, ◌++◌, length, Some, None, inl, inr, refl, sym, ap, ◌∙◌, arith, subst, get_or, set, remove}
use Rattle.std.specs.Prelude.{nat_le}
use Rattle.std.proofs.lemmas.Option.{get_or_from_slice_get}
use Rattle.key_class.specs.declared.refusal.Refusal.TheVariants as refusal
use Rattle.key_class.specs.declared.refusal.Refusal.{Refusal}
use Rattle.change_list.specs.declared.item.Row.{Row}
use Rattle.change_list.specs.Changes.{is_ended, row_at, status_of}
use Rattle.change_list.proofs.Tracking.{dead_made}
use Rattle.change_list.specs.declared.write.Status.TheVariants.{Live, Dead}
use Rattle.change_list.specs.declared.write.Write.{Write}
use Rattle.change_list.specs.declared.write.Write.TheVariants.{Delete, Move}
use Rattle.change_list.proofs.Lists.{slice_get_within}
use Rattle.row_version.specs.Entries.{marked}
use Rattle.page_table.specs.LeafChanges.{after_move}
use Rattle.page_table.specs.Trees.{page_at, after_rows}
use Rattle.split.specs.SearchTrees.{SearchTree, with_tree}
use Rattle.split.specs.Tests.{first_failing, place_tests}
use Rattle.descent.specs.Finders.{OpenFinder, IsSeeking, FindsRow, GoesFurther, is_at_row}
use Rattle.descent.proofs.Seeking.{not_at_end, finds_at_row, further_not_at_row}
use Rattle.world.specs.Serials.{without, put}
use Rattle.world.specs.Stamps.{Stamp}
use Rattle.world.specs.States.{State, finder_at, with_finder, IsSoundWorld, IsFinderAt, Meets}
use Rattle.world.specs.Steps.{commit_tests, visit_tests, where_met, Buries, IsRefusedVisit, MovesRow}
use Rattle.mailbox.specs.Outlets.{Rule}
use Rattle.key_class.specs.Rules.{Rules}
use Rattle.scan.specs.Scanning.{PushesSome}
use Rattle.world.proofs.Refusing.{failing_first, failing_later, fails_at, passes_at}
use Rattle.world.proofs.Serials.{put_at, without_at}
use Rattle.world.proofs.FinderSteps.{finder_of, met_all, row_lives, sought_on_sound, unmet_pass}
use Rattle.world.proofs.Handling.{set_same}

module _ {K A : Type 0} (old : State K A) (f : ℕ) (k : OpenFinder K) (is_open : finder_at old f ≡ Some k) (further : List (Bool × Refusal)) where
  tests_are : first_failing (visit_tests old f further) ≡ first_failing ((is_ended old.commits k.row, refusal.AlreadyDeleted) ∷ where_met (is_at_row old.search.tree k) further)
  tests_are = rw is_open refl

  visit_dead : is_ended old.commits k.row ≡ true → first_failing (visit_tests old f further) ≡ Some refusal.AlreadyDeleted
  visit_dead dead = tests_are ∙ fails_at (is_ended old.commits k.row) refusal.AlreadyDeleted (where_met (is_at_row old.search.tree k) further) dead

  -- where it meets its row, the further tests decide
  pub visit_here : is_ended old.commits k.row ≡ false → is_at_row old.search.tree k ≡ true → first_failing (visit_tests old f further) ≡ first_failing further
  visit_here alive there =
      tests_are ∙ passes_at (is_ended old.commits k.row) refusal.AlreadyDeleted (where_met (is_at_row old.search.tree k) further) alive
      ∙ ap (λ b. first_failing (where_met b further)) there ∙ ap first_failing (met_all further)

  pub visit_further : is_ended old.commits k.row ≡ false → is_at_row old.search.tree k ≡ false → first_failing (visit_tests old f further) ≡ None
  visit_further alive away =
      tests_are ∙ passes_at (is_ended old.commits k.row) refusal.AlreadyDeleted (where_met (is_at_row old.search.tree k) further) alive
      ∙ ap (λ b. first_failing (where_met b further)) away ∙ unmet_pass further

module _ {K A : Type 0} (is_cover : K → K → Bool) (old : State K A) (inv : IsSoundWorld is_cover old) (f at : ℕ) (a : IsFinderAt old f at) where
  pub finder_within : at < length old.finders
  finder_within = slice_get_within old.finders at a.value a.is

  pub finder_gone : (others : List (OpenFinder K)) → others ≡ remove old.finders at → others ≡ without (λ k. k.serial) f old.finders
  finder_gone others is = is ∙ sym (without_at (λ k. k.serial) f 0 old.last_finder at old.finders a.value inv.finders.serials a.is a.number)

  finder_put : (later : OpenFinder K) → later.serial ≡ a.value.serial → set old.finders at later ≡ put (λ k. k.serial) later old.finders
  finder_put later same = sym (put_at (λ k. k.serial) f 0 old.last_finder at old.finders a.value later inv.finders.serials a.is a.number (same ∙ a.number))

  pub finder_is : (before : OpenFinder K) → before ≡ get_or old.finders at before → a.value ≡ before
  finder_is before is = sym (get_or_from_slice_get old.finders at a.value before a.is) ∙ sym is

  pub not_dead : (before : OpenFinder K) → a.value ≡ before → (status_of old.commits before.row ≡ Dead → ⊥) → is_ended old.commits a.value.row ≡ false
  not_dead before same alive = go (is_ended old.commits a.value.row) refl
    where
      dead_from : is_ended old.commits a.value.row ≡ true → status_of old.commits a.value.row ≡ Dead
      dead_from e = let s = finder_of is_cover old inv f a.value a.found in dead_made old.commits a.value.row (record { row = a.value.row; key = a.value.key; tag = s.made.0 }) s.made.1 e

      go : (b : Bool) → is_ended old.commits a.value.row ≡ b → is_ended old.commits a.value.row ≡ false
      go false e = e
      go true e = absurd (alive (subst (λ k. status_of old.commits k.row ≡ Dead) same (dead_from e)))

  is_dead : (before : OpenFinder K) → a.value ≡ before → status_of old.commits before.row ≡ Dead → is_ended old.commits a.value.row ≡ true
  is_dead before same dead = go (is_ended old.commits a.value.row) refl
    where
      go : (b : Bool) → is_ended old.commits a.value.row ≡ b → is_ended old.commits a.value.row ≡ true
      go true e = e
      go false e =
          let live = row_lives is_cover old inv f a.value a.found e in
          let x : Live ≡ Dead = sym live ∙ ap (λ (k : OpenFinder K). status_of old.commits k.row) same ∙ dead in
          absurd (cc)

  pub dead_first : (before : OpenFinder K) (further : List (Bool × Refusal)) → a.value ≡ before → status_of old.commits before.row ≡ Dead → first_failing (visit_tests old f further) ≡ Some refusal.AlreadyDeleted
  dead_first before further same dead = visit_dead old f a.value a.found further (is_dead before same dead)

  pub not_over : (before : OpenFinder K) → a.value ≡ before → is_ended old.commits a.value.row ≡ false → before.stack ≡ [] → ⊥
  not_over before same alive none =
      not_at_end old.search.tree old.commits a.value (row_lives is_cover old inv f a.value a.found alive) (finder_of is_cover old inv f a.value a.found) (ap (λ k. k.stack) same ∙ none)

  -- a finder written back as it was
  pub finder_same : (before later : OpenFinder K) → before ≡ get_or old.finders at before → later ≡ before → set old.finders at later ≡ old.finders
  finder_same before later is same = ap (λ k. set old.finders at k) (same ∙ is) ∙ set_same old.finders at before finder_within

  module _ (before : OpenFinder K) (is : a.value ≡ before) (alive : is_ended old.commits a.value.row ≡ false) where
    pub passes_further : is_at_row old.search.tree before ≡ false → (further : List (Bool × Refusal)) → first_failing (visit_tests old f further) ≡ None
    passes_further away further = visit_further old f a.value a.found further alive (ap (λ k. is_at_row old.search.tree k) is ∙ away)

    pub meets_at : (page : ℕ) → FindsRow old.search.tree before page → Meets old f at page
    meets_at page finds = record { here = a; alive = alive; finds = subst (λ k. FindsRow old.search.tree k page) (sym is) finds }

    module _ (page : ℕ) (later : OpenFinder K) (further : GoesFurther is_cover old.search.tree before page later) where
      further_put : set old.finders at later ≡ put (λ k. k.serial) later old.finders
      further_put = finder_put later (ap (λ k. k.serial) further.after ∙ ap (λ k. k.serial) (sym is))

      pub further_sound : IsSeeking old.search.tree old.commits later → IsSoundWorld is_cover (record old { finders = set old.finders at later })
      further_sound seeking = sought_on_sound is_cover old inv later (record old { finders = set old.finders at later }) (ap (λ ks. record old { finders = ks }) further_put) seeking

      pub further_passes : (tests : List (Bool × Refusal)) → first_failing (visit_tests old f tests) ≡ None
      further_passes tests = passes_further (further_not_at_row old.search.tree before page is_cover later further) tests

      pub further_after : record old { finders = set old.finders at later } ≡ with_finder old later
      further_after = ap (λ ks. record old { finders = ks }) further_put

module _ {K A : Type 0} (rules : Rules K A) (rule : Rule) (old : State K A) (inv : IsSoundWorld rules.is_cover old) (f at : ℕ) (a : IsFinderAt old f at) (before : OpenFinder K) (is : a.value ≡ before) where
  -- why a visit is refused, whatever is tested where the row is met
  pub refuses_dead : status_of old.commits before.row ≡ Dead → IsRefusedVisit rules rule old f refusal.AlreadyDeleted
  refuses_dead dead = λ further. inl (dead_first rules.is_cover old inv f at a before further is dead)

  pub refuses_further : is_ended old.commits a.value.row ≡ false → is_at_row old.search.tree before ≡ false → PushesSome (λ bound. rules.is_cover bound before.key) old.search.tree before.stack
      → IsRefusedVisit rules rule old f refusal.OutOfMemory
  refuses_further alive away grows = λ further. inr (
    passes_further rules.is_cover old inv f at a before is alive away further,
    record { memory = refl; finder = before; is_open = a.found ∙ ap Some is; grows = inr grows },
  )

module _ {K A : Type 0} (is_cover : K → K → Bool) (old : State K A) (inv : IsSoundWorld is_cover old) (f at page : ℕ) (m : Meets old f at page) where
  pub meets_row : is_at_row old.search.tree m.here.value ≡ true
  meets_row = finds_at_row old.search.tree m.here.value page m.finds

  -- the further tests decide
  pub meets_tests : (further : List (Bool × Refusal)) → first_failing (visit_tests old f further) ≡ first_failing further
  meets_tests further = visit_here old f m.here.value m.here.found further m.alive meets_row

  pub commit_full : old.limit ≤ length old.commits → first_failing (commit_tests old) ≡ Some refusal.CommitsFull
  commit_full full = let t : nat_le old.limit (length old.commits) ≡ true = search (arith, full) in fails_at (nat_le old.limit (length old.commits)) refusal.CommitsFull [] t

  pub commit_passes : length old.commits < old.limit → first_failing (commit_tests old) ≡ None
  commit_passes room = let t : nat_le old.limit (length old.commits) ≡ false = search (arith, room) in passes_at (nat_le old.limit (length old.commits)) refusal.CommitsFull [] t

  pub meets_full : old.limit ≤ length old.commits → first_failing (visit_tests old f (commit_tests old)) ≡ Some refusal.CommitsFull
  meets_full full = meets_tests (commit_tests old) ∙ commit_full full

  pub meets_passes : length old.commits < old.limit → first_failing (visit_tests old f (commit_tests old)) ≡ None
  meets_passes room = meets_tests (commit_tests old) ∙ commit_passes room

  module _ (leaf : ℕ) (key : K) where
    pub move_unfit : (why : Refusal) → first_failing (place_tests is_cover old.search leaf key) ≡ Some why → first_failing (visit_tests old f (place_tests is_cover old.search leaf key ++ commit_tests old)) ≡ Some why
    move_unfit why h = meets_tests (place_tests is_cover old.search leaf key ++ commit_tests old) ∙ failing_first (place_tests is_cover old.search leaf key) (commit_tests old) why h

    pub move_full : first_failing (place_tests is_cover old.search leaf key) ≡ None → old.limit ≤ length old.commits
        → first_failing (visit_tests old f (place_tests is_cover old.search leaf key ++ commit_tests old)) ≡ Some refusal.CommitsFull
    move_full h full = meets_tests (place_tests is_cover old.search leaf key ++ commit_tests old) ∙ failing_later (place_tests is_cover old.search leaf key) (commit_tests old) h ∙ commit_full full

    pub move_passes : first_failing (place_tests is_cover old.search leaf key) ≡ None → length old.commits < old.limit
        → first_failing (visit_tests old f (place_tests is_cover old.search leaf key ++ commit_tests old)) ≡ None
    move_passes h room = meets_tests (place_tests is_cover old.search leaf key ++ commit_tests old) ∙ failing_later (place_tests is_cover old.search leaf key) (commit_tests old) h ∙ commit_passes room

  pub bury_change : (seat : ℕ) (stamp : Stamp K) (search' : SearchTree K) (commits : List (Write K)) (others : List (OpenFinder K)) (row number : ℕ) → m.here.value.row ≡ row → number ≡ length old.commits + 1
      → search' ≡ with_tree old.search (after_rows old.search.tree page (map (marked row number) (page_at old.search.tree page).rows)) → commits ≡ old.commits ++ Delete row ∷ [] → others ≡ remove old.finders at
      → stamp ≡ record { number = number; seat = seat; write = Delete row }
      → Buries seat old f stamp (record { search = search'; limit = old.limit; commits = commits; cursors = old.cursors; last = old.last; finders = others; last_finder = old.last_finder })
  bury_change seat stamp search' commits others row number is counted buried pushed removed stamped = record {
    finder = m.here.value;
    is_open = m.here.found;
    page = page;
    finds = m.finds;
    stamped = rw (stamped, counted, is) refl;
    after = rw (buried, pushed, counted, is, finder_gone is_cover old inv f at m.here others removed) refl;
  }

  pub move_change : (seat leaf : ℕ) (key : K) (stamp : Stamp K) (search' : SearchTree K) (commits : List (Write K)) (others : List (OpenFinder K)) (row number : ℕ) (found : Row K) → m.here.value.row ≡ row → number ≡ length old.commits + 1
      → row_at old.commits row ≡ Some found
      → search' ≡ with_tree old.search (after_move old.search.tree page row number leaf (record { key = key; row = number; tag = found.tag; died = None })) → commits ≡ old.commits ++ Move row key ∷ [] → others ≡ remove old.finders at
      → stamp ≡ record { number = number; seat = seat; write = Move row key }
      → MovesRow seat old f leaf key stamp (record { search = search'; limit = old.limit; commits = commits; cursors = old.cursors; last = old.last; finders = others; last_finder = old.last_finder })
  move_change seat leaf key stamp search' commits others row number found is counted there moved pushed removed stamped = record {
    finder = m.here.value;
    is_open = m.here.found;
    page = page;
    finds = m.finds;
    row = found;
    is_row = ap (row_at old.commits) is ∙ there;
    stamped = rw (stamped, counted, is) refl;
    after = rw (moved, pushed, counted, is, finder_gone is_cover old inv f at m.here others removed) refl;
  }
