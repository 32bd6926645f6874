-- The events of finders, and sweeps.
use Rattle.std.proofs.Common.{◌≡◌, ◌+◌, ◌<◌, ◌≤◌, ◌⊎◌, inl, inr, ℕ, Bool, true, false, ◌||◌, List, [], ◌∷◌, ◌++◌, length, Some, None, refl, sym, ap, ◌∙◌, arith, subst}
use Rattle.std.proofs.Common.{Result, Ok, Err}
use Rattle.std.specs.Prelude.{nat_le, nat_lt, nat_eq, is_none, OnOk, OnErr}
use Rattle.std.proofs.lemmas.Bool.{and_parts}
use Rattle.mailbox.specs.Outlets.{Rule}
use Rattle.key_class.specs.Rules.{IsLawful, Rules}
use Rattle.key_class.specs.declared.refusal.Refusal.{Refusal}
use Rattle.key_class.specs.declared.refusal.Refusal.TheVariants as refusal
use Rattle.change_list.proofs.Tracking.{dead_made, live_from}
use Rattle.change_list.specs.Changes.{HasKey, is_ended, row_at, status_of}
use Rattle.change_list.specs.declared.write.Status.TheVariants.{Live, Dead}
use Rattle.change_list.specs.declared.write.Write.{Write}
use Rattle.change_list.specs.declared.item.Row.{Row}
use Rattle.page_table.specs.Trees.{page_at}
use Rattle.page_table.specs.LeafChanges.{after_sweep}
use Rattle.split.specs.SearchTrees.{SearchTree, with_tree}
use Rattle.split.specs.Tests.{PlacePasses, first_failing, is_leaf, place_tests, sweep_tests}
use Rattle.split.proofs.RowsDone.{buried, swept, sweepable}
use Rattle.descent.specs.Finders.{OpenFinder, IsSeeking, FindsRow, begun_finder, is_at_row}
use Rattle.descent.proofs.Entering.{seeking_at}
use Rattle.descent.proofs.Seeking.{seeking_begun, seeking_further, finds_at_row, finds_page, finds_weigh, finds_leaf}
use Rattle.world.specs.Beginnings.{MayBegin}
use Rattle.world.specs.Serials.{without, put}
use Rattle.world.specs.Stamps.{Stamp}
use Rattle.world.specs.States.{State, finder_at, with_finder, IsSoundWorld}
use Rattle.world.specs.Steps.{commit_tests, find_tests, finder_tests, is_full_of_finders, row_tests, visit_tests, where_met, Finds, Buries, MovesRow, SeeksOn, SweepsLeaf}
use Rattle.world.proofs.Refusing.{failing_later, fails_at, passed_first, passed_at, passes_at}
use Rattle.world.proofs.Serials.{member_all}
use Rattle.world.proofs.FinderLists.{finders_push, finders_put, finders_without}
use Rattle.world.proofs.Sounding.{buried_sound, row_moved_sound, swept_sound, sought_sound}

-- tests that are met are all to be passed
pub met_all : (tests : List (Bool × Refusal)) → where_met true tests ≡ tests
met_all [] = refl
met_all ((fails, why) ∷ tests) = ap (λ more. (fails, why) ∷ more) (met_all tests)

-- those that aren't met pass
pub unmet_pass : (tests : List (Bool × Refusal)) → first_failing (where_met false tests) ≡ None
unmet_pass [] = refl
unmet_pass ((fails, why) ∷ tests) = unmet_pass tests

module _ {K A : Type 0} (s : State K A) (row : ℕ) where
  -- where the tests of a finder pass, the row lives and there is a place and a serial
  pub record MayFind : Type 0 where
    pub alive : is_ended s.commits row ≡ false
    pub few : length s.finders < 64
    pub given : s.last_finder < 4294967295

  pub may_find : first_failing (find_tests s row) ≡ None → MayFind
  may_find h =
      let first = passed_at (is_none (row_at s.commits row)) refusal.NoSuchRow ((is_ended s.commits row, refusal.AlreadyDeleted) ∷ (is_full_of_finders s, refusal.FindersFull) ∷ []) h in
      let second = passed_at (is_ended s.commits row) refusal.AlreadyDeleted ((is_full_of_finders s, refusal.FindersFull) ∷ []) first.1 in
      let third = passed_at (is_full_of_finders s) refusal.FindersFull [] second.1 in
      record { alive = second.0; few = search (arith, third.0); given = search (arith, third.0) }

  pub has_place : length s.finders < 64 → s.last_finder < 4294967295 → is_full_of_finders s ≡ false
  has_place few last = search (arith, few, last)

  -- where a row isn't dead and there is no place for a finder, and where there is one
  module _ (r : Row K) (found : row_at s.commits row ≡ Some r) (alive : is_ended s.commits row ≡ false) where
    find_decides : first_failing (find_tests s row) ≡ first_failing ((is_full_of_finders s, refusal.FindersFull) ∷ [])
    find_decides = rw (found, alive) refl

    pub find_full : is_full_of_finders s ≡ true → first_failing (find_tests s row) ≡ Some refusal.FindersFull
    find_full e = find_decides ∙ fails_at (is_full_of_finders s) refusal.FindersFull [] e

    pub find_passes : is_full_of_finders s ≡ false → first_failing (find_tests s row) ≡ None
    find_passes e = find_decides ∙ passes_at (is_full_of_finders s) refusal.FindersFull [] e

-- a row that was made and isn't dead isn't ended
pub alive_from : {K : Type 0} (commits : List (Write K)) (row : ℕ) (r : Row K) → row_at commits row ≡ Some r → (status_of commits row ≡ Dead → ⊥) → is_ended commits row ≡ false
alive_from commits row r found alive = go (is_ended commits row) refl
  where
    go : (b : Bool) → is_ended commits row ≡ b → is_ended commits row ≡ false
    go false e = e
    go true e = absurd (alive (dead_made commits row r found e))

module _ {K A : Type 0} (is_cover : K → K → Bool) (old : State K A) (inv : IsSoundWorld is_cover old) where
  pub finder_of : (f : ℕ) (k : OpenFinder K) → finder_at old f ≡ Some k → IsSeeking old.search.tree old.commits k
  finder_of f k h = member_all (λ k. k.serial) (λ k. IsSeeking old.search.tree old.commits k) f old.finders k h inv.finders.seeking

  pub row_lives : (f : ℕ) (k : OpenFinder K) → finder_at old f ≡ Some k → is_ended old.commits k.row ≡ false → status_of old.commits k.row ≡ Live
  row_lives f k h alive = let seeking = finder_of f k h in live_from old.commits k.row (record { row = k.row; key = k.key; tag = seeking.made.0 }) seeking.made.1 alive

  pub finds_sound : (row f : ℕ) (new : State K A) → first_failing (find_tests old row) ≡ None → Finds old row f new → IsSoundWorld is_cover new
  finds_sound row f new passed d =
      let may = may_find old row passed in
      let k : OpenFinder K = record { serial = old.last_finder + 1; row = row; key = d.key; stack = (record { page = 0; memo = old.search.tree.counter }) ∷ [] } in
      let seeking = seeking_begun is_cover old.search.fan old.search.tree inv.tree.sound old.commits inv.agrees (old.last_finder + 1) row d.key d.made in
      subst (λ s. IsSoundWorld is_cover s) (sym d.after)
      (sought_sound is_cover old inv (old.finders ++ k ∷ []) (old.last_finder + 1) (finders_push old.search.tree old.commits old.finders old.last_finder inv.finders k refl seeking may.few may.given))

  -- a finder more, at a page where it may begin
  pub begun_sound : (row : ℕ) (key : K) (page counter : ℕ) → first_failing (find_tests old row) ≡ None → HasKey old.commits row key → MayBegin old row page → counter ≡ old.search.tree.counter
      → IsSoundWorld is_cover (record old { finders = old.finders ++ begun_finder (old.last_finder + 1) row key page counter ∷ []; last_finder = old.last_finder + 1 })
  begun_sound row key page counter passed made may same =
      let place = may_find old row passed in
      let seeking : IsSeeking old.search.tree old.commits (begun_finder (old.last_finder + 1) row key page old.search.tree.counter) = elim may [
        | inl root ↦ subst (λ p. IsSeeking old.search.tree old.commits (begun_finder (old.last_finder + 1) row key p old.search.tree.counter)) (sym root)
            (seeking_begun is_cover old.search.fan old.search.tree inv.tree.sound old.commits inv.agrees (old.last_finder + 1) row key made)
        | inr stands ↦ seeking_at is_cover old.search.fan old.search.tree inv.tree.sound page stands.0 old.commits inv.agrees row stands.1 (old.last_finder + 1) key made
      ] in
      subst (λ n. IsSoundWorld is_cover (record old { finders = old.finders ++ begun_finder (old.last_finder + 1) row key page n ∷ []; last_finder = old.last_finder + 1 })) (sym same)
      (sought_sound is_cover old inv (old.finders ++ begun_finder (old.last_finder + 1) row key page old.search.tree.counter ∷ []) (old.last_finder + 1)
      (finders_push old.search.tree old.commits old.finders old.last_finder inv.finders (begun_finder (old.last_finder + 1) row key page old.search.tree.counter) refl seeking place.few place.given))

  pub unfound_sound : (f : ℕ) (new : State K A) → new ≡ record old { finders = without (λ k. k.serial) f old.finders } → IsSoundWorld is_cover new
  unfound_sound f new made = subst (λ s. IsSoundWorld is_cover s) (sym made)
      (sought_sound is_cover old inv (without (λ k. k.serial) f old.finders) old.last_finder (finders_without old.search.tree old.commits old.finders old.last_finder inv.finders f))

  -- the page on which a finder meets its row
  pub record MeetsOn (k : OpenFinder K) (page : ℕ) : Type 0 where
    pub exists : page < length old.search.tree.pages
    pub leaf : is_leaf old.search.tree page ≡ true

  pub meets_on : (f : ℕ) (k : OpenFinder K) (page : ℕ) → finder_at old f ≡ Some k → FindsRow old.search.tree k page → MeetsOn k page
  meets_on f k page h finds =
      let seeking = finder_of f k h in
      let l = finds_page old.search.tree k page seeking.stack finds in
      let level = finds_leaf old.search.tree k page is_cover old.search.fan inv.tree.sound seeking.stack finds in
      let there : nat_lt page (length old.search.tree.pages) ≡ true = search (arith, l) in
      let low : nat_eq (page_at old.search.tree page).level 0 ≡ true = search (arith, level) in
      record { exists = l; leaf = rw (there, low) refl }

  -- where the tests of a visit pass
  pub record MayVisit (k : OpenFinder K) (further : List (Bool × Refusal)) : Type 0 where
    pub alive : is_ended old.commits k.row ≡ false
    pub passed : is_at_row old.search.tree k ≡ true → first_failing further ≡ None

  pub may_visit : (f : ℕ) (k : OpenFinder K) (further : List (Bool × Refusal)) → finder_at old f ≡ Some k → first_failing (visit_tests old f further) ≡ None → MayVisit k further
  may_visit f k further h passed =
      let here : first_failing (finder_tests old f) ≡ None = passed_first (finder_tests old f) (row_tests old further (finder_at old f)) passed in
      let rest : first_failing (row_tests old further (Some k)) ≡ None
      = subst (λ o. first_failing (row_tests old further o) ≡ None) h (sym (failing_later (finder_tests old f) (row_tests old further (finder_at old f)) here) ∙ passed) in
      let first = passed_at (is_ended old.commits k.row) refusal.AlreadyDeleted (where_met (is_at_row old.search.tree k) further) rest in
      record {
        alive = first.0;
        passed = λ there. ap first_failing (sym (met_all further) ∙ ap (λ b. where_met b further) (sym there)) ∙ first.1;
      }

  -- there is room for one more commit
  pub has_room : first_failing (commit_tests old) ≡ None → length old.commits < old.limit
  has_room h = let full = (passed_at (nat_le old.limit (length old.commits)) refusal.CommitsFull [] h).0 in search (arith, full)

  pub buries_sound : (seat f : ℕ) (stamp : Stamp K) (new : State K A) → first_failing (visit_tests old f (commit_tests old)) ≡ None → Buries seat old f stamp new → IsSoundWorld is_cover new
  buries_sound seat f stamp new passed d =
      let may = may_visit f d.finder (commit_tests old) d.is_open passed in
      let on = meets_on f d.finder d.page d.is_open d.finds in
      let room = has_room (may.passed (finds_at_row old.search.tree d.finder d.page d.finds)) in
      subst (λ s. IsSoundWorld is_cover s) (sym d.after)
      (buried_sound is_cover old inv d.page on.exists d.finder.row (row_lives f d.finder d.is_open may.alive) (finds_weigh old.search.tree d.finder d.page d.finds) room
      (buried is_cover old.search.tree old.search.fan old.search.least old.search.limit inv.tree d.page on.leaf d.finder.row (length old.commits + 1)) f)

  -- where a row is moved, the leaf takes it, and there is room for the commit
  pub record MayMove (k : OpenFinder K) (leaf : ℕ) (key : K) : Type 0 where
    pub alive : is_ended old.commits k.row ≡ false
    pub takes : PlacePasses is_cover old.search leaf key
    pub room : length old.commits < old.limit

  pub may_move : (f : ℕ) (k : OpenFinder K) (page leaf : ℕ) (key : K) → finder_at old f ≡ Some k → FindsRow old.search.tree k page
      → first_failing (visit_tests old f (place_tests is_cover old.search leaf key ++ commit_tests old)) ≡ None → MayMove k leaf key
  may_move f k page leaf key h finds passed =
      let tests : List (Bool × Refusal) = place_tests is_cover old.search leaf key in
      let may = may_visit f k (place_tests is_cover old.search leaf key ++ commit_tests old) h passed in
      let all = may.passed (finds_at_row old.search.tree k page finds) in
      let takes : first_failing (place_tests is_cover old.search leaf key) ≡ None = passed_first (place_tests is_cover old.search leaf key) (commit_tests old) all in
      record { alive = may.alive; takes = takes; room = has_room (sym (failing_later (place_tests is_cover old.search leaf key) (commit_tests old) takes) ∙ all) }

  pub moves_sound : (seat f leaf : ℕ) (key : K) (stamp : Stamp K) (new : State K A) → first_failing (visit_tests old f (place_tests is_cover old.search leaf key ++ commit_tests old)) ≡ None
      → MovesRow seat old f leaf key stamp new → IsSoundWorld is_cover new
  moves_sound seat f leaf key stamp new passed d =
      let may = may_move f d.finder d.page leaf key d.is_open d.finds passed in
      let on = meets_on f d.finder d.page d.is_open d.finds in
      subst (λ s. IsSoundWorld is_cover s) (sym d.after)
      (row_moved_sound is_cover old inv d.page on.exists on.leaf d.finder.row (row_lives f d.finder d.is_open may.alive) (finds_weigh old.search.tree d.finder d.page d.finds) may.room leaf key d.row d.is_row may.takes f)

  -- a leaf that is swept
  pub swept_page : (page : ℕ) → first_failing (sweep_tests old.search page) ≡ None → page < length old.search.tree.pages
  swept_page page passed =
      let both = and_parts (nat_lt page (length old.search.tree.pages)) (nat_eq (page_at old.search.tree page).level 0) (sweepable old.search page passed) in
      search (arith, both.0)

  pub sweeps_sound : (page count : ℕ) (new : State K A) → first_failing (sweep_tests old.search page) ≡ None → SweepsLeaf old page count new → IsSoundWorld is_cover new
  sweeps_sound page count new passed d = subst (λ s. IsSoundWorld is_cover s) (sym d.after)
      (swept_sound is_cover old inv page (swept_page page passed) d.horizon (swept is_cover old.search.tree old.search.fan old.search.least old.search.limit inv.tree page (sweepable old.search page passed) d.horizon))

  -- a call that sweeps, or is refused
  pub sweeps_call_sound : (page : ℕ) (result : Result ℕ Refusal) (search' : SearchTree K) (horizon : ℕ) → OnOk result (first_failing (sweep_tests old.search page) ≡ None)
      → OnOk result (search' ≡ with_tree old.search (after_sweep old.search.tree page horizon)) → OnErr result (search' ≡ old.search) → IsSoundWorld is_cover (record old { search = search' })
  sweeps_call_sound page (Ok count) search' horizon passed made same = subst (λ t. IsSoundWorld is_cover (record old { search = t })) (sym made)
      (swept_sound is_cover old inv page (swept_page page passed) horizon (swept is_cover old.search.tree old.search.fan old.search.least old.search.limit inv.tree page (sweepable old.search page passed) horizon))
  sweeps_call_sound page (Err why) search' horizon passed made same = subst (λ t. IsSoundWorld is_cover (record old { search = t })) (sym same) inv

  -- a finder written back that is one still
  pub sought_on_sound : (later : OpenFinder K) (new : State K A) → new ≡ with_finder old later → IsSeeking old.search.tree old.commits later → IsSoundWorld is_cover new
  sought_on_sound later new made seeking = subst (λ s. IsSoundWorld is_cover s) (sym made)
      (sought_sound is_cover old inv (put (λ k. k.serial) later old.finders) old.last_finder (finders_put old.search.tree old.commits old.finders old.last_finder inv.finders later seeking))

module _ {K A : Type 0} (rules : Rules K A) (rule : Rule) {same_key : K → K → Bool} {same_atom : A → A → Bool} (lawful : IsLawful rules same_key same_atom) (old : State K A) (inv : IsSoundWorld rules.is_cover old) where
  pub seeks_on_sound : (f : ℕ) (new : State K A) → SeeksOn rules rule old f new → IsSoundWorld rules.is_cover new
  seeks_on_sound f new d = sought_on_sound rules.is_cover old inv d.later new d.after
      (seeking_further rules.is_cover old.search.fan old.search.tree inv.tree.sound old.commits d.before (finder_of rules.is_cover old inv f d.before d.is_open) lawful.bounds.through inv.agrees d.page d.later d.further)
