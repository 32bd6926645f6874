-- A finder of a live row: how it begins, each visit, and its end.
use Rattle.std.proofs.Common.{◌≡◌, ◌+◌, ◌<◌, inl, inr, ℕ, suc, Bool, true, false, List, [], ◌∷◌, ◌++◌, length, take, drop, Option, Some, None, refl, sym, ap, ◌∙◌, arith, subst, ◌↔◌, ◌||◌}
use Rattle.std.proofs.Common.{Result, Ok, Err}
use Rattle.std.specs.Prelude.{nat_le, slice_set, IsPermutation, map, IfOk, OnErr}
use Rattle.key_class.specs.Rules.{Rules}
use Rattle.mailbox.specs.Outlets.{Rule}
use Rattle.key_class.specs.declared.refusal.Refusal.{Refusal}
use Rattle.key_class.specs.declared.refusal.Refusal.TheVariants as refusal
use Rattle.change_list.proofs.Lists.{slice_get_end}
use Rattle.change_list.proofs.Tracking.{live_kept, live_row}
use Rattle.change_list.specs.Changes.{IsLegal, is_ended, status_of}
use Rattle.change_list.specs.declared.write.Status.TheVariants.{Live}
use Rattle.descent.proofs.Seeking.{finds_page, finds_weigh}
use Rattle.descent.specs.Finders.{OpenFinder, FindsRow, begun_finder, is_at_row}
use Rattle.page_table.proofs.PageLists.{replaced-length}
use Rattle.node.specs.Changes.{with_rows}
use Rattle.page_table.specs.Stacks.{pages_left}
use Rattle.page_table.specs.Trees.{Tree, after_rows, page_at}
use Rattle.row_version.specs.Entries.{Entry, marked}
use Rattle.scan.proofs.Finders.{seek_pages}
use Rattle.page_table.specs.LeafChanges.{after_bury}
use Rattle.split.specs.Tests.{PlacePasses, first_failing, place_tests}
use Rattle.split.proofs.MoveDone.{leaf_within}
use Rattle.split.proofs.RowsDone.{buried}
use Rattle.std.proofs.lemmas.List.Sorted.{IsPermutation-trans}
use Rattle.writes.specs.Ending.{AddsDeath, Ends, Leaves, Looks, MayEnd, SeeksToEnd, event_of_ending, write_of_ending}
use Rattle.writes.specs.declared.ending.Ending.{Ending}
use Rattle.writes.specs.declared.ending.Ending.TheVariants as ending
use Rattle.writes.specs.EndVisits.{IsFullOfFinders, RefusesFinder}
use Rattle.writes.proofs.Deaths.{buried_deaths}
use Rattle.world.specs.Beginnings.{FindsNear}
use Rattle.world.specs.declared.event.Event.TheVariants as event
use Rattle.world.specs.declared.reply.Reply.{Reply}
use Rattle.world.specs.declared.reply.Reply.TheVariants as reply
use Rattle.world.specs.Calls.{IsOneStep}
use Rattle.world.specs.Promises.{ServesAll}
use Rattle.world.specs.Resting.{deaths, Rests}
use Rattle.world.specs.Serials.{put, without}
use Rattle.world.specs.Stamps.{Stamp}
use Rattle.world.specs.States.{State, finder_at, with_finder, IsSoundWorld}
use Rattle.world.specs.Steps.{Buries, IsRefused, MovesRow, RefusesLater, SeeksOn, Step, commit_tests, find_tests, tests, visit_tests}
use Rattle.world.specs.Traces.{taken_by}
use Rattle.world.proofs.Meeting.{visit_further, visit_here}
use Rattle.world.proofs.Refusing.{failing_later, passes_at}
use Rattle.world.proofs.FinderSteps.{finder_of, may_find, meets_on}
use Rattle.world.proofs.Resting.{deaths_placed, rests_trans, step_rests}
use Rattle.world.proofs.Serials.{member_at, put_at, without_at}

cut_last : {X : Type 0} (xs : List X) (x : X) → take (length xs) (xs ++ x ∷ []) ++ drop (suc (length xs)) (xs ++ x ∷ []) ≡ xs
cut_last [] x = refl
cut_last (y ∷ xs) x = ap (λ l. y ∷ l) (cut_last xs x)

set_last : {X : Type 0} (xs : List X) (x y : X) → slice_set (xs ++ x ∷ []) (length xs) y ≡ xs ++ y ∷ []
set_last [] x y = refl
set_last (z ∷ xs) x y = ap (λ l. z ∷ l) (set_last xs x y)

pub rows_pages : {K : Type 0} (t : Tree K) (p : ℕ) (rows : List (Entry K)) → length ((after_rows t p rows).pages) ≡ length t.pages
unfolding after_rows
rows_pages t p rows = replaced-length t p (with_rows (page_at t p) rows)

-- how many pages an open finder has left
abbrev pub left_of : {K : Type 0} → Tree K → Option (OpenFinder K) → ℕ
left_of t (Some k) = length (pages_left t k.stack)
left_of t None = 0

module _ {K A : Type 0} where
  abbrev pub pages_to_seek : ℕ → State K A → ℕ
  pages_to_seek f s = left_of s.search.tree (finder_at s f)

  -- a world with one finder more
  abbrev pub looking : State K A → OpenFinder K → State K A
  looking first k = record first { finders = first.finders ++ k ∷ []; last_finder = first.last_finder + 1 }

  module _ (is_cover : K → K → Bool) (first : State K A) (k : OpenFinder K) (serial : k.serial ≡ first.last_finder + 1) (sound : IsSoundWorld is_cover (looking first k)) where
    pub looking_at : finder_at (looking first k) (first.last_finder + 1) ≡ Some k
    looking_at = member_at (λ x. x.serial) (first.last_finder + 1) 0 (first.last_finder + 1) (length first.finders) (first.finders ++ k ∷ []) k sound.finders.serials (slice_get_end first.finders k) serial

    pub looking_without : without (λ x. x.serial) (first.last_finder + 1) (first.finders ++ k ∷ []) ≡ first.finders
    looking_without =
        without_at (λ x. x.serial) (first.last_finder + 1) 0 (first.last_finder + 1) (length first.finders) (first.finders ++ k ∷ []) k sound.finders.serials (slice_get_end first.finders k) serial
        ∙ cut_last first.finders k

    pub looking_put : (later : OpenFinder K) → later.serial ≡ first.last_finder + 1 → put (λ x. x.serial) later (first.finders ++ k ∷ []) ≡ first.finders ++ later ∷ []
    looking_put later same =
        put_at (λ x. x.serial) (first.last_finder + 1) 0 (first.last_finder + 1) (length first.finders) (first.finders ++ k ∷ []) k later sound.finders.serials (slice_get_end first.finders k) serial same
        ∙ set_last first.finders k later

module _ {K A : Type 0} (rules : Rules K A) (rule : Rule) where
  -- a finder of the row is under way, and nothing else was changed
  pub record IsUnderWay (first : State K A) (row f : ℕ) (now : State K A) : Type 0 where
    pub looks : Looks first row now
    pub number : f ≡ first.last_finder + 1
    pub sound : IsSoundWorld rules.is_cover now
    pub rests : Rests rules rule first now

  pub leaves_rests : (old : State K A) (n : ℕ) → Rests rules rule old (record old { last_finder = n })
  leaves_rests old n = record { limit = refl; page_limit = refl; pages = omega arith; last = refl; cursors = refl; fits = λ c k h items f. f }

  -- a finder begins
  pub begun : (old : State K A) (row f : ℕ) (new : State K A) → FindsNear old row f new → IsSoundWorld rules.is_cover new → IsUnderWay old row f new
  begun old row f new d sound = record {
    looks = record { finder = begun_finder (old.last_finder + 1) row d.key d.page old.search.tree.counter; row_is = refl; serial = refl; is = d.begins.after };
    number = d.begins.serial;
    sound = sound;
    rests = subst (λ s. Rests rules rule old s) (sym d.begins.after) (record { limit = refl; page_limit = refl; pages = omega arith; last = refl; cursors = refl; fits = λ c k h items f. f });
  }

-- nothing is taken of a cursor by a visit of a finder
untaken : (A : Type 0) {K E : Type 0} (f : ℕ) (how : Ending K) (r : Reply K E) (c : ℕ) → taken_by {A = A} c (event_of_ending f how, r) ≡ None
untaken A f ending.Delete r c = refl
untaken A f (ending.Move leaf key) r c = refl

module _ {K A : Type 0} where
  -- what a visit that meets its row makes of a world, but for the pages
  pub record IsMet (now : State K A) (f : ℕ) (how : Ending K) (stamp : Stamp K) (new : State K A) : Type 0 where
    pub finder : OpenFinder K
    pub is_open : finder_at now f ≡ Some finder
    pub page : ℕ
    pub finds : FindsRow now.search.tree finder page
    pub number : stamp.number ≡ length now.commits + 1
    pub commits : new.commits ≡ now.commits ++ write_of_ending finder.row how ∷ []
    pub limit : new.limit ≡ now.limit
    pub page_limit : new.search.limit ≡ now.search.limit
    pub pages : length new.search.tree.pages ≡ length now.search.tree.pages
    pub last : new.last ≡ now.last
    pub cursors : new.cursors ≡ now.cursors
    pub finders : new.finders ≡ without (λ x. x.serial) f now.finders
    pub last_finder : new.last_finder ≡ now.last_finder

  -- the visit of a delete
  met_delete : (now : State K A) (f : ℕ) (stamp : Stamp K) (new : State K A) → Buries 0 now f stamp new → IsMet now f ending.Delete stamp new
  met_delete now f stamp new b = record {
    finder = b.finder;
    is_open = b.is_open;
    page = b.page;
    finds = b.finds;
    number = ap (λ (s : Stamp K). s.number) b.stamped;
    commits = ap (λ s. s.commits) b.after;
    limit = ap (λ s. s.limit) b.after;
    page_limit = ap (λ s. s.search.limit) b.after;
    pages = ap (λ s. length s.search.tree.pages) b.after ∙ rows_pages now.search.tree b.page (map (marked b.finder.row (length now.commits + 1)) (page_at now.search.tree b.page).rows);
    last = ap (λ s. s.last) b.after;
    cursors = ap (λ s. s.cursors) b.after;
    finders = ap (λ s. s.finders) b.after;
    last_finder = ap (λ s. s.last_finder) b.after;
  }

  -- the visit of a move
  met_move : (now : State K A) (f leaf : ℕ) (key : K) (stamp : Stamp K) (new : State K A) → MovesRow 0 now f leaf key stamp new → IsMet now f (ending.Move leaf key) stamp new
  met_move now f leaf key stamp new b = record {
    finder = b.finder;
    is_open = b.is_open;
    page = b.page;
    finds = b.finds;
    number = ap (λ (s : Stamp K). s.number) b.stamped;
    commits = ap (λ s. s.commits) b.after;
    limit = ap (λ s. s.limit) b.after;
    page_limit = ap (λ s. s.search.limit) b.after;
    pages = ap (λ s. length s.search.tree.pages) b.after
        ∙ rows_pages (after_bury now.search.tree b.page b.finder.row (length now.commits + 1)) leaf
        ((page_at (after_bury now.search.tree b.page b.finder.row (length now.commits + 1)) leaf).rows ++ (record { key = key; row = length now.commits + 1; tag = b.row.tag; died = None }) ∷ [])
        ∙ rows_pages now.search.tree b.page (map (marked b.finder.row (length now.commits + 1)) (page_at now.search.tree b.page).rows);
    last = ap (λ s. s.last) b.after;
    cursors = ap (λ s. s.cursors) b.after;
    finders = ap (λ s. s.finders) b.after;
    last_finder = ap (λ s. s.last_finder) b.after;
  }

module _ {K A : Type 0} (is_cover : K → K → Bool) (now : State K A) (sound : IsSoundWorld is_cover now) (f row : ℕ) (live : status_of now.commits row ≡ Live) where
  -- on the page where a row is met, one row more is dead
  dies : (finder : OpenFinder K) (page : ℕ) → finder_at now f ≡ Some finder → FindsRow now.search.tree finder page → finder.row ≡ row
      → IsPermutation ((finder.row, length now.commits + 1) ∷ deaths now.search.tree) (deaths (after_bury now.search.tree page finder.row (length now.commits + 1)))
  dies finder page is_open finds same =
      let seeking = finder_of is_cover now sound f finder is_open in
      buried_deaths is_cover now.search.tree now.search.fan sound.tree.sound now.commits sound.agrees page finder.row (length now.commits + 1)
      (finds_page now.search.tree finder page seeking.stack finds) (subst (λ r. status_of now.commits r ≡ Live) (sym same) live) (finds_weigh now.search.tree finder page finds)

  delete_dies : (stamp : Stamp K) (new : State K A) → (b : Buries 0 now f stamp new) → b.finder.row ≡ row → AddsDeath now b.finder.row new
  delete_dies stamp new b same =
      subst (λ t. IsPermutation ((b.finder.row, length now.commits + 1) ∷ deaths now.search.tree) (deaths t)) (sym (ap (λ s. s.search.tree) b.after)) (dies b.finder b.page b.is_open b.finds same)

  -- where it is moved, the leaf's entry of the new row is live
  move_dies : (leaf : ℕ) (key : K) (stamp : Stamp K) (new : State K A) → PlacePasses is_cover now.search leaf key → (b : MovesRow 0 now f leaf key stamp new) → b.finder.row ≡ row → AddsDeath now b.finder.row new
  move_dies leaf key stamp new passes b same =
      let on = meets_on is_cover now sound f b.finder b.page b.is_open b.finds in
      let dead : Tree K = after_bury now.search.tree b.page b.finder.row (length now.commits + 1) in
      let tree = buried is_cover now.search.tree now.search.fan now.search.least now.search.limit sound.tree b.page on.leaf b.finder.row (length now.commits + 1) in
      let l : leaf < length dead.pages = omega (arith, leaf_within is_cover now.search leaf key passes, rows_pages now.search.tree b.page (map (marked b.finder.row (length now.commits + 1)) (page_at now.search.tree b.page).rows)) in
      subst (λ t. IsPermutation ((b.finder.row, length now.commits + 1) ∷ deaths now.search.tree) (deaths t)) (sym (ap (λ s. s.search.tree) b.after))
      (IsPermutation-trans _ _ _ (dies b.finder b.page b.is_open b.finds same) (deaths_placed is_cover dead now.search.fan tree.sound leaf l key (length now.commits + 1) b.row.tag))

-- where a finder's row lives, and what is to be done where it is met may be done, a visit passes its tests
visit_passes : {K A : Type 0} (old : State K A) (f : ℕ) (k : OpenFinder K) → finder_at old f ≡ Some k → is_ended old.commits k.row ≡ false → (further : List (Bool × Refusal)) → first_failing further ≡ None
    → first_failing (visit_tests old f further) ≡ None
visit_passes old f k found alive further may = by_place (is_at_row old.search.tree k) refl
  where
    by_place : (b : Bool) → is_at_row old.search.tree k ≡ b → first_failing (visit_tests old f further) ≡ None
    by_place true e = visit_here old f k found further alive e ∙ may
    by_place false e = visit_further old f k found further alive e

commits_may : {K A : Type 0} (old : State K A) → length old.commits < old.limit → first_failing (commit_tests old) ≡ None
commits_may old room = let t : nat_le old.limit (length old.commits) ≡ false = search (arith, room) in passes_at (nat_le old.limit (length old.commits)) refusal.CommitsFull [] t

module _ {K A : Type 0} (rules : Rules K A) (rule : Rule) (first : State K A) (row f : ℕ) (now : State K A) (u : IsUnderWay rules rule first row f now) where
  abbrev k : OpenFinder K
  k = u.looks.finder

  pub there : IsSoundWorld rules.is_cover (looking first k)
  there = subst (λ s. IsSoundWorld rules.is_cover s) u.looks.is u.sound

  -- the finder is open
  pub its_finder : finder_at now f ≡ Some u.looks.finder
  its_finder =
      ap (λ n. finder_at now n) u.number
      ∙ ap (λ s. finder_at s (first.last_finder + 1)) u.looks.is
      ∙ looking_at rules.is_cover first k u.looks.serial there

  pub its_row : (finder : OpenFinder K) → finder_at now f ≡ Some finder → finder.row ≡ row
  its_row finder is_open =
      let e : Some finder ≡ Some k = sym is_open ∙ its_finder in
      let same : finder ≡ k = cc in
      ap (λ (x : OpenFinder K). x.row) same ∙ u.looks.row_is

  pub lives_still : status_of first.commits row ≡ Live → status_of now.commits row ≡ Live
  lives_still live = subst (λ s. status_of s.commits row ≡ Live) (sym u.looks.is) live

  -- a step after which the finder has gone on
  module _ (new : State K A) (on : SeeksOn rules rule now f new) where
    before_is : on.before ≡ k
    before_is = let e : Some on.before ≡ Some k = sym on.is_open ∙ its_finder in cc

    later_serial : on.later.serial ≡ first.last_finder + 1
    later_serial = ap (λ (x : OpenFinder K). x.serial) on.further.after ∙ ap (λ (x : OpenFinder K). x.serial) before_is ∙ u.looks.serial

    new_is : new ≡ looking first on.later
    new_is =
        on.after
        ∙ ap (λ s. with_finder s on.later) u.looks.is
        ∙ ap {A = List (OpenFinder K)} {B = State K A} (λ ks. record first { finders = ks; last_finder = first.last_finder + 1 }) (looking_put rules.is_cover first k u.looks.serial there on.later later_serial)

  -- where it goes on, it is under way, with fewer pages left
  pub gone_on : {E : Type 0} (how : Ending K) (new : State K A) → ServesAll {E = E} rules rule now (event_of_ending f how) reply.Seeking new → SeeksOn rules rule now f new → IsSoundWorld rules.is_cover new → IsUnderWay rules rule first row f new
  gone_on {E} how new serves on sound = record {
    looks = record {
      finder = on.later;
      row_is = ap (λ (x : OpenFinder K). x.row) on.further.after ∙ ap (λ (x : OpenFinder K). x.row) (before_is new on) ∙ u.looks.row_is;
      serial = later_serial new on;
      is = new_is new on;
    };
    number = u.number;
    sound = sound;
    rests = rests_trans rules rule first now new u.rests
        (step_rests {E = E} rules rule now (event_of_ending f how) reply.Seeking new serves (untaken A {E = E} f how reply.Seeking) (ap (λ s. s.limit) on.after) (ap (λ s. s.search.limit) on.after)
        (let e = ap (λ s. length s.search.tree.pages) on.after in omega (arith, e)) (ap (λ s. s.last) on.after) (ap (λ s. s.cursors) on.after));
  }

  -- its row, once it is met, ends
  pub met : {E : Type 0} (how : Ending K) (stamp : Stamp K) (new : State K A) → ServesAll {E = E} rules rule now (event_of_ending f how) (reply.Committed stamp) new
      → (m : IsMet now f how stamp new) → AddsDeath now m.finder.row new → Ends rules rule first row how stamp.number new
  met {E} how stamp new serves m dead = record {
    number_is = m.number ∙ ap (λ s. length s.commits + 1) u.looks.is;
    commits = m.commits ∙ ap (λ s. s.commits ++ write_of_ending m.finder.row how ∷ []) u.looks.is ∙ ap (λ r. first.commits ++ write_of_ending r how ∷ []) row_is;
    rests = rests_trans rules rule first now new u.rests
        (step_rests {E = E} rules rule now (event_of_ending f how) (reply.Committed stamp) new serves (untaken A {E = E} f how (reply.Committed stamp)) m.limit m.page_limit (omega (arith, m.pages)) m.last m.cursors);
    dead = subst (λ r. IsPermutation ((r, length first.commits + 1) ∷ deaths first.search.tree) (deaths new.search.tree)) row_is
        (subst (λ s. IsPermutation ((m.finder.row, length s.commits + 1) ∷ deaths s.search.tree) (deaths new.search.tree)) u.looks.is dead);
    pages = m.pages ∙ ap (λ s. length s.search.tree.pages) u.looks.is;
    finders = m.finders
        ∙ ap (λ n. without (λ x. x.serial) n now.finders) u.number
        ∙ ap (λ s. without (λ x. x.serial) (first.last_finder + 1) s.finders) u.looks.is
        ∙ looking_without rules.is_cover first k u.looks.serial there;
    last_finder = m.last_finder ∙ ap (λ s. s.last_finder) u.looks.is;
  }
    where
      row_is : m.finder.row ≡ row
      row_is = its_row m.finder m.is_open

  -- a visit passes its tests
  pub passes : (how : Ending K) → status_of first.commits row ≡ Live → length first.commits < first.limit → MayEnd rules.is_cover first.search how
      → first_failing (tests rules rule now (event_of_ending f how)) ≡ None
  passes how live room may = by_ending how (subst (λ s. MayEnd rules.is_cover s.search how) (sym u.looks.is) may)
    where
      alive : is_ended now.commits k.row ≡ false
      alive = ap (λ s. is_ended s.commits k.row) u.looks.is ∙ ap (is_ended first.commits) u.looks.row_is ∙ live_kept first.commits row live

      open_room : length now.commits < now.limit
      open_room = let e = ap (λ s. s.limit) u.looks.is in let g = ap (λ s. length s.commits) u.looks.is in omega (arith, e, g, room)

      by_ending : (how : Ending K) → MayEnd rules.is_cover now.search how → first_failing (tests rules rule now (event_of_ending f how)) ≡ None
      by_ending ending.Delete may = visit_passes now f k its_finder alive (commit_tests now) (commits_may now open_room)
      by_ending (ending.Move leaf key) may =
          visit_passes now f k its_finder alive (place_tests rules.is_cover now.search leaf key ++ commit_tests now)
          (failing_later (place_tests rules.is_cover now.search leaf key) (commit_tests now) may ∙ commits_may now open_room)

  -- it is refused for want of memory alone
  pub refused : (how : Ending K) (why : Refusal) (new : State K A) → status_of first.commits row ≡ Live → length first.commits < first.limit → MayEnd rules.is_cover first.search how
      → IsRefused rules rule now (event_of_ending f how) why new → (why ≡ refusal.OutOfMemory) × (new ≡ now)
  refused how why new live room may r = (
    elim r.cause [
      | inl failed ↦ absurd (let e : None ≡ Some why = sym (passes how live room may) ∙ failed in cc)
      | inr later ↦ memory how later.1
    ],
    r.unchanged,
  )
    where
      memory : (how : Ending K) → RefusesLater rules rule now (event_of_ending f how) why → why ≡ refusal.OutOfMemory
      memory ending.Delete h = h.memory
      memory (ending.Move leaf key) h = h.memory

  -- ended, it leaves the world as it was but for its serial
  pub ended : {E : Type 0} (new : State K A) (r : Reply K E) → Step rules rule 0 now (event.Unfind f) r new → Leaves first new
  ended {E} new r step = record {
    last_finder = first.last_finder + 1;
    few = omega arith;
    is = done r step
        ∙ ap {A = ℕ} {B = State K A} (λ n. record now { finders = without (λ x. x.serial) n now.finders }) u.number
        ∙ ap {A = State K A} {B = State K A} (λ s. record s { finders = without (λ x. x.serial) (first.last_finder + 1) s.finders }) u.looks.is
        ∙ ap {A = List (OpenFinder K)} {B = State K A} (λ ks. record first { finders = ks; last_finder = first.last_finder + 1 }) (looking_without rules.is_cover first k u.looks.serial there);
  }
    where
      done : (r : Reply K E) → Step rules rule 0 now (event.Unfind f) r new → new ≡ record now { finders = without (λ x. x.serial) f now.finders }
      done reply.Unfound d = d.change
      done (reply.Refused why) d = absurd (elim d.cause [
        | inl failed ↦ let e : None ≡ Some why = sym passed ∙ failed in cc
        | inr later ↦ later.1
      ])
        where
          passed : first_failing (tests rules rule now (event.Unfind f)) ≡ None
          passed = rw its_finder refl
      done other d = absurd d.change

-- a visit by its answer
module _ {K A E : Type 0} (rules : Rules K A) (rule : Rule) (now : State K A) (f : ℕ) (how : Ending K) where
  pub went_on : (made : Result (Option (Stamp K)) Refusal) (new : State K A) → made ≡ Ok None → SeeksToEnd E rules rule 0 now f how made new → IsOneStep E rules rule 0 now (event_of_ending f how) reply.Seeking new
  went_on made new is visits = subst (λ m. SeeksToEnd E rules rule 0 now f how m new) is visits

  pub met_row : (stamp : Stamp K) (made : Result (Option (Stamp K)) Refusal) (new : State K A) → made ≡ Ok (Some stamp) → SeeksToEnd E rules rule 0 now f how made new
      → IsOneStep E rules rule 0 now (event_of_ending f how) (reply.Committed stamp) new
  met_row stamp made new is visits = subst (λ m. SeeksToEnd E rules rule 0 now f how m new) is visits

-- a visit by its reply: it goes on, or its row ends
module _ {K A E : Type 0} (rules : Rules K A) (rule : Rule) where
  pub goes_on : (now : State K A) (f : ℕ) (how : Ending K) (new : State K A) → Step {E = E} rules rule 0 now (event_of_ending f how) reply.Seeking new → SeeksOn rules rule now f new
  goes_on now f ending.Delete new d = d.change
  goes_on now f (ending.Move leaf key) new d = d.change

  pub ends_by : (first : State K A) (row f : ℕ) (now : State K A) → IsUnderWay rules rule first row f now → (how : Ending K) (stamp : Stamp K) (new : State K A) → status_of first.commits row ≡ Live → MayEnd rules.is_cover first.search how
      → ServesAll {E = E} rules rule now (event_of_ending f how) (reply.Committed stamp) new → Step {E = E} rules rule 0 now (event_of_ending f how) (reply.Committed stamp) new → Ends rules rule first row how stamp.number new
  unfolding met_delete met_move
  ends_by first row f now u ending.Delete stamp new live may serves d =
      met rules rule first row f now u {E = E} ending.Delete stamp new serves (met_delete now f stamp new d.change)
      (delete_dies rules.is_cover now u.sound f row (lives_still rules rule first row f now u live) stamp new d.change (its_row rules rule first row f now u d.change.finder d.change.is_open))
  ends_by first row f now u (ending.Move leaf key) stamp new live may serves d =
      met rules rule first row f now u {E = E} (ending.Move leaf key) stamp new serves (met_move now f leaf key stamp new d.change)
      (move_dies rules.is_cover now u.sound f row (lives_still rules rule first row f now u live) leaf key stamp new (subst (λ s. PlacePasses rules.is_cover s.search leaf key) (sym u.looks.is) may) d.change
      (its_row rules rule first row f now u d.change.finder d.change.is_open))

-- fewer pages are left
fewer_left : {K A : Type 0} (rules : Rules K A) (rule : Rule) (now new : State K A) (f : ℕ) → IsSoundWorld rules.is_cover now → (on : SeeksOn rules rule now f new) → finder_at new f ≡ Some on.later → pages_to_seek f new < pages_to_seek f now
fewer_left rules rule now new f sound on found =
    let seeking = finder_of rules.is_cover now sound f on.before on.is_open in
    let less = seek_pages rules.is_cover now.search.tree now.search.fan sound.tree.sound (λ bound. rules.is_cover bound on.before.key) on.before.stack _ on.further.stack seeking.stack on.further.further.goes_on in
    let before : pages_to_seek f now ≡ length (pages_left now.search.tree on.before.stack) = ap (left_of now.search.tree) on.is_open in
    let later : pages_to_seek f new ≡ length (pages_left now.search.tree on.further.stack) =
    ap (left_of new.search.tree) found ∙ ap (λ t. length (pages_left t on.later.stack)) (ap (λ s. s.search.tree) on.after) ∙ ap (λ (x : OpenFinder _). length (pages_left now.search.tree x.stack)) on.further.after in
    omega (arith, less, before, later)

-- a visit that goes on
pub gone_less : {K A E : Type 0} (rules : Rules K A) (rule : Rule) (first : State K A) (row f : ℕ) (now : State K A) → IsUnderWay rules rule first row f now
    → (how : Ending K) (new : State K A) → ServesAll {E = E} rules rule now (event_of_ending f how) reply.Seeking new → SeeksOn rules rule now f new → IsSoundWorld rules.is_cover new → pages_to_seek f new < pages_to_seek f now
unfolding gone_on
gone_less rules rule first row f now u how new serves on sound =
    fewer_left rules rule now new f u.sound on (its_finder rules rule first row f new (gone_on rules rule first row f now u how new serves on sound))

-- a call of which nothing but a serial is left, or which ends the row
pub rests_either : {K A Y : Type 0} (rules : Rules K A) (rule : Rule) (old : State K A) (row : ℕ) (how : Ending K) (result : Result ℕ Y) (new : State K A) → IfOk result (λ number. Ends rules rule old row how number new) → OnErr result (Leaves old new) → Rests rules rule old new
rests_either rules rule old row how (Ok number) new done left = done.rests
rests_either rules rule old row how (Err why) new done left = subst (λ s. Rests rules rule old s) (sym left.is) (leaves_rests rules rule old left.last_finder)

module _ {K A : Type 0} where
  -- where a finder begins, there was a place
  pub has_place : (s : State K A) (row : ℕ) → first_failing (find_tests s row) ≡ None → IsFullOfFinders s → ⊥
  has_place s row passed full =
      let may = may_find s row passed in
      elim full [
        | inl many ↦ omega (arith, many, may.few)
        | inr given ↦ omega (arith, given, may.given)
      ]

  -- a finder of a live row is refused for its want of a place exactly where there is none
  pub refused_finder : (rules : Rules K A) (rule : Rule) (old : State K A) (row : ℕ) (why : Refusal) (new : State K A) → IsLegal new.commits → status_of old.commits row ≡ Live → IsRefused rules rule old (event.Find row) why new
      → (why ≡ refusal.FindersFull) ↔ IsFullOfFinders old
  refused_finder rules rule old row why new legal live r = by_test full refl
    where
      full : Bool
      full = nat_le 64 (length old.finders) || nat_le 4294967295 old.last_finder

      last_test : first_failing (find_tests old row) ≡ first_failing ((full, refusal.FindersFull) ∷ [])
      last_test = let lives = live_row old.commits row (subst (λ s. IsLegal s.commits) r.unchanged legal) live in rw (lives.is, lives.kept) refl

      by_test : (b : Bool) → full ≡ b → (why ≡ refusal.FindersFull) ↔ IsFullOfFinders old
      by_test true e =
          let first : first_failing (find_tests old row) ≡ Some refusal.FindersFull = last_test ∙ ap (λ b. first_failing ((b, refusal.FindersFull) ∷ [])) e in
          let there : IsFullOfFinders old = search (arith, e) in (
            λ h. there,
            λ h. elim r.cause [
              | inl failed ↦ let same : Some refusal.FindersFull ≡ Some why = sym first ∙ failed in cc
              | inr later ↦ absurd (let none : None ≡ Some refusal.FindersFull = sym later.0 ∙ first in cc)
            ],
          )
      by_test false e =
          let first : first_failing (find_tests old row) ≡ None = last_test ∙ ap (λ b. first_failing ((b, refusal.FindersFull) ∷ [])) e in (
            λ h. elim r.cause [
              | inl failed ↦ absurd (let none : None ≡ Some why = sym first ∙ failed in cc)
              | inr later ↦ absurd (let memory : refusal.FindersFull ≡ refusal.OutOfMemory = sym h ∙ later.1 in cc)
            ],
            λ h. absurd (has_place old row first h),
          )

  -- nothing else refuses it but want of memory
  pub refuses_finder : (rules : Rules K A) (rule : Rule) (old : State K A) (row : ℕ) (why : Refusal) (new : State K A) → IsLegal new.commits → status_of old.commits row ≡ Live → IsRefused rules rule old (event.Find row) why new
      → RefusesFinder old why
  refuses_finder rules rule old row why new legal live r = elim r.cause [
    | inl failed ↦ by_test full refl (sym last_test ∙ failed)
    | inr later ↦ inl later.1
  ]
    where
      full : Bool
      full = nat_le 64 (length old.finders) || nat_le 4294967295 old.last_finder

      last_test : first_failing (find_tests old row) ≡ first_failing ((full, refusal.FindersFull) ∷ [])
      last_test = let lives = live_row old.commits row (subst (λ s. IsLegal s.commits) r.unchanged legal) live in rw (lives.is, lives.kept) refl

      by_test : (b : Bool) → full ≡ b → first_failing ((b, refusal.FindersFull) ∷ []) ≡ Some why → RefusesFinder old why
      by_test true e f = let same : refusal.FindersFull ≡ why = cc in inr (sym same, (let there : IsFullOfFinders old = search (arith, e) in there))
      by_test false e f = absurd (cc)
