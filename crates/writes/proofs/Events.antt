-- What ends a row is what events make: a finder from the root comes to the same page.
use Rattle.std.proofs.Common.{◌≡◌, ◌+◌, ◌<◌, ◌≤◌, ◌⊎◌, inl, inr, ℕ, zero, suc, Bool, true, false, List, [], ◌∷◌, ◌++◌, length, Some, None, refl, sym, ap, ◌∙◌, arith, subst, length-append}
use Rattle.key_class.specs.Rules.{IsLawful, Rules}
use Rattle.mailbox.specs.Outlets.{Rule}
use Rattle.change_list.proofs.Tracking.{live_kept}
use Rattle.change_list.specs.Changes.{HasKey, row_at, status_of}
use Rattle.change_list.specs.declared.write.Status.TheVariants.{Live}
use Rattle.change_list.specs.declared.write.Write.{Write}
use Rattle.change_list.specs.declared.write.Write.TheVariants.{Delete, Move}
use Rattle.descent.proofs.Seeking.{finds_page, not_at_end, seeking_begun}
use Rattle.descent.specs.Finders.{OpenFinder, FindsRow, GoesFurther, begun_finder}
use Rattle.page_table.proofs.Counting.{found_two}
use Rattle.page_table.proofs.PageLists.{is_or_not}
use Rattle.page_table.proofs.Under.{rows_under-weigh}
use Rattle.page_table.specs.LeafChanges.{after_bury, after_move}
use Rattle.page_table.specs.Stacks.{StackItem, pushed}
use Rattle.page_table.specs.Trees.{Tree, page_at, pages_under, rows_of_tree}
use Rattle.page_table.specs.Weights.{weigh}
use Rattle.scan.proofs.Seeking.{holds_weigh, lacks_weigh}
use Rattle.scan.specs.Agreement.{is_row}
use Rattle.scan.specs.Finding.{holds}
use Rattle.scan.specs.Scanning.{IsNext}
use Rattle.split.specs.Tests.{first_failing}
use Rattle.writes.specs.Ending.{MayEnd, event_of_ending}
use Rattle.writes.specs.Events.{EndsByEvents, SeekingLeads}
use Rattle.writes.specs.declared.ending.Ending.{Ending}
use Rattle.writes.specs.declared.ending.Ending.TheVariants as ending
use Rattle.writes.proofs.UnderWay.{IsUnderWay, begun, gone_less, gone_on, its_finder, its_row, lives_still, looking, looking_at, looking_put, looking_without, pages_to_seek, passes, there}
use Rattle.world.specs.Beginnings.{StandsOn}
use Rattle.world.specs.declared.event.Event.TheVariants as event
use Rattle.world.specs.declared.reply.Reply.TheVariants as reply
use Rattle.world.specs.Serials.{without}
use Rattle.world.specs.Stamps.{Stamp}
use Rattle.world.specs.States.{State, finder_at, with_finder, IsSoundWorld}
use Rattle.world.specs.Steps.{Buries, MovesRow, SeeksOn, Step, find_tests, tests}
use Rattle.world.proofs.FinderSteps.{find_passes, finder_of, has_place, sought_on_sound}
use Rattle.world.proofs.Stepping.{step_serves, step_sound}

-- some items have a last one
last_of : {X : Type 0} (x : X) (xs : List X) → (rest : List X) × (last : X) × (x ∷ xs ≡ rest ++ last ∷ [])
last_of x [] = ([], x, refl)
last_of x (y ∷ xs) = let more = last_of y xs in (x ∷ more.0, more.1, ap (λ l. x ∷ l) more.2)

next_of : (stack : List StackItem) → (stack ≡ [] → ⊥) → (item : StackItem) × IsNext stack item
next_of [] some = absurd (some refl)
next_of (x ∷ xs) some = let parts = last_of x xs in (parts.1, record { rest = parts.0; is = parts.2 })

-- the next visit of a finder: it meets its row, or it goes on
next_visit : {K : Type 0} (is_cover : K → K → Bool) (t : Tree K) (k : OpenFinder K) (item : StackItem) → IsNext k.stack item → FindsRow t k item.page ⊎ ((later : OpenFinder K) × GoesFurther is_cover t k item.page later)
next_visit {K} is_cover t k item next = by_test (holds k.row (page_at t item.page).rows) refl
  where
    stack : List StackItem
    stack = next.rest ++ pushed t (λ b. is_cover b.key k.key) item.page item.memo

    by_test : (b : Bool) → holds k.row (page_at t item.page).rows ≡ b → FindsRow t k item.page ⊎ ((later : OpenFinder K) × GoesFurther is_cover t k item.page later)
    by_test true h = inl (record { memo = item.memo; next = next; there = h })
    by_test false h = inr (
      record k { stack = stack },
      record {
        stack = stack;
        further = record { memo = item.memo; goes_on = record { rest = next.rest; before = next.is; after = refl }; lacks = lacks_weigh k.row (page_at t item.page).rows h };
        lacks = h;
        after = refl;
      },
    )

module _ {K A : Type 0} where
  -- a row stands on one page
  one_page : (is_cover : K → K → Bool) (s : State K A) → IsSoundWorld is_cover s → (row p q : ℕ) → StandsOn s row p → StandsOn s row q → p ≡ q
  one_page is_cover s sound row p q here there = elim (is_or_not p q) [
    | inl same ↦ same
    | inr other ↦
        let weight : ℕ → ℕ = λ x. weigh (is_row row) (page_at s.search.tree x).rows in
        let both : weight p + weight q ≤ weigh weight (pages_under s.search.tree 0 s.search.tree.counter) = found_two weight p q other (pages_under s.search.tree 0 s.search.tree.counter)
        (omega (arith, (sound.tree.sound.reached p here.0).once)) (omega (arith, (sound.tree.sound.reached q there.0).once)) in
        let all : weigh (is_row row) (rows_of_tree s.search.tree) ≡ weigh weight (pages_under s.search.tree 0 s.search.tree.counter) = rows_under-weigh s.search.tree (is_row row) 0 s.search.tree.counter in
        absurd (omega (arith, both, all, sound.agrees.at_most_once row, holds_weigh row (page_at s.search.tree p).rows here.1, holds_weigh row (page_at s.search.tree q).rows there.1))
  ]

  -- the next commit made, and a finder ended
  abbrev committed : (Tree K → ℕ → Tree K) → Write K → ℕ → State K A → State K A
  committed change write f s = record s {
    search = record s.search { tree = change s.search.tree (length s.commits + 1) };
    commits = s.commits ++ write ∷ [];
    finders = without (λ x. x.serial) f s.finders;
  }

module _ {K A : Type 0} (rules : Rules K A) (rule : Rule) (first : State K A) (row f : ℕ) (now : State K A) (u : IsUnderWay rules rule first row f now) where
  -- whichever finder is under way, its end leaves the same
  leaves_same : (change : Tree K → ℕ → Tree K) (write : Write K) → committed change write f now ≡ record first {
    search = record first.search { tree = change first.search.tree (length first.commits + 1) };
    commits = first.commits ++ write ∷ [];
    last_finder = first.last_finder + 1;
  }
  leaves_same change write =
      ap {A = ℕ} {B = State K A} (λ n. committed change write n now) u.number
      ∙ ap {A = State K A} {B = State K A} (λ s. committed change write (first.last_finder + 1) s) u.looks.is
      ∙ ap {A = List (OpenFinder K)} {B = State K A} (λ ks. record first {
        search = record first.search { tree = change first.search.tree (length first.commits + 1) };
        commits = first.commits ++ write ∷ [];
        finders = ks;
        last_finder = first.last_finder + 1;
      }) (looking_without rules.is_cover first u.looks.finder u.looks.serial (there rules rule first row f now u))

  -- where it meets its row, the row stands
  stands : (k : OpenFinder K) (page : ℕ) → finder_at now f ≡ Some k → FindsRow now.search.tree k page → StandsOn (looking first u.looks.finder) row page
  stands k page is_open finds =
      let seeking = finder_of rules.is_cover now u.sound f k is_open in
      subst (λ s. StandsOn s row page) u.looks.is
      (finds_page now.search.tree k page seeking.stack finds, subst (λ r. holds r (page_at now.search.tree page).rows ≡ true) (its_row rules rule first row f now u k is_open) finds.there)

  -- the finder of the row that begins at the root
  abbrev from_root : OpenFinder K
  from_root = begun_finder (first.last_finder + 1) row u.looks.finder.key 0 first.search.tree.counter

  its_key : HasKey first.commits row u.looks.finder.key
  its_key =
      let sound = there rules rule first row f now u in
      subst (λ r. HasKey first.commits r u.looks.finder.key) u.looks.row_is
      (finder_of rules.is_cover (looking first u.looks.finder) sound (first.last_finder + 1) u.looks.finder (looking_at rules.is_cover first u.looks.finder u.looks.serial sound)).made

  module _ (live : status_of first.commits row ≡ Live) where
    may_begin : first_failing (find_tests first row) ≡ None
    may_begin =
        let finders = (there rules rule first row f now u).finders in
        find_passes first row (record { row = row; key = u.looks.finder.key; tag = its_key.0 }) its_key.1 (live_kept first.commits row live)
        (has_place first row (omega (arith, finders.few, length-append first.finders (u.looks.finder ∷ []))) (omega (arith, finders.last_serial)))

    -- the event Find begins it
    begins_at_root : (E : Type 0) → Step {E = E} rules rule 0 first (event.Find row) (reply.Finder f) (looking first from_root)
    begins_at_root E = record { passed = may_begin; change = record { key = u.looks.finder.key; made = its_key; serial = u.number; after = refl } }

    -- and it is under way
    goes_from_root : IsUnderWay rules rule first row f (looking first from_root)
    goes_from_root =
        begun rules rule first row f (looking first from_root)
        (record { passed = may_begin; key = u.looks.finder.key; made = its_key; page = 0; may = inl refl; begins = record { serial = u.number; after = refl } })
        (sought_on_sound rules.is_cover (looking first u.looks.finder) sound from_root (looking first from_root)
        (ap {A = List (OpenFinder K)} {B = State K A} (λ ks. record first { finders = ks; last_finder = first.last_finder + 1 }) (sym (looking_put rules.is_cover first u.looks.finder u.looks.serial sound from_root refl)))
        (seeking_begun rules.is_cover first.search.fan first.search.tree sound.tree.sound first.commits sound.agrees (first.last_finder + 1) row u.looks.finder.key its_key))
      where
        sound : IsSoundWorld rules.is_cover (looking first u.looks.finder)
        sound = there rules rule first row f now u

-- the visits of a finder
module _ (E : Type 0) {K A : Type 0} (rules : Rules K A) (rule : Rule) {same_key : K → K → Bool} {same_atom : A → A → Bool} (lawful : IsLawful rules same_key same_atom) (first : State K A) (row f : ℕ) (how : Ending K) (live : status_of first.commits row ≡ Live) (room : length first.commits < first.limit) (may : MayEnd rules.is_cover first.search how) where
  visit_on : (how : Ending K) (s new : State K A) → first_failing (tests rules rule s (event_of_ending f how)) ≡ None → SeeksOn rules rule s f new → Step {E = E} rules rule 0 s (event_of_ending f how) reply.Seeking new
  visit_on ending.Delete s new passed on = record { passed = passed; change = on }
  visit_on (ending.Move leaf key) s new passed on = record { passed = passed; change = on }

  -- visits that lead to the page on which the row is met
  record Arrives (from : State K A) : Type 0 where
    pub visits : ℕ
    pub there : State K A
    pub goes_on : SeekingLeads E rules rule visits from f how there
    pub under_way : IsUnderWay rules rule first row f there
    pub page : ℕ
    pub finds : FindsRow there.search.tree under_way.looks.finder page

  -- a finder under way arrives, since fewer pages are left after each visit
  arrives : (bound : ℕ) (s : State K A) → IsUnderWay rules rule first row f s → pages_to_seek f s < bound → Arrives s
  arrives zero s u less = absurd (omega (arith, less))
  arrives (suc bound) s u less =
      let k : OpenFinder K = u.looks.finder in
      let is_open : finder_at s f ≡ Some k = its_finder rules rule first row f s u in
      let lives : status_of s.commits k.row ≡ Live = subst (λ r. status_of s.commits r ≡ Live) (sym u.looks.row_is) (lives_still rules rule first row f s u live) in
      let next = next_of k.stack (not_at_end s.search.tree s.commits k lives (finder_of rules.is_cover s u.sound f k is_open)) in
      elim (next_visit rules.is_cover s.search.tree k next.0 next.1) [
        | inl finds ↦ record { visits = 0; there = s; goes_on = refl; under_way = u; page = next.0.page; finds = finds }
        | inr on ↦
            let new : State K A = with_finder s on.0 in
            let seeks : SeeksOn rules rule s f new = record { before = k; later = on.0; is_open = is_open; page = next.0.page; further = on.1; after = refl } in
            let step = visit_on how s new (passes rules rule first row f s u how live room may) seeks in
            let serves = step_serves rules rule lawful 0 s u.sound (event_of_ending f how) reply.Seeking new step in
            let sound = step_sound rules rule lawful 0 s u.sound (event_of_ending f how) reply.Seeking new step in
            let fewer = gone_less rules rule first row f s u how new serves seeks sound in
            let more = arrives bound new (gone_on rules rule first row f s u how new serves seeks sound) (omega (arith, less, fewer)) in
            record { visits = suc more.visits; there = more.there; goes_on = (new, step, more.goes_on); under_way = more.under_way; page = more.page; finds = more.finds }
      ]

-- Two finders of the row under way: where the one ends the row, the other does where it meets it, and so the same world is left.
module _ {K A : Type 0} (rules : Rules K A) (rule : Rule) (first : State K A) (row f : ℕ) (now other : State K A) (u : IsUnderWay rules rule first row f now) (v : IsUnderWay rules rule first row f other) (page : ℕ) (finds : FindsRow other.search.tree v.looks.finder page) where
  same_commits : now.commits ≡ other.commits
  same_commits = ap (λ s. s.commits) u.looks.is ∙ sym (ap (λ s. s.commits) v.looks.is)

  -- the finder that ends the row
  module _ (k : OpenFinder K) (at : ℕ) (is_open : finder_at now f ≡ Some k) (met : FindsRow now.search.tree k at) where
    same_row : k.row ≡ v.looks.finder.row
    same_row = its_row rules rule first row f now u k is_open ∙ sym v.looks.row_is

    same_page : at ≡ page
    same_page = one_page rules.is_cover (looking first u.looks.finder) (there rules rule first row f now u) row at page
        (stands rules rule first row f now u k at is_open met) (stands rules rule first row f other v v.looks.finder page (its_finder rules rule first row f other v) finds)

    same_stamp : (write : ℕ → Write K) (stamp : Stamp K) → stamp ≡ record { number = length now.commits + 1; seat = 0; write = write k.row } → stamp ≡ record { number = length other.commits + 1; seat = 0; write = write v.looks.finder.row }
    same_stamp write stamp is =
        is
        ∙ ap {A = List (Write K)} {B = Stamp K} (λ commits. record { number = length commits + 1; seat = 0; write = write k.row }) same_commits
        ∙ ap {A = ℕ} {B = Stamp K} (λ r. record { number = length other.commits + 1; seat = 0; write = write r }) same_row

    same_end : (change : ℕ → ℕ → Tree K → ℕ → Tree K) (write : ℕ → Write K) (new : State K A) → new ≡ committed (change at k.row) (write k.row) f now → new ≡ committed (change page v.looks.finder.row) (write v.looks.finder.row) f other
    same_end change write new is =
        is
        ∙ ap {A = ℕ} {B = State K A} (λ r. committed (change at r) (write r) f now) same_row
        ∙ ap {A = ℕ} {B = State K A} (λ p. committed (change p v.looks.finder.row) (write v.looks.finder.row) f now) same_page
        ∙ leaves_same rules rule first row f now u (change page v.looks.finder.row) (write v.looks.finder.row)
        ∙ sym (leaves_same rules rule first row f other v (change page v.looks.finder.row) (write v.looks.finder.row))

  buries_too : (stamp : Stamp K) (new : State K A) → Buries 0 now f stamp new → Buries 0 other f stamp new
  buries_too stamp new b = record {
    finder = v.looks.finder;
    is_open = its_finder rules rule first row f other v;
    page = page;
    finds = finds;
    stamped = same_stamp b.finder b.page b.is_open b.finds Delete stamp b.stamped;
    after = same_end b.finder b.page b.is_open b.finds (λ p r t n. after_bury t p r n) Delete new b.after;
  }

  moves_too : (leaf : ℕ) (key : K) (stamp : Stamp K) (new : State K A) → MovesRow 0 now f leaf key stamp new → MovesRow 0 other f leaf key stamp new
  moves_too leaf key stamp new b = record {
    finder = v.looks.finder;
    is_open = its_finder rules rule first row f other v;
    page = page;
    finds = finds;
    row = b.row;
    is_row = subst (λ commits. row_at commits v.looks.finder.row ≡ Some b.row) same_commits (subst (λ r. row_at now.commits r ≡ Some b.row) (same_row b.finder b.page b.is_open b.finds) b.is_row);
    stamped = same_stamp b.finder b.page b.is_open b.finds (λ r. Move r key) stamp b.stamped;
    after = same_end b.finder b.page b.is_open b.finds (λ p r t n. after_move t p r n leaf (record { key = key; row = n; tag = b.row.tag; died = None })) (λ r. Move r key) new b.after;
  }

  ends_too : (E : Type 0) (how : Ending K) (stamp : Stamp K) (new : State K A) → first_failing (tests rules rule other (event_of_ending f how)) ≡ None
      → Step {E = E} rules rule 0 now (event_of_ending f how) (reply.Committed stamp) new → Step {E = E} rules rule 0 other (event_of_ending f how) (reply.Committed stamp) new
  ends_too E ending.Delete stamp new passed step = record { passed = passed; change = buries_too stamp new step.change }
  ends_too E (ending.Move leaf key) stamp new passed step = record { passed = passed; change = moves_too leaf key stamp new step.change }

-- a finder under way that ends its row: the row ends by events
pub ends_by_events : {K A E : Type 0} (rules : Rules K A) (rule : Rule) {same_key : K → K → Bool} {same_atom : A → A → Bool} → IsLawful rules same_key same_atom → (first : State K A) (row f : ℕ) (now : State K A) → IsUnderWay rules rule first row f now
    → (how : Ending K) (stamp : Stamp K) (new : State K A) → status_of first.commits row ≡ Live → length first.commits < first.limit → MayEnd rules.is_cover first.search how
    → Step {E = E} rules rule 0 now (event_of_ending f how) (reply.Committed stamp) new → EndsByEvents E rules rule first row how stamp.number new
ends_by_events {K} {A} {E} rules rule lawful first row f now u how stamp new live room may step =
    let root : State K A = looking first (from_root rules rule first row f now u) in
    let way = arrives E rules rule lawful first row f how live room may (suc (pages_to_seek f root)) root (goes_from_root rules rule first row f now u live) (omega arith) in
    record {
      finder = f;
      found = root;
      finds = begins_at_root rules rule first row f now u live E;
      visits = way.visits;
      there = way.there;
      goes_on = way.goes_on;
      stamp = stamp;
      number_is = refl;
      ends = ends_too rules rule first row f now way.there u way.under_way way.page way.finds E how stamp new (passes rules rule first row f way.there way.under_way how live room may) step;
    }
