-- A finder's row stands once under its stack through every step, until a visit meets it.
use Rattle.std.proofs.Common.{◌≡◌, ◌+◌, ◌<◌, ◌≤◌, ℕ, Bool, true, false, List, [], ◌∷◌, ◌++◌, length, map, filter, Some, refl, sym, ap, ◌∙◌, arith, subst}
use Rattle.std.proofs.lemmas.Bool.{both_ways}
use Rattle.std.proofs.lemmas.List.Elements.{All-append, All-weaker}
use Rattle.change_list.proofs.Tracking.{live_kept}
use Rattle.change_list.specs.declared.item.Row.{Row}
use Rattle.change_list.specs.Changes.{is_ended, row_at, status_of}
use Rattle.change_list.specs.declared.write.Status.TheVariants.{Live}
use Rattle.change_list.specs.declared.write.Write.{Write}
use Rattle.node.specs.declared.branch.Branch.{Branch}
use Rattle.page_table.proofs.Counting.{one-different}
use Rattle.page_table.proofs.Lists.{All-front}
use Rattle.page_table.proofs.Pruning.{rows_covered}
use Rattle.page_table.proofs.RowChanges.{rows_kept}
use Rattle.page_table.proofs.Stacks.{left_append, left_one, pushed_stack, stack_kept, sweep_kept, visit_work}
use Rattle.page_table.proofs.Under.{All-both, entries_under}
use Rattle.page_table.proofs.Visits.{visit_rows}
use Rattle.page_table.proofs.Weights.{weigh-append, weigh-each, weigh-map, weigh-none}
use Rattle.page_table.specs.Keeping.{KeepsRows}
use Rattle.page_table.specs.Soundness.{BoundsBelow, IsSound}
use Rattle.page_table.specs.Stacks.{IsStack, StackItem, pages_left, pushed, rows_left}
use Rattle.page_table.specs.Trees.{Falls, Tree, after_rows, page_at, rows_under}
use Rattle.page_table.specs.Weights.{one_if_equal, weigh}
use Rattle.row_version.specs.Entries.{Entry, is_needed, marked}
use Rattle.scan.proofs.Agreement.{marked_row, swept_dead}
use Rattle.scan.proofs.Opening.{open_stack}
use Rattle.scan.proofs.Scans.{keeps_stack, rows_stack}
use Rattle.scan.proofs.Visiting.{next_exists, visit_stack}
use Rattle.scan.specs.Agreement.{Agrees, IsEntryOf, is_row}
use Rattle.scan.specs.Finding.{FindsHere, IsFinder, SeeksFurther}
use Rattle.scan.specs.Scanning.{GoesOn, seen}
use Rattle.search.specs.Live.{row_of}

-- a finder has something left to visit
pub finder_open : {K : Type 0} (row : ℕ) (t : Tree K) → IsFinder row t [] → ⊥
finder_open row t find = let e = find.there in omega (arith, e)

-- what is still to be visited behind a page that lacks the row exists
pub further_stack : {K : Type 0} (is_cover : K → K → Bool) (t : Tree K) (fan : ℕ) → IsSound is_cover fan t → (key : K) (row : ℕ) (old new : List StackItem) (page : ℕ)
    → IsStack t old → SeeksFurther (λ bound. is_cover bound key) row t old page new → IsStack t new
further_stack is_cover t fan sound key row old new page stack further =
    visit_stack is_cover t fan sound (λ k. true) (λ bound. is_cover bound key) 0 old new page (seen (λ k. true) 0 (page_at t page).rows) stack
    (record { rest = further.goes_on.rest; memo = further.memo; before = further.goes_on.before; after = further.goes_on.after; noted_is = refl })

module _ {K : Type 0} (row : ℕ) (t : Tree K) (stack : List StackItem) where
  -- a step that moves entries
  pub keeps_finder : (t' : Tree K) → KeepsRows t t' → IsFinder row t stack → IsFinder row t' stack
  keeps_finder t' keeps find = record {
    exists = keeps_stack t t' stack keeps find.exists;
    there = stack_kept t t' (is_row row) (λ q m l k. keeps.under q m l k (is_row row)) stack find.exists ∙ find.there;
  }

  module _ (find : IsFinder row t stack) (is_cover : K → K → Bool) (fan : ℕ) (sound : IsSound is_cover fan t) (p : ℕ) (l : p < length t.pages) where
    -- a page's rows written anew, the row as often as before
    rows_finder : (new : List (Entry K)) → weigh (is_row row) new ≡ weigh (is_row row) (page_at t p).rows → IsFinder row (after_rows t p new) stack
    rows_finder new kept = record {
      exists = rows_stack t p new stack find.exists;
      there = stack_kept t (after_rows t p new) (is_row row) (λ q m k c. rows_kept t sound.rank sound.ranked p l new (is_row row) kept q m k) stack find.exists ∙ find.there;
    }

    -- another row is placed
    pub place_finder : (entry : Entry K) → ((entry.row ≡ row) → ⊥) → IsFinder row (after_rows t p ((page_at t p).rows ++ entry ∷ [])) stack
    place_finder entry other = rows_finder ((page_at t p).rows ++ entry ∷ [])
        (let a = weigh-append (is_row row) (page_at t p).rows (entry ∷ []) in omega (arith, a, one-different entry.row row other))

    -- any row is deleted
    pub bury_finder : (other n : ℕ) → IsFinder row (after_rows t p (map (marked other n) (page_at t p).rows)) stack
    bury_finder other n = rows_finder (map (marked other n) (page_at t p).rows)
        (weigh-map (is_row row) (marked other n) (page_at t p).rows ∙ weigh-each (λ e. is_row row (marked other n e)) (is_row row) (page_at t p).rows (λ i d h. ap (λ x. one_if_equal x row) (marked_row other n _)))

    -- a sweep, while the row lives
    pub sweep_finder : (commits : List (Write K)) → Agrees t commits → status_of commits row ≡ Live → (horizon : ℕ) → IsFinder row (after_rows t p (filter (is_needed horizon) (page_at t p).rows)) stack
    sweep_finder commits agrees live horizon = record {
      exists = rows_stack t p (filter (is_needed horizon) (page_at t p).rows) stack find.exists;
      there =
          stack_kept t (after_rows t p (filter (is_needed horizon) (page_at t p).rows)) (is_row row)
          (λ q m k c. sweep_kept t sound.rank sound.ranked p l (is_needed horizon) (is_row row)
          (All-weaker (λ (e : Entry K). IsEntryOf commits e) (λ (e : Entry K). is_needed horizon e ≡ false → is_row row e ≡ 0)
          (λ e a off. one-different e.row row (λ x. both_ways (is_ended commits row) alive (ap (is_ended commits) (sym x) ∙ swept_dead is_cover t fan sound commits agrees p l horizon e a off))) (page_at t p).rows (agrees.entries p l))
          q m k) stack find.exists
          ∙ find.there;
    }
      where
        alive : is_ended commits row ≡ false
        alive = live_kept commits row live

module _ {K : Type 0} (is_cover : K → K → Bool) (t : Tree K) (fan : ℕ) (sound : IsSound is_cover fan t) (commits : List (Write K)) (agrees : Agrees t commits) (row : ℕ) where
  -- the finder of a live row begins at the root
  pub begin_finder : status_of commits row ≡ Live → IsFinder row t (record { page = 0; memo = t.counter } ∷ [])
  begin_finder live = record {
    exists = open_stack is_cover t fan sound;
    there = left_one t (is_row row) (record { page = 0; memo = t.counter }) ∙ agrees.live_once row live;
  }

  module _ (through : (a b c : K) → is_cover a b ≡ true → is_cover b c ≡ true → is_cover a c ≡ true) (key : K) (tag : ℕ) (made : row_at commits row ≡ Some (record { row = row; key = key; tag = tag })) where
    -- an entry of the row has the row's key
    its_key : (e : Entry K) → IsEntryOf commits e → e.row ≡ row → e.key ≡ key
    its_key e a h =
        let both : Some (row_of e) ≡ Some (record { row = row; key = key; tag = tag }) = sym (subst (λ x. row_at commits x ≡ Some (row_of e)) h a.made) ∙ made in
        let same : row_of e ≡ record { row = row; key = key; tag = tag } = cc in
        ap (λ (r : Row K). r.key) same

    unwanted : (b : Branch K) → b.child < length t.pages → BoundsBelow is_cover t b → is_cover b.key key ≡ false → weigh (is_row row) (rows_under t b.child t.counter) ≡ 0
    unwanted b l w off = weigh-none (is_row row) (rows_under t b.child t.counter)
        (All-both (λ (e : Entry K). is_cover b.key e.key ≡ true) (λ (e : Entry K). IsEntryOf commits e) (λ (e : Entry K). is_row row e ≡ 0)
        (λ e c a. one-different e.row row (λ x. both_ways (is_cover b.key key) off (ap (is_cover b.key) (sym (its_key e a x)) ∙ c))) _
        (rows_covered is_cover through t fan sound b.key b.child l (w.child, w.sibling))
        (entries_under t sound.rank sound.ranked (λ e. IsEntryOf commits e) agrees.entries b.child t.counter l))

    -- a page that lacks the row: it stands under what follows the page
    pub further_finder : (old : List StackItem) (page : ℕ) (new : List StackItem) → SeeksFurther (λ bound. is_cover bound key) row t old page new → IsFinder row t old → IsFinder row t new
    further_finder old page new seeks find = subst (λ n. IsFinder row t n) (sym on.after) (record {
      exists = All-append InStack on.rest next (All-front InStack on.rest (item ∷ []) parts) (pushed_stack t sound.rank sound.ranked (λ b. is_cover b.key key) page seeks.memo here.0 here.1);
      there =
          let a = left_append t (is_row row) on.rest (item ∷ []) in
          let b = left_one t (is_row row) item in
          let c = left_append t (is_row row) on.rest next in
          let d = visit_rows t sound.rank sound.ranked (λ b. is_cover b.key key) page seeks.memo here.0 (is_row row)
          (All-both (λ (b : Branch K). Falls (length t.pages) sound.rank page b.child) (λ (b : Branch K). BoundsBelow is_cover t b) (λ (b : Branch K). is_cover b.key key ≡ false → weigh (is_row row) (rows_under t b.child t.counter) ≡ 0)
          (λ b f w off. unwanted b f.0 w off) (page_at t page).branches ((sound.ranked.links page here.0).down) ((sound.bounded page here.0).below)) in
          let e : weigh (is_row row) (rows_left t (on.rest ++ item ∷ [])) ≡ 1 = sym (ap (λ x. weigh (is_row row) (rows_left t x)) on.before) ∙ find.there in
          omega (arith, a, b, c, d, e, seeks.lacks);
    })
      where
        item : StackItem
        item = record { page = page; memo = seeks.memo }

        on : GoesOn (λ bound. is_cover bound key) t old item new
        on = seeks.goes_on

        next : List StackItem
        next = pushed t (λ b. is_cover b.key key) page seeks.memo

        InStack : StackItem → Type 0
        InStack i = (i.page < length t.pages) × (i.memo ≤ t.counter)

        parts : IsStack t (on.rest ++ item ∷ [])
        parts = subst (λ o. IsStack t o) on.before find.exists

        here : InStack item
        here = next_exists t old item find.exists (record { rest = on.rest; is = on.before })

    -- one that holds it changes nothing
    pub here_finder : (old : List StackItem) (page : ℕ) (new : List StackItem) → FindsHere row t old page new → IsFinder row t old → IsFinder row t new
    here_finder old page new finds find = subst (λ n. IsFinder row t n) (sym finds.unchanged) find

-- a finder that goes on has fewer pages left
pub seek_pages : {K : Type 0} (is_cover : K → K → Bool) (t : Tree K) (fan : ℕ) (sound : IsSound is_cover fan t) (wanted : K → Bool) (old : List StackItem) (item : StackItem) (new : List StackItem)
    → IsStack t old → GoesOn wanted t old item new → length (pages_left t new) + 1 ≤ length (pages_left t old)
seek_pages is_cover t fan sound wanted old item new stack on =
    let a : length (pages_left t new) ≡ length (pages_left t (on.rest ++ pushed t (λ b. wanted b.key) item.page item.memo)) = ap (λ x. length (pages_left t x)) on.after in
    let b : length (pages_left t old) ≡ length (pages_left t (on.rest ++ item ∷ [])) = ap (λ x. length (pages_left t x)) on.before in
    omega (arith, a, b, visit_work t sound.rank sound.ranked (λ b. wanted b.key) on.rest item (next_exists t old item stack (record { rest = on.rest; is = on.before })).0)
