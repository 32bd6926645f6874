-- What a finder keeps, step by step, and what its next visit meets.
use Rattle.std.proofs.Common.{◌≡◌, ◌+◌, ◌<◌, ◌≤◌, ℕ, Bool, true, false, List, [], ◌∷◌, ◌++◌, length, reverse, drop, Option, map, filter, zero, suc, Some, None, inl, inr, refl, sym, ap, ◌∙◌, arith, subst}
use Rattle.std.proofs.Common.{Result, Ok, Err}
use Rattle.std.specs.Prelude.{slice_get, OnErr}
use Rattle.std.proofs.lemmas.List.{reverse-append, reverse-reverse}
use mathlib.Core.List.{reverse-cons}
use Rattle.change_list.proofs.Made.{row_found, row_push}
use Rattle.change_list.specs.Changes.{HasKey, status_of}
use Rattle.change_list.specs.declared.write.Status.TheVariants.{Live}
use Rattle.change_list.specs.declared.write.Write.TheVariants.{Insert}
use Rattle.change_list.specs.declared.write.Write.{Write}
use Rattle.page_table.specs.Keeping.{KeepsRows}
use Rattle.page_table.specs.Soundness.{IsSound}
use Rattle.page_table.specs.Stacks.{IsStack, StackItem}
use Rattle.page_table.specs.Trees.{Tree, page_at}
use Rattle.page_table.specs.Weights.{weigh}
use Rattle.row_version.specs.Entries.{Entry, is_needed, marked}
use Rattle.scan.proofs.Commits.{live_pushed}
use Rattle.scan.proofs.Finders.{begin_finder, bury_finder, finder_open, further_finder, further_stack, keeps_finder, place_finder, sweep_finder}
use Rattle.scan.proofs.Opening.{open_stack}
use Rattle.scan.proofs.Scans.{keeps_stack, rows_stack}
use Rattle.scan.proofs.Seeking.{holds_weigh, lacks_weigh}
use Rattle.scan.proofs.Visiting.{next_exists}
use Rattle.scan.specs.Agreement.{Agrees, is_row}
use Rattle.scan.specs.Finding.{IsFinder, LacksNext, Seeks, holds}
use Rattle.page_table.specs.LeafChanges.{after_bury, after_place, after_sweep}
use Rattle.scan.specs.Scanning.{IsNext}
use Rattle.scan.specs.declared.stack.Sought.{Sought}
use Rattle.scan.specs.declared.stack.Sought.TheVariants.{Here, Further}
use Rattle.descent.specs.Finders.{FindsRow, GoesFurther, IsSeeking, OpenFinder, SeeksRow, holds_at, is_at_row}

-- the item to be visited next is the last of the stack
next_is : (stack : List StackItem) (item : StackItem) → IsNext stack item → slice_get (reverse stack) 0 ≡ Some item
next_is stack item next = ap (λ items. slice_get (reverse items) 0) next.is ∙ ap (λ items. slice_get items 0) (reverse-append next.rest (item ∷ []))

module _ {K : Type 0} where
  module _ (t : Tree K) (commits : List (Write K)) (k : OpenFinder K) where
    -- while its row lives, a finder has something left to visit
    pub not_at_end : status_of commits k.row ≡ Live → IsSeeking t commits k → k.stack ≡ [] → ⊥
    not_at_end live seeking e = finder_open k.row t (subst (λ stack. IsFinder k.row t stack) e (seeking.there live))

    -- a step that moves entries
    pub seeking_moved : (t' : Tree K) → KeepsRows t t' → IsSeeking t commits k → IsSeeking t' commits k
    seeking_moved t' keeps seeking = record {
      stack = keeps_stack t t' k.stack keeps seeking.stack;
      made = seeking.made;
      there = λ live. keeps_finder k.row t k.stack t' keeps (seeking.there live);
    }

  module _ (is_cover : K → K → Bool) (fan : ℕ) (t : Tree K) (sound : IsSound is_cover fan t) (k : OpenFinder K) (stack : IsStack t k.stack) where
    -- what a visit leaves to be visited exists
    pub sought_stack : (met : Sought) (new : OpenFinder K) → SeeksRow is_cover t k met new → IsStack t new.stack
    sought_stack (Here page) new seeks = subst (λ (n : OpenFinder K). IsStack t n.stack) (sym seeks.1) stack
    sought_stack (Further page) new seeks = subst (λ (n : OpenFinder K). IsStack t n.stack) (sym seeks.after) (further_stack is_cover t fan sound k.key k.row k.stack seeks.stack page stack seeks.further)

  module _ (is_cover : K → K → Bool) (fan : ℕ) (t : Tree K) (sound : IsSound is_cover fan t) (commits : List (Write K)) where
    -- the finder of a row begins at the root
    pub seeking_begun : Agrees t commits → (serial row : ℕ) (key : K) → HasKey commits row key
        → IsSeeking t commits (record { serial = serial; row = row; key = key; stack = record { page = 0; memo = t.counter } ∷ [] })
    seeking_begun agrees serial row key made = record {
      stack = open_stack is_cover t fan sound;
      made = made;
      there = λ live. begin_finder is_cover t fan sound commits agrees row live;
    }

    module _ (k : OpenFinder K) (seeking : IsSeeking t commits k) where
      -- a visit that goes on
      pub seeking_further : ((a b c : K) → is_cover a b ≡ true → is_cover b c ≡ true → is_cover a c ≡ true) → Agrees t commits
          → (page : ℕ) (new : OpenFinder K) → GoesFurther is_cover t k page new → IsSeeking t commits new
      seeking_further through agrees page new on = subst (λ n. IsSeeking t commits n) (sym on.after) (record {
        stack = further_stack is_cover t fan sound k.key k.row k.stack on.stack page seeking.stack on.further;
        made = seeking.made;
        there = λ live. further_finder is_cover t fan sound commits agrees k.row through k.key seeking.made.0 seeking.made.1 k.stack page on.stack on.further (seeking.there live);
      })

      -- a visit, whatever it met
      pub seeking_sought : ((a b c : K) → is_cover a b ≡ true → is_cover b c ≡ true → is_cover a c ≡ true) → Agrees t commits
          → (met : Sought) (new : OpenFinder K) → SeeksRow is_cover t k met new → IsSeeking t commits new
      seeking_sought through agrees (Here page) new seeks = subst (λ n. IsSeeking t commits n) (sym seeks.1) seeking
      seeking_sought through agrees (Further page) new seeks = seeking_further through agrees page new seeks

      -- behind a further commit its row is as it was made, and it lived before where it lives
      made_push : (write : Write K) → HasKey (commits ++ write ∷ []) k.row k.key
      made_push write = (seeking.made.0, row_push commits write k.row (record { row = k.row; key = k.key; tag = seeking.made.0 }) seeking.made.1)

      known : k.row ≤ length commits
      known = (row_found commits k.row (record { row = k.row; key = k.key; tag = seeking.made.0 }) seeking.made.1).2

      lived : (write : Write K) → status_of (commits ++ write ∷ []) k.row ≡ Live → status_of commits k.row ≡ Live
      lived write live = elim (live_pushed commits write k.row live) [
        | inl old ↦ old
        | inr new ↦ absurd (omega (arith, new.0, known))
      ]

      module _ (p : ℕ) (l : p < length t.pages) where
        -- an insert, its entry placed on a page
        pub seeking_placed : (key : K) (tag : ℕ) → IsSeeking (after_place t p (record { key = key; row = length commits + 1; tag = tag; died = None })) (commits ++ Insert key tag ∷ []) k
        seeking_placed key tag =
            let placed : Entry K = record { key = key; row = length commits + 1; tag = tag; died = None } in
            record {
              stack = rows_stack t p ((page_at t p).rows ++ placed ∷ []) k.stack seeking.stack;
              made = made_push (Insert key tag);
              there = λ live. place_finder k.row t k.stack (seeking.there (lived (Insert key tag) live)) is_cover fan sound p l placed (λ e. omega (arith, e, known));
            }

        -- a commit that ends a row, its entry marked on a page
        pub seeking_buried : (row : ℕ) (write : Write K) → IsSeeking (after_bury t p row (length commits + 1)) (commits ++ write ∷ []) k
        seeking_buried row write = record {
          stack = rows_stack t p (map (marked row (length commits + 1)) (page_at t p).rows) k.stack seeking.stack;
          made = made_push write;
          there = λ live. bury_finder k.row t k.stack (seeking.there (lived write live)) is_cover fan sound p l row (length commits + 1);
        }

        -- the entry of another row placed, and no commit
        pub seeking_beside : (entry : Entry K) → ((entry.row ≡ k.row) → ⊥) → IsSeeking (after_place t p entry) commits k
        seeking_beside entry other = record {
          stack = rows_stack t p ((page_at t p).rows ++ entry ∷ []) k.stack seeking.stack;
          made = seeking.made;
          there = λ live. place_finder k.row t k.stack (seeking.there live) is_cover fan sound p l entry other;
        }

        -- a sweep of a page up to any horizon
        pub seeking_swept : Agrees t commits → (horizon : ℕ) → IsSeeking (after_sweep t p horizon) commits k
        seeking_swept agrees horizon = record {
          stack = rows_stack t p (filter (is_needed horizon) (page_at t p).rows) k.stack seeking.stack;
          made = seeking.made;
          there = λ live. sweep_finder k.row t k.stack (seeking.there live) is_cover fan sound p l commits agrees live horizon;
        }

  weighs_held : (row : ℕ) (entries : List (Entry K)) → 1 ≤ weigh (is_row row) entries → holds row entries ≡ true
  weighs_held row entries weighs = by_test (holds row entries) refl
    where
      by_test : (b : Bool) → holds row entries ≡ b → b ≡ true
      by_test true h = refl
      by_test false h = absurd (omega (arith, lacks_weigh row entries h, weighs))

  weightless_lacks : (row : ℕ) (entries : List (Entry K)) → weigh (is_row row) entries ≡ 0 → holds row entries ≡ false
  weightless_lacks row entries none = by_test (holds row entries) refl
    where
      by_test : (b : Bool) → holds row entries ≡ b → b ≡ false
      by_test true h = absurd (omega (arith, holds_weigh row entries h, none))
      by_test false h = refl

  -- a visit of its stack is one of the finder
  pub seeks_row : (is_cover : K → K → Bool) (t : Tree K) (k : OpenFinder K) (met : Sought) (stack : List StackItem) → Seeks (λ bound. is_cover bound k.key) k.row t k.stack met stack → SeeksRow is_cover t k met (record k { stack = stack })
  seeks_row is_cover t k (Here page) stack finds = (
    record { memo = finds.memo; next = record { rest = finds.rest; is = finds.last }; there = weighs_held k.row (page_at t page).rows finds.there },
    ap (λ items. record k { stack = items }) finds.unchanged,
  )
  seeks_row is_cover t k (Further page) stack further = record { stack = stack; further = further; lacks = weightless_lacks k.row (page_at t page).rows further.lacks; after = refl }

  module _ (t : Tree K) (k : OpenFinder K) (page : ℕ) where
    -- a finder whose next page holds its row is at its row
    pub finds_at_row : FindsRow t k page → is_at_row t k ≡ true
    finds_at_row finds = ap (holds_at t k.row) (next_is k.stack (record { page = page; memo = finds.memo }) finds.next) ∙ finds.there

    -- one that goes on is not
    pub further_not_at_row : (is_cover : K → K → Bool) (new : OpenFinder K) → GoesFurther is_cover t k page new → is_at_row t k ≡ false
    further_not_at_row is_cover new on =
        ap (holds_at t k.row) (next_is k.stack (record { page = page; memo = on.further.memo }) (record { rest = on.further.goes_on.rest; is = on.further.goes_on.before })) ∙ on.lacks

    -- the page exists
    pub finds_page : IsStack t k.stack → FindsRow t k page → page < length t.pages
    finds_page stack finds = (next_exists t k.stack (record { page = page; memo = finds.memo }) stack finds.next).0

    -- the row weighs on it
    pub finds_weigh : FindsRow t k page → 1 ≤ weigh (is_row k.row) (page_at t page).rows
    finds_weigh finds = holds_weigh k.row (page_at t page).rows finds.there

    -- in a sound tree it is a leaf
    pub finds_leaf : (is_cover : K → K → Bool) (fan : ℕ) → IsSound is_cover fan t → IsStack t k.stack → FindsRow t k page → (page_at t page).level ≡ 0
    finds_leaf is_cover fan sound stack finds = by_level (page_at t page).level refl
      where
        by_level : (level : ℕ) → (page_at t page).level ≡ level → level ≡ 0
        by_level zero e = refl
        by_level (suc n) e =
            let none : (page_at t page).rows ≡ [] = (sound.shape page (finds_page stack finds)).inner (omega (arith, e)) in
            let weight : weigh (is_row k.row) (page_at t page).rows ≡ 0 = ap (weigh (is_row k.row)) none in
            absurd (omega (arith, weight, finds_weigh finds))

-- where the next page lacks the row, the finder isn't at it
pub lacks_next : {K : Type 0} (t : Tree K) (k : OpenFinder K) → LacksNext k.row t k.stack → is_at_row t k ≡ false
lacks_next {K} t k lacks = go (slice_get (reverse k.stack) 0) refl
  where
    go : (o : Option StackItem) → slice_get (reverse k.stack) 0 ≡ o → holds_at t k.row o ≡ false
    go None e = refl
    go (Some item) e = lacks item (record { rest = reverse (drop 1 (reverse k.stack)); is = first (reverse k.stack) e (reverse-reverse k.stack) })
      where
        first : (items : List StackItem) → slice_get items 0 ≡ Some item → reverse items ≡ k.stack → k.stack ≡ reverse (drop 1 items) ++ item ∷ []
        first [] h b = absurd (cc)
        first (x ∷ items) h b = let same : x ≡ item = cc in sym b ∙ reverse-cons x items ∙ ap (λ y. reverse items ++ y ∷ []) same

-- what holds in any case holds of a refusal
pub on_err : {X Y P : Type 0} (result : Result X Y) → P → OnErr result P
on_err (Ok x) p = tt
on_err (Err y) p = p
