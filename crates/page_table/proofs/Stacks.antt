-- What is left under a stack through the steps, a visit and a sweep.
use Rattle.std.proofs.Common.{ℕ, ◌+◌, ◌<◌, ◌≤◌, ◌≡◌, List, [], ◌∷◌, ◌++◌, length, filter, All, ap, arith, sym, ◌∙◌, Bool, false, inl, inr}
use Rattle.std.proofs.lemmas.List.Elements.{All-weaker}
use Rattle.std.proofs.Common.{length-append}
use Rattle.std.proofs.lemmas.List.Elements.{All-append, All-map, All-filter}
use Rattle.node.specs.declared.branch.Branch.{Branch}
use Rattle.page_table.proofs.Lists.{All-reverse}
use Rattle.page_table.proofs.PageLists.{is_or_not}
use Rattle.page_table.proofs.RowChanges.{new_weight, rows_at, rows_kept, rows_off}
use Rattle.page_table.proofs.Under.{All-followed, rows_under-weigh, under_exist}
use Rattle.page_table.proofs.Visits.{visit_pages, weigh-filter, weigh-filter_le}
use Rattle.page_table.proofs.Weights.{weigh-append, weigh-flat_map, weigh-less, weigh-where}
use Rattle.page_table.specs.Stacks.{IsStack, StackItem, pages_left, pushed, rows_left}
use Rattle.page_table.specs.Trees.{Falls, IsRanked, Tree, after_rows, page_at, pages_under, rows_under}
use Rattle.page_table.specs.Weights.{weigh}
use Rattle.row_version.specs.Entries.{Entry}

-- a step that keeps the rows under every (page, memo) keeps what is left under a stack
pub stack_kept : {K : Type 0} (t t' : Tree K) (f : Entry K → ℕ) → ((q m : ℕ) → q < length t.pages → m ≤ t.counter → weigh f (rows_under t' q m) ≡ weigh f (rows_under t q m)) →
    (items : List StackItem) → IsStack t items → weigh f (rows_left t' items) ≡ weigh f (rows_left t items)
stack_kept t t' f kept items s =
    weigh-flat_map f (λ (i : StackItem). rows_under t' i.page i.memo) items
    ∙ weigh-where (λ (i : StackItem). (i.page < length t.pages) × (i.memo ≤ t.counter)) (λ i. weigh f (rows_under t' i.page i.memo)) (λ i. weigh f (rows_under t i.page i.memo)) (λ i w. kept i.page i.memo w.0 w.1) items s
    ∙ sym (weigh-flat_map f (λ (i : StackItem). rows_under t i.page i.memo) items)

module _ {K : Type 0} (t : Tree K) (rank : ℕ → ℕ) (r : IsRanked t rank) (p : ℕ) (l : p < length t.pages) (keep : Entry K → Bool) where
  abbrev swept : Tree K
  swept = after_rows t p (filter keep (page_at t p).rows)

  -- A SWEEP loses nothing that weighs, and adds nothing
  pub sweep_kept : (f : Entry K → ℕ) → All (λ e. keep e ≡ false → f e ≡ 0) (page_at t p).rows → (q m : ℕ) → q < length t.pages → weigh f (rows_under swept q m) ≡ weigh f (rows_under t q m)
  sweep_kept f none = rows_kept t rank r p l (filter keep (page_at t p).rows) f (weigh-filter f keep (page_at t p).rows none)

  pub sweep_less : (f : Entry K → ℕ) → (q m : ℕ) → q < length t.pages → weigh f (rows_under swept q m) ≤ weigh f (rows_under t q m)
  sweep_less f q m k =
      omega (
        arith,
        new_weight t rank r p l (filter keep (page_at t p).rows) f q m,
        rows_under-weigh t f q m,
        weigh-less (λ x. x < length t.pages) (λ x. weigh f (page_at swept x).rows) (λ x. weigh f (page_at t x).rows) each (pages_under t q m) (under_exist t rank r q m k),
      )
    where
      each : (x : ℕ) → x < length t.pages → weigh f (page_at swept x).rows ≤ weigh f (page_at t x).rows
      each x a = elim (is_or_not x p) [
        | inl d ↦ omega (arith, ap (λ y. weigh f (page_at swept y).rows) d, ap (weigh f) (rows_at t rank r p l (filter keep (page_at t p).rows)), weigh-filter_le f keep (page_at t p).rows, ap (λ y. weigh f (page_at t y).rows) d)
        | inr d ↦ omega (arith, ap (weigh f) (rows_off t rank r p l (filter keep (page_at t p).rows) x d))
      ]

pub left_append : {K : Type 0} (t : Tree K) (f : Entry K → ℕ) (xs ys : List StackItem) → weigh f (rows_left t (xs ++ ys)) ≡ weigh f (rows_left t xs) + weigh f (rows_left t ys)
left_append t f [] ys = omega arith
left_append t f (x ∷ xs) ys =
    let a : weigh f (rows_left t (x ∷ (xs ++ ys))) ≡ weigh f (rows_under t x.page x.memo) + weigh f (rows_left t (xs ++ ys)) = weigh-append f (rows_under t x.page x.memo) (rows_left t (xs ++ ys)) in
    let b : weigh f (rows_left t (x ∷ xs)) ≡ weigh f (rows_under t x.page x.memo) + weigh f (rows_left t xs) = weigh-append f (rows_under t x.page x.memo) (rows_left t xs) in
    omega (arith, a, b, left_append t f xs ys)

pub left_one : {K : Type 0} (t : Tree K) (f : Entry K → ℕ) (x : StackItem) → weigh f (rows_left t (x ∷ [])) ≡ weigh f (rows_under t x.page x.memo)
left_one t f x = let a : weigh f (rows_left t (x ∷ [])) ≡ weigh f (rows_under t x.page x.memo) + 0 = weigh-append f (rows_under t x.page x.memo) [] in omega (arith, a)

-- a stack stays one where pages and counter do not shrink
pub stack_stays : {K : Type 0} (t t' : Tree K) → length t.pages ≤ length t'.pages → t.counter ≤ t'.counter → (stack : List StackItem) → IsStack t stack → IsStack t' stack
stack_stays t t' n c stack h = All-weaker (λ (i : StackItem). (i.page < length t.pages) × (i.memo ≤ t.counter)) (λ (i : StackItem). (i.page < length t'.pages) × (i.memo ≤ t'.counter)) (λ i w. (omega (arith, w.0), omega (arith, w.1))) stack h

-- what a visit pushes is a stack
pub pushed_stack : {K : Type 0} (t : Tree K) (rank : ℕ → ℕ) → IsRanked t rank → (wanted : Branch K → Bool) (p m : ℕ) → p < length t.pages → m ≤ t.counter → IsStack t (pushed t wanted p m)
pushed_stack {K} t rank r wanted p m l k =
    All-append (λ (i : StackItem). (i.page < length t.pages) × (i.memo ≤ t.counter)) _ _
    (All-map (λ (i : StackItem). (i.page < length t.pages) × (i.memo ≤ t.counter)) (λ q. record { page = q; memo = m }) _
    (All-weaker (λ (q : ℕ). Falls (length t.pages) rank p q) (λ (q : ℕ). (q < length t.pages) × (m ≤ t.counter)) (λ q f. (f.0, k)) _ (All-followed (λ (q : ℕ). Falls (length t.pages) rank p q) (page_at t p) m ((r.links p l).along))))
    (All-reverse (λ (i : StackItem). (i.page < length t.pages) × (i.memo ≤ t.counter)) _
    (All-map (λ (i : StackItem). (i.page < length t.pages) × (i.memo ≤ t.counter)) (λ (b : Branch K). record { page = b.child; memo = t.counter }) _
    (All-filter wanted (λ (b : Branch K). (b.child < length t.pages) × (t.counter ≤ t.counter)) _
    (All-weaker (λ (b : Branch K). Falls (length t.pages) rank p b.child) (λ (b : Branch K). (b.child < length t.pages) × (t.counter ≤ t.counter)) (λ b f. (f.0, omega arith)) _ ((r.links p l).down)))))

pub pages_append : {K : Type 0} (t : Tree K) (xs ys : List StackItem) → length (pages_left t (xs ++ ys)) ≡ length (pages_left t xs) + length (pages_left t ys)
pages_append t [] ys = omega arith
pages_append t (x ∷ xs) ys =
    let a : length (pages_left t (x ∷ (xs ++ ys))) ≡ length (pages_under t x.page x.memo) + length (pages_left t (xs ++ ys)) = length-append (pages_under t x.page x.memo) (pages_left t (xs ++ ys)) in
    let b : length (pages_left t (x ∷ xs)) ≡ length (pages_under t x.page x.memo) + length (pages_left t xs) = length-append (pages_under t x.page x.memo) (pages_left t xs) in
    omega (arith, a, b, pages_append t xs ys)

pub visit_work : {K : Type 0} (t : Tree K) (rank : ℕ → ℕ) → IsRanked t rank → (wanted : Branch K → Bool) (rest : List StackItem) (i : StackItem) → i.page < length t.pages →
    length (pages_left t (rest ++ pushed t wanted i.page i.memo)) + 1 ≤ length (pages_left t (rest ++ i ∷ []))
visit_work t rank r wanted rest i l =
    let a : length (pages_left t (i ∷ [])) ≡ length (pages_under t i.page i.memo) + 0 = length-append (pages_under t i.page i.memo) [] in
    omega (arith, a, pages_append t rest (i ∷ []), pages_append t rest (pushed t wanted i.page i.memo), visit_pages t rank r wanted i.page i.memo l)
