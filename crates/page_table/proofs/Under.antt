-- The equation of `pages_under`, the induction along links, and that the equation has one solution.
use Rattle.std.proofs.Common.{ℕ, zero, suc, ◌+◌, ◌<◌, ◌≡◌, List, [], ◌∷◌, ◌++◌, length, flat_map, option_to_list, All, ap, ap₂, arith, sym, ◌∙◌, subst, cond, Bool, true, false, ◌||◌, ltb}
use Rattle.std.proofs.lemmas.List.Elements.{All-weaker, All-nil, All-cons, All-append}
use Rattle.node.specs.Pages.{Page, followed}
use Rattle.node.specs.declared.branch.Branch.{Branch}
use Rattle.page_table.proofs.Weights.{All-flat_map, flat_map-each, weigh-append, weigh-each, weigh-flat_map, weigh-where}
use Rattle.page_table.specs.Keeping.{EachEntry}
use Rattle.page_table.specs.Trees.{Falls, IsRanked, Tree, page_at, pages_under, pages_within, rows_under}
use Rattle.page_table.specs.Weights.{weigh}
use Rattle.row_version.specs.Entries.{Entry}

-- what holds of the right link holds of it where it is followed
pub All-followed : {K : Type 0} (P : ℕ → Type 0) (page : Page K) (m : ℕ) → All P (option_to_list page.right) → All P (followed page m)
All-followed P page m h = go (page.owed || ltb m page.nsn)
  where
    go : (b : Bool) → All P (cond b (option_to_list page.right) [])
    go true = h
    go false = All-nil P

pub All-both : {X : Type 0} (P Q R : X → Type 0) → ((x : X) → P x → Q x → R x) → (xs : List X) → All P xs → All Q xs → All R xs
All-both P Q R f xs h k = λ i d l. f _ (h i d l) (k i d l)

pub within_same : {K : Type 0} (t : Tree K) (rank : ℕ → ℕ) → IsRanked t rank → (n k p m : ℕ) → p < length t.pages → rank p < n → rank p < k → pages_within n t p m ≡ pages_within k t p m
unfolding pages_within
within_same t rank r zero k p m h a b = absurd (omega arith)
within_same t rank r (suc n) zero p m h a b = absurd (omega arith)
within_same {K} t rank r (suc n) (suc k) p m h a b =
    ap₂ (λ xs ys. p ∷ (xs ++ ys))
    (flat_map-each _ _ (page_at t p).branches
    (All-weaker (λ (c : Branch K). Falls (length t.pages) rank p c.child) _
    (λ c (w : Falls (length t.pages) rank p c.child). within_same t rank r n k c.child t.counter w.0 (omega arith) (omega arith)) _ ((r.links p h).down)))
    (flat_map-each _ _ (followed (page_at t p) m)
    (All-weaker (λ (q : ℕ). Falls (length t.pages) rank p q) _
    (λ q (w : Falls (length t.pages) rank p q). within_same t rank r n k q m w.0 (omega arith) (omega arith)) _
    (All-followed (λ (q : ℕ). Falls (length t.pages) rank p q) (page_at t p) m ((r.links p h).along))))

-- THE EQUATION: p itself, what is under its branches with the counter for memo, what is under the right link where it is followed
pub pages_under_is : {K : Type 0} (t : Tree K) (rank : ℕ → ℕ) → IsRanked t rank → (p m : ℕ) → p < length t.pages →
    pages_under t p m ≡ p ∷ (flat_map (λ b. pages_under t b.child t.counter) (page_at t p).branches ++ flat_map (λ r. pages_under t r m) (followed (page_at t p) m))
unfolding pages_under pages_within
pages_under_is {K} t rank r p m h =
    within_same t rank r (length t.pages) (suc (length t.pages)) p m h (r.bounded p h) (omega (arith, r.bounded p h))

-- THE INDUCTION: a property that passes from a page's links to the page holds of each page and memo
pub under_induction : {K : Type 0} (t : Tree K) (rank : ℕ → ℕ) → IsRanked t rank → (P : ℕ → ℕ → Type 0) →
    ((p m : ℕ) → p < length t.pages → All (λ b. P b.child t.counter) (page_at t p).branches → All (λ r. P r m) (followed (page_at t p) m) → P p m) →
    (p m : ℕ) → p < length t.pages → P p m
under_induction {K} t rank r P step p m h = go (length t.pages) p m h (r.bounded p h)
  where
    go : (n p m : ℕ) → p < length t.pages → rank p < n → P p m
    go zero p m h l = absurd (omega arith)
    go (suc n) p m h l =
        step p m h
        (All-weaker (λ (c : Branch K). Falls (length t.pages) rank p c.child) _ (λ c (w : Falls (length t.pages) rank p c.child). go n c.child t.counter w.0 (omega arith)) _ ((r.links p h).down))
        (All-weaker (λ (q : ℕ). Falls (length t.pages) rank p q) _ (λ q (w : Falls (length t.pages) rank p q). go n q m w.0 (omega arith)) _ (All-followed (λ (q : ℕ). Falls (length t.pages) rank p q) (page_at t p) m ((r.links p h).along)))

-- one step of a weight of what is under (p, m): h weighs pages, W what is under the links
abbrev pub weight_at : {K : Type 0} → ℕ → (ℕ → ℕ) → (ℕ → ℕ → ℕ) → ℕ → ℕ → Page K → ℕ
weight_at counter h W p m page = h p + (weigh (λ b. W b.child counter) page.branches + weigh (λ r. W r m) (followed page m))

abbrev pub weight_step : {K : Type 0} → Tree K → (ℕ → ℕ) → (ℕ → ℕ → ℕ) → ℕ → ℕ → ℕ
weight_step t h W p m = weight_at t.counter h W p m (page_at t p)

pub weight_is : {K : Type 0} (t : Tree K) (rank : ℕ → ℕ) → IsRanked t rank → (h : ℕ → ℕ) (p m : ℕ) → p < length t.pages →
    weigh h (pages_under t p m) ≡ weight_step t h (λ q k. weigh h (pages_under t q k)) p m
weight_is t rank r h p m l =
    ap (weigh h) (pages_under_is t rank r p m l)
    ∙ ap (λ n. h p + n)
    (weigh-append h (flat_map (λ b. pages_under t b.child t.counter) (page_at t p).branches) (flat_map (λ r. pages_under t r m) (followed (page_at t p) m))
    ∙ ap₂ (λ a b. a + b) (weigh-flat_map h (λ b. pages_under t b.child t.counter) (page_at t p).branches) (weigh-flat_map h (λ r. pages_under t r m) (followed (page_at t p) m)))

-- THE ONE SOLUTION, on pages and memos with D, which passes along links
pub weight_unique : {K : Type 0} (t : Tree K) (rank : ℕ → ℕ) → IsRanked t rank → (h : ℕ → ℕ) (W : ℕ → ℕ → ℕ) (D : ℕ → ℕ → Type 0) →
    ((p m : ℕ) → p < length t.pages → D p m → All (λ b. D b.child t.counter) (page_at t p).branches) →
    ((p m : ℕ) → p < length t.pages → D p m → All (λ r. D r m) (followed (page_at t p) m)) →
    ((p m : ℕ) → p < length t.pages → D p m → W p m ≡ weight_step t h W p m) →
    (p m : ℕ) → p < length t.pages → D p m → weigh h (pages_under t p m) ≡ W p m
weight_unique {K} t rank r h W D down along solves =
    under_induction t rank r (λ p m. D p m → weigh h (pages_under t p m) ≡ W p m)
    (λ p m l below right d.
    weight_is t rank r h p m l
    ∙ ap (λ n. h p + n)
    (ap₂ (λ a b. a + b)
    (weigh-each _ _ _ (All-both (λ b. D b.child t.counter → weigh h (pages_under t b.child t.counter) ≡ W b.child t.counter) (λ b. D b.child t.counter) _ (λ b f x. f x) _ below (down p m l d)))
    (weigh-each _ _ _ (All-both (λ q. D q m → weigh h (pages_under t q m) ≡ W q m) (λ q. D q m) _ (λ q f x. f x) _ right (along p m l d))))
    ∙ sym (solves p m l d))

-- pages that are met exist
pub under_exist : {K : Type 0} (t : Tree K) (rank : ℕ → ℕ) → IsRanked t rank → (p m : ℕ) → p < length t.pages → All (λ x. x < length t.pages) (pages_under t p m)
under_exist {K} t rank r = under_induction t rank r (λ p m. All (λ x. x < length t.pages) (pages_under t p m))
    (λ p m l below right. subst (λ xs. All (λ x. x < length t.pages) xs) (sym (pages_under_is t rank r p m l))
    (All-cons (λ x. x < length t.pages) p _ l
    (All-append (λ x. x < length t.pages) _ _
    (All-flat_map (λ x. x < length t.pages) (λ (b : Branch K). pages_under t b.child t.counter) _ below)
    (All-flat_map (λ x. x < length t.pages) (λ q. pages_under t q m) _ right))))

-- weights that agree on the pages that exist
pub under_weigh : {K : Type 0} (t : Tree K) (rank : ℕ → ℕ) → IsRanked t rank → (g h : ℕ → ℕ) → ((x : ℕ) → x < length t.pages → g x ≡ h x) →
    (p m : ℕ) → p < length t.pages → weigh g (pages_under t p m) ≡ weigh h (pages_under t p m)
under_weigh t rank r g h e p m l = weigh-where (λ x. x < length t.pages) g h e (pages_under t p m) (under_exist t rank r p m l)

-- the rows' weight is the pages' weight, each page by its rows
pub rows_under-weigh : {K : Type 0} (t : Tree K) (f : Entry K → ℕ) (p m : ℕ) → weigh f (rows_under t p m) ≡ weigh (λ x. weigh f (page_at t x).rows) (pages_under t p m)
rows_under-weigh t f p m = weigh-flat_map f (λ x. (page_at t x).rows) (pages_under t p m)

-- each entry below a page agrees
pub entries_under : {K : Type 0} (t : Tree K) (rank : ℕ → ℕ) → IsRanked t rank → (P : Entry K → Type 0) → EachEntry P t → (p m : ℕ) → p < length t.pages → All P (rows_under t p m)
entries_under t rank r P each p m l = All-flat_map P (λ x. (page_at t x).rows) (pages_under t p m)
    (All-weaker (λ x. x < length t.pages) (λ x. All P (page_at t x).rows) (λ x k. each x k) _ (under_exist t rank r p m l))
