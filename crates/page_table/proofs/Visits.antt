-- A visit moves what was left under its item to the page's own rows and what is left under what it pushes.
use Rattle.std.proofs.Common.{ℕ, ◌+◌, ◌<◌, ◌≤◌, ◌≡◌, List, [], ◌∷◌, length, map, All, refl, ap, ap₂, arith, sym, ◌∙◌, cond, Bool, true, false, reverse, filter}
use Rattle.std.proofs.lemmas.List.Elements.{All-head, All-tail, All-weaker}
use mathlib.Core.Path.{fun_ext}
use mathlib.Core.List.{reverse-cons}
use Rattle.node.specs.Pages.{followed}
use Rattle.node.specs.declared.branch.Branch.{Branch}
use Rattle.page_table.proofs.Under.{rows_under-weigh, weight_is}
use Rattle.page_table.proofs.Weights.{weigh-append, weigh-flat_map, weigh-map}
use Rattle.page_table.specs.Stacks.{StackItem, pages_left, pushed, rows_left}
use Rattle.page_table.specs.Trees.{IsRanked, Tree, page_at, pages_under, rows_under}
use Rattle.page_table.specs.Weights.{weigh}
use Rattle.row_version.specs.Entries.{Entry}

pub weigh-reverse : {A : Type 0} (f : A → ℕ) (xs : List A) → weigh f (reverse xs) ≡ weigh f xs
weigh-reverse f [] = refl
weigh-reverse f (x ∷ xs) = ap (weigh f) (reverse-cons x xs) ∙ omega (arith, weigh-append f (reverse xs) (x ∷ []), weigh-reverse f xs)

-- the members that a filter leaves out weigh nothing
filter_step : {A : Type 0} (f : A → ℕ) (x : A) (ys : List A) (n : ℕ) (b : Bool) → weigh f ys ≡ n → (b ≡ false → f x ≡ 0) → weigh f (cond b (x ∷ ys) ys) ≡ f x + n
filter_step f x ys n true e z = omega (arith, e)
filter_step f x ys n false e z = omega (arith, e, z refl)

pub weigh-filter : {A : Type 0} (f : A → ℕ) (test : A → Bool) (xs : List A) → All (λ x. test x ≡ false → f x ≡ 0) xs → weigh f (filter test xs) ≡ weigh f xs
weigh-filter f test [] h = refl
weigh-filter {A} f test (x ∷ xs) h =
    filter_step f x (filter test xs) (weigh f xs) (test x) (weigh-filter f test xs (All-tail (λ (x : A). test x ≡ false → f x ≡ 0) x xs h)) (All-head (λ (x : A). test x ≡ false → f x ≡ 0) x xs h)

filter_step_le : {A : Type 0} (f : A → ℕ) (x : A) (ys : List A) (n : ℕ) (b : Bool) → weigh f ys ≤ n → weigh f (cond b (x ∷ ys) ys) ≤ f x + n
filter_step_le f x ys n true e = omega (arith, e)
filter_step_le f x ys n false e = omega (arith, e)

pub weigh-filter_le : {A : Type 0} (f : A → ℕ) (test : A → Bool) (xs : List A) → weigh f (filter test xs) ≤ weigh f xs
weigh-filter_le f test [] = omega arith
weigh-filter_le {A} f test (x ∷ xs) = filter_step_le f x (filter test xs) (weigh f xs) (test x) (weigh-filter_le f test xs)

pub weigh-ones : {A : Type 0} (xs : List A) → weigh (λ x. 1) xs ≡ length xs
weigh-ones [] = refl
weigh-ones (x ∷ xs) = omega (arith, weigh-ones xs)

module _ {K : Type 0} (t : Tree K) (rank : ℕ → ℕ) (r : IsRanked t rank) (wanted : Branch K → Bool) (h : ℕ → ℕ) (p m : ℕ) (l : p < length t.pages) where
  abbrev U : ℕ → ℕ → ℕ
  U q k = weigh h (pages_under t q k)

  pushed-weigh : weigh (λ i. U i.page i.memo) (pushed t wanted p m) ≡ weigh (λ x. U x m) (followed (page_at t p) m) + weigh (λ b. U b.child t.counter) (filter wanted (page_at t p).branches)
  pushed-weigh =
      weigh-append (λ (i : StackItem). U i.page i.memo) (map (λ r. record { page = r; memo = m }) (followed (page_at t p) m)) (reverse (map (λ b. record { page = b.child; memo = t.counter }) (filter wanted (page_at t p).branches)))
      ∙ ap₂ (λ a b. a + b)
      (weigh-map (λ (i : StackItem). U i.page i.memo) (λ r. record { page = r; memo = m }) (followed (page_at t p) m))
      (weigh-reverse (λ (i : StackItem). U i.page i.memo) (map (λ b. record { page = b.child; memo = t.counter }) (filter wanted (page_at t p).branches))
      ∙ weigh-map (λ (i : StackItem). U i.page i.memo) (λ b. record { page = b.child; memo = t.counter }) (filter wanted (page_at t p).branches))

  -- where what is under unwanted children weighs nothing, nothing is lost
  pub visit_under : All (λ b. wanted b ≡ false → U b.child t.counter ≡ 0) (page_at t p).branches → U p m ≡ h p + weigh (λ i. U i.page i.memo) (pushed t wanted p m)
  visit_under none =
      let e1 : U p m ≡ h p + (weigh (λ b. U b.child t.counter) (page_at t p).branches + weigh (λ x. U x m) (followed (page_at t p) m)) = weight_is t rank r h p m l in
      let e2 : weigh (λ b. U b.child t.counter) (filter wanted (page_at t p).branches) ≡ weigh (λ b. U b.child t.counter) (page_at t p).branches = weigh-filter (λ (b : Branch K). U b.child t.counter) wanted (page_at t p).branches none in
      omega (arith, e1, e2, pushed-weigh)

  -- in any case not more is left
  pub visit_falls : h p + weigh (λ i. U i.page i.memo) (pushed t wanted p m) ≤ U p m
  visit_falls =
      let e1 : U p m ≡ h p + (weigh (λ b. U b.child t.counter) (page_at t p).branches + weigh (λ x. U x m) (followed (page_at t p) m)) = weight_is t rank r h p m l in
      let e2 : weigh (λ b. U b.child t.counter) (filter wanted (page_at t p).branches) ≤ weigh (λ b. U b.child t.counter) (page_at t p).branches = weigh-filter_le (λ (b : Branch K). U b.child t.counter) wanted (page_at t p).branches in
      omega (arith, e1, e2, pushed-weigh)

module _ {K : Type 0} (t : Tree K) (rank : ℕ → ℕ) (r : IsRanked t rank) (wanted : Branch K → Bool) (p m : ℕ) (l : p < length t.pages) where
  -- A VISIT, by rows of a kind (f is 1 on the entries of the kind that a cursor wants, else 0)
  pub visit_rows : (f : Entry K → ℕ) → All (λ b. wanted b ≡ false → weigh f (rows_under t b.child t.counter) ≡ 0) (page_at t p).branches →
      weigh f (rows_under t p m) ≡ weigh f (page_at t p).rows + weigh f (rows_left t (pushed t wanted p m))
  visit_rows f none =
      rows_under-weigh t f p m
      ∙ visit_under t rank r wanted h p m l (All-weaker (λ (b : Branch K). wanted b ≡ false → weigh f (rows_under t b.child t.counter) ≡ 0) (λ (b : Branch K). wanted b ≡ false → weigh h (pages_under t b.child t.counter) ≡ 0)
      (λ b n e. sym (rows_under-weigh t f b.child t.counter) ∙ n e) _ none)
      ∙ ap (λ n. h p + n)
      (sym (weigh-flat_map f (λ (i : StackItem). rows_under t i.page i.memo) (pushed t wanted p m)
      ∙ ap (λ g. weigh g (pushed t wanted p m)) (fun_ext (λ (i : StackItem). rows_under-weigh t f i.page i.memo))))
    where
      h : ℕ → ℕ
      h x = weigh f (page_at t x).rows

  -- A VISIT lowers the pages that are left, by one at least
  pub visit_pages : length (pages_left t (pushed t wanted p m)) + 1 ≤ length (pages_under t p m)
  visit_pages =
      let e1 : 1 + weigh (λ i. weigh (λ x. 1) (pages_under t i.page i.memo)) (pushed t wanted p m) ≤ weigh (λ x. 1) (pages_under t p m) = visit_falls t rank r wanted (λ x. 1) p m l in
      let e2 : weigh (λ x. 1) (pages_left t (pushed t wanted p m)) ≡ weigh (λ i. weigh (λ x. 1) (pages_under t i.page i.memo)) (pushed t wanted p m) = weigh-flat_map (λ (x : ℕ). 1) (λ (i : StackItem). pages_under t i.page i.memo) (pushed t wanted p m) in
      omega (arith, e1, e2, weigh-ones (pages_left t (pushed t wanted p m)), weigh-ones (pages_under t p m))
