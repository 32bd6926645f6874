-- What is under every page and memo after a split is what was, with the new page beside each p.
use Rattle.std.proofs.Common.{ℕ, ◌+◌, ◌<◌, ◌≡◌, List, [], ◌∷◌, length, All, refl, ap, ap₂, arith, sym, ◌∙◌, subst, cond, false, ltb, eqb, inl, inr}
use Rattle.std.proofs.lemmas.Bool.{lt-ltb, le-ltb, eq-eqb, ne_eqb}
use Rattle.key_class.specs.declared.sides.Side.{Side}
use Rattle.node.specs.Changes.{split_left, split_right}
use Rattle.node.specs.Pages.{Page, followed}
use Rattle.node.specs.Parts.{left_part, right_part}
use Rattle.node.specs.declared.branch.Branch.{Branch}
use Rattle.page_table.proofs.Following.{followed-not_owed}
use Rattle.page_table.proofs.PageLists.{is_or_not}
use Rattle.page_table.proofs.Under.{All-followed, rows_under-weigh, under_weigh, weight_at, weight_is, weight_unique}
use Rattle.page_table.proofs.Weights.{weigh-where, weigh_one}
use Rattle.page_table.specs.Trees.{Falls, IsRanked, Tree, page_at, pages_under, rows_under}
use Rattle.page_table.specs.Weights.{Same, weigh}
use Rattle.split.proofs.PartWeights.{All-left_part, All-right_part, weigh-parts}
use Rattle.split.proofs.Split.{split-length, split_pages, split_rank, split_ranked}
use Rattle.split.specs.Steps.{after_split}

-- the weight of p and the new page s together, at p
abbrev pub merged : ℕ → ℕ → (ℕ → ℕ) → ℕ → ℕ
merged p s h q = h q + cond (eqb q p) (h s) 0

pub merged-here : (p s : ℕ) (h : ℕ → ℕ) → merged p s h p ≡ h p + h s
merged-here p s h = ap (λ c. h p + cond c (h s) 0) (eq-eqb p p refl)

pub merged-other : (p s : ℕ) (h : ℕ → ℕ) (q : ℕ) → ((q ≡ p) → ⊥) → merged p s h q ≡ h q
merged-other p s h q n = omega (arith, ap (λ c. h q + cond c (h s) 0) (ne_eqb q p n))

-- w below s, else v
abbrev pub below_else : ℕ → ℕ → ℕ → ℕ → ℕ
below_else s q w v = cond (ltb q s) w v

pub below-is : (s q w v : ℕ) → q < s → below_else s q w v ≡ w
below-is s q w v h = ap (λ c. cond c w v) (lt-ltb q s h)

pub else-is : (s w v : ℕ) → below_else s s w v ≡ v
else-is s w v = ap (λ c. cond c w v) (le-ltb s s (omega arith))

module _ {K : Type 0} (union : K → K → K) (t : Tree K) (rank : ℕ → ℕ) (r : IsRanked t rank) (p : ℕ) (sides : List Side) (l : p < length t.pages) (free : (page_at t p).owed ≡ false) (h : ℕ → ℕ) where
  -- the old page, the new page's number and the old weights
  abbrev page : Page K
  page = page_at t p

  abbrev s : ℕ
  s = length t.pages

  abbrev left : Page K
  left = split_left union page sides s

  abbrev right : Page K
  right = split_right union page sides

  abbrev U : ℕ → ℕ → ℕ
  U q m = weigh (merged p s h) (pages_under t q m)

  abbrev new_weight : ℕ → ℕ
  new_weight m = h s + (weigh (λ b. U b.child t.counter) (right_part sides page.branches) + weigh (λ x. U x m) (followed page m))

  abbrev W : ℕ → ℕ → ℕ
  W q m = below_else s q (U q m) (new_weight m)

  W-branches : (q : ℕ) (bs : List (Branch K)) → All (λ b. Falls s rank q b.child) bs → weigh (λ b. W b.child t.counter) bs ≡ weigh (λ b. U b.child t.counter) bs
  W-branches q bs a = weigh-where (λ (b : Branch K). Falls s rank q b.child) (λ b. W b.child t.counter) (λ b. U b.child t.counter)
      (λ b w. below-is s b.child (U b.child t.counter) (new_weight t.counter) w.0) bs a

  W-links : (q m : ℕ) (xs : List ℕ) → All (λ x. Falls s rank q x) xs → weigh (λ x. W x m) xs ≡ weigh (λ x. U x m) xs
  W-links q m xs a = weigh-where (λ (x : ℕ). Falls s rank q x) (λ x. W x m) (λ x. U x m) (λ x w. below-is s x (U x m) (new_weight m) w.0) xs a

  here : (m : ℕ) → W p m ≡ weight_at t.counter h W p m left
  here m =
      let e1 : W p m ≡ U p m = below-is s p (U p m) (new_weight m) l in
      let e2 : U p m ≡ merged p s h p + (weigh (λ b. U b.child t.counter) page.branches + weigh (λ x. U x m) (followed page m)) = weight_is t rank r (merged p s h) p m l in
      let e3 : merged p s h p ≡ h p + h s = merged-here p s h in
      let e4 : weigh (λ b. W b.child t.counter) (left_part sides page.branches) ≡ weigh (λ b. U b.child t.counter) (left_part sides page.branches)
      = W-branches p _ (All-left_part (λ (b : Branch K). Falls s rank p b.child) sides page.branches ((r.links p l).down)) in
      let e5 : weigh (λ b. U b.child t.counter) (left_part sides page.branches) + weigh (λ b. U b.child t.counter) (right_part sides page.branches) ≡ weigh (λ b. U b.child t.counter) page.branches
      = weigh-parts (λ b. U b.child t.counter) sides page.branches in
      let e6 : weigh (λ x. W x m) (s ∷ []) ≡ new_weight m = weigh_one (λ x. W x m) s ∙ else-is s (U s m) (new_weight m) in
      omega (arith, e1, e2, e3, e4, e5, e6)

  last : (m : ℕ) → W s m ≡ weight_at t.counter h W s m right
  last m =
      let e1 : W s m ≡ new_weight m = else-is s (U s m) (new_weight m) in
      let e4 : weigh (λ b. W b.child t.counter) (right_part sides page.branches) ≡ weigh (λ b. U b.child t.counter) (right_part sides page.branches)
      = W-branches p _ (All-right_part (λ (b : Branch K). Falls s rank p b.child) sides page.branches ((r.links p l).down)) in
      let e5 : weigh (λ x. W x m) (followed page m) ≡ weigh (λ x. U x m) (followed page m) = W-links p m _ (All-followed (λ x. Falls s rank p x) page m ((r.links p l).along)) in
      let e6 : followed right m ≡ followed page m = sym (followed-not_owed page m free) in
      let e7 : weigh (λ x. W x m) (followed right m) ≡ weigh (λ x. W x m) (followed page m) = ap (weigh (λ x. W x m)) e6 in
      omega (arith, e1, e4, e5, e7)

  other : (q : ℕ) → q < s → ((q ≡ p) → ⊥) → (m : ℕ) → W q m ≡ weight_at t.counter h W q m (page_at t q)
  other q k n m =
      let e1 : W q m ≡ U q m = below-is s q (U q m) (new_weight m) k in
      let e2 : U q m ≡ merged p s h q + (weigh (λ b. U b.child t.counter) (page_at t q).branches + weigh (λ x. U x m) (followed (page_at t q) m)) = weight_is t rank r (merged p s h) q m k in
      let e3 : merged p s h q ≡ h q = merged-other p s h q n in
      let e4 : weigh (λ b. W b.child t.counter) (page_at t q).branches ≡ weigh (λ b. U b.child t.counter) (page_at t q).branches = W-branches q _ ((r.links q k).down) in
      let e5 : weigh (λ x. W x m) (followed (page_at t q) m) ≡ weigh (λ x. U x m) (followed (page_at t q) m) = W-links q m _ (All-followed (λ x. Falls s rank q x) (page_at t q) m ((r.links q k).along)) in
      omega (arith, e1, e2, e3, e4, e5)

  -- THE SPLIT, by pages
  pub split_under : (q m : ℕ) → q < length t.pages → weigh h (pages_under (after_split union t p sides) q m) ≡ weigh (merged p s h) (pages_under t q m)
  unfolding after_split
  split_under q m k =
      weight_unique (after_split union t p sides) (split_rank rank p s) (split_ranked union t rank p sides r l) h W (λ q m. Unit {0})
      (λ q m a b. λ i d c. tt)
      (λ q m a b. λ i d c. tt)
      (λ q m a b. split_pages union t p sides (λ q page. (m : ℕ) → W q m ≡ weight_at t.counter h W q m page) l here last other q (subst (λ n. q < n) (split-length union t p sides) a) m)
      q m (subst (λ n. q < n) (sym (split-length union t p sides)) (omega arith)) tt
      ∙ below-is s q (U q m) (new_weight m) k

  rows_left : (page_at (after_split union t p sides) p).rows ≡ left_part sides page.rows
  rows_left = split_pages union t p sides (λ q x. (q ≡ p) → x.rows ≡ left_part sides page.rows) l (λ e. refl) (λ e. absurd (omega arith)) (λ q k n e. absurd (n e)) p (omega arith) refl

  rows_right : (page_at (after_split union t p sides) s).rows ≡ right_part sides page.rows
  rows_right = split_pages union t p sides (λ q x. (q ≡ s) → x.rows ≡ right_part sides page.rows) l (λ e. absurd (omega arith)) (λ e. refl) (λ q k n e. absurd (omega arith)) s (omega arith) refl

  rows_other : (q : ℕ) → q < s → ((q ≡ p) → ⊥) → (page_at (after_split union t p sides) q).rows ≡ (page_at t q).rows
  rows_other q k n = split_pages union t p sides (λ q x. (q < s) → ((q ≡ p) → ⊥) → x.rows ≡ (page_at t q).rows) l (λ k n. absurd (n refl)) (λ k n. absurd (omega arith)) (λ q k n e f. refl) q (omega arith) k n

-- THE SPLIT, by rows
pub split_rows : {K : Type 0} (union : K → K → K) (t : Tree K) (rank : ℕ → ℕ) (r : IsRanked t rank) (p : ℕ) (sides : List Side) → p < length t.pages → (page_at t p).owed ≡ false →
    (q m : ℕ) → q < length t.pages → Same (rows_under (after_split union t p sides) q m) (rows_under t q m)
split_rows {K} union t rank r p sides l free q m k f =
    rows_under-weigh t' f q m
    ∙ split_under union t rank r p sides l free h q m k
    ∙ under_weigh t rank r (merged p (length t.pages) h) (λ x. weigh f (page_at t x).rows) each q m k
    ∙ sym (rows_under-weigh t f q m)
  where
    t' : Tree K
    t' = after_split union t p sides

    h : ℕ → ℕ
    h x = weigh f (page_at t' x).rows

    each : (x : ℕ) → x < length t.pages → merged p (length t.pages) h x ≡ weigh f (page_at t x).rows
    each x a = elim (is_or_not x p) [
      | inl e ↦ subst (λ y. merged p (length t.pages) h y ≡ weigh f (page_at t y).rows) (sym e)
          (merged-here p (length t.pages) h
          ∙ ap₂ (λ a b. a + b) (ap (weigh f) (rows_left union t rank r p sides l free h)) (ap (weigh f) (rows_right union t rank r p sides l free h))
          ∙ weigh-parts f sides (page_at t p).rows)
      | inr n ↦ merged-other p (length t.pages) h x n ∙ ap (weigh f) (rows_other union t rank r p sides l free h x a n)
    ]
