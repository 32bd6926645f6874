-- A growth of the root keeps what is under every page and memo.
use Rattle.std.proofs.Common.{ℕ, suc, ◌+◌, ◌<◌, ◌≡◌, List, [], ◌++◌, length, option_to_list, All, refl, ap, ap₂, arith, sym, ◌∙◌, subst, cond, false, ◌||◌, ltb, eqb, inl, inr, Some, None, Option, add-zero}
use Rattle.std.proofs.lemmas.Bool.{lt-ltb, le-ltb, eq-eqb, ne_eqb}
use Rattle.std.proofs.lemmas.List.Elements.{All-weaker, All-nil, All-cons, All-append}
use Rattle.key_class.specs.declared.sides.Side.{Side}
use Rattle.node.specs.Changes.{branch_to, grown_left, grown_right, grown_root}
use Rattle.node.specs.Pages.{Page, followed}
use Rattle.node.specs.Parts.{left_part, right_part}
use Rattle.node.specs.declared.branch.Branch.{Branch}
use Rattle.page_table.proofs.Following.{followed-none}
use Rattle.page_table.proofs.PageLists.{added-length, added_pages, below_or_last, replaced-length, replaced_pages}
use Rattle.page_table.proofs.Under.{All-followed, weight_at, weight_is, weight_unique}
use Rattle.page_table.proofs.Weights.{weigh-append, weigh-where, weigh_one}
use Rattle.page_table.specs.Trees.{Falls, IsRanked, LinksFall, Tree, added, page_at, pages_under}
use Rattle.page_table.specs.Weights.{weigh}
use Rattle.split.proofs.PartWeights.{All-left_part, All-right_part, weigh-parts}
use Rattle.split.proofs.Split.{lift, lift-above, lift-below, lift-bound, lift-falls}
use Rattle.split.specs.Steps.{CanGrow, after_grow}

pub grow-length : {K : Type 0} (union : K → K → K) (t : Tree K) (sides : List Side) → length (after_grow union t sides).pages ≡ suc (suc (length t.pages))
unfolding after_grow
grow-length {K} union t sides =
    let a : Page K = grown_left union (page_at t 0) sides (suc (length t.pages)) in
    let b : Page K = grown_right union (page_at t 0) sides in
    replaced-length (added (added t a) b) 0 (grown_root (page_at t 0) (length t.pages) a.cover (suc (length t.pages)) b.cover)
    ∙ added-length (added t a) b ∙ ap suc (added-length t a)

pub grow_pages : {K : Type 0} (union : K → K → K) (t : Tree K) (sides : List Side) (P : ℕ → Page K → Type 0) →
    P 0 (grown_root (page_at t 0) (length t.pages) (grown_left union (page_at t 0) sides (suc (length t.pages))).cover (suc (length t.pages)) (grown_right union (page_at t 0) sides).cover) →
    P (length t.pages) (grown_left union (page_at t 0) sides (suc (length t.pages))) → P (suc (length t.pages)) (grown_right union (page_at t 0) sides) →
    ((q : ℕ) → q < length t.pages → ((q ≡ 0) → ⊥) → P q (page_at t q)) →
    (q : ℕ) → q < suc (suc (length t.pages)) → P q (page_at (after_grow union t sides) q)
unfolding after_grow
grow_pages {K} union t sides P at_root at_a at_b other q l =
    let n : ℕ = length t.pages in
    let a : Page K = grown_left union (page_at t 0) sides (suc n) in
    let b : Page K = grown_right union (page_at t 0) sides in
    let t1 : Tree K = added t a in
    let t2 : Tree K = added t1 b in
    let n1 : length t1.pages ≡ suc n = added-length t a in
    let n2 : length t2.pages ≡ suc (suc n) = added-length t1 b ∙ ap suc n1 in
    replaced_pages t2 0 (grown_root (page_at t 0) n a.cover (suc n) b.cover) P (omega (arith, n2)) at_root
    (λ q l nz. added_pages t1 b (λ x page. ((x ≡ 0) → ⊥) → P x page) (λ f. subst (λ n. P n b) (sym n1) at_b)
    (λ q l f. added_pages t a (λ x page. ((x ≡ 0) → ⊥) → P x page) (λ f. at_a) (λ q l f. other q l f) q l f)
    q l nz)
    q (subst (λ n. q < n) (sym n2) l)

-- the rank after a growth: a and b take the places below the root
abbrev pub grow_rank : (ℕ → ℕ) → ℕ → ℕ → ℕ
grow_rank rank n q = cond (ltb q n) (lift (rank 0) (lift (rank 0) (rank q))) (cond (eqb q n) (suc (rank 0)) (rank 0))

pub grow_rank-old : (rank : ℕ → ℕ) (n q : ℕ) → q < n → grow_rank rank n q ≡ lift (rank 0) (lift (rank 0) (rank q))
grow_rank-old rank n q l = ap (λ c. cond c (lift (rank 0) (lift (rank 0) (rank q))) (cond (eqb q n) (suc (rank 0)) (rank 0))) (lt-ltb q n l)

pub grow_rank-a : (rank : ℕ → ℕ) (n : ℕ) → grow_rank rank n n ≡ suc (rank 0)
grow_rank-a rank n = ap₂ (λ c d. cond c (lift (rank 0) (lift (rank 0) (rank n))) (cond d (suc (rank 0)) (rank 0))) (le-ltb n n (omega arith)) (eq-eqb n n refl)

pub grow_rank-b : (rank : ℕ → ℕ) (n : ℕ) → grow_rank rank n (suc n) ≡ rank 0
grow_rank-b rank n = ap₂ (λ c d. cond c (lift (rank 0) (lift (rank 0) (rank (suc n)))) (cond d (suc (rank 0)) (rank 0))) (le-ltb (suc n) n (omega arith)) (ne_eqb (suc n) n (λ e. absurd (omega arith)))

pub grow_rank-below : (rank : ℕ → ℕ) (n q : ℕ) → q < n → rank q < rank 0 → grow_rank rank n q ≡ rank q
grow_rank-below rank n q l f = grow_rank-old rank n q l ∙ ap (lift (rank 0)) (lift-below (rank 0) (rank q) f) ∙ lift-below (rank 0) (rank q) f

pub grow_rank-root : (rank : ℕ → ℕ) (n : ℕ) → 0 < n → grow_rank rank n 0 ≡ suc (suc (rank 0))
grow_rank-root rank n l = grow_rank-old rank n 0 l ∙ ap (lift (rank 0)) (lift-above (rank 0) (rank 0) (omega arith)) ∙ lift-above (rank 0) (suc (rank 0)) (omega arith)

pub grow-falls : (rank : ℕ → ℕ) (n q x : ℕ) → q < n → Falls n rank q x → Falls (suc (suc n)) (grow_rank rank n) q x
grow-falls rank n q x l w =
    (omega arith, omega (arith, grow_rank-old rank n q l, grow_rank-old rank n x w.0, lift-falls (rank 0) _ _ (lift-falls (rank 0) (rank x) (rank q) w.1)))

-- n is the number of pages before, of a tree whose root is page
abbrev NewBranches : {K : Type 0} → (ℕ → ℕ) → ℕ → List (Branch K) → Type 0
NewBranches rank n bs = All (λ b. Falls (suc (suc n)) (grow_rank rank n) 0 b.child) bs

pub grow_ranked : {K : Type 0} (union : K → K → K) (t : Tree K) (rank : ℕ → ℕ) (sides : List Side) → IsRanked t rank → CanGrow union t sides →
    IsRanked (after_grow union t sides) (grow_rank rank (length t.pages))
grow_ranked {K} union t rank sides r can = record {
  bounded = λ q h. subst (λ m. grow_rank rank n q < m) (sym (grow-length union t sides)) (elim (below_or_last q (suc n) (old q h)) [
    | inl k ↦ elim (below_or_last q n k) [
      | inl k ↦ omega (arith, grow_rank-old rank n q k, lift-bound (rank 0) (rank q), lift-bound (rank 0) (lift (rank 0) (rank q)), r.bounded q k)
      | inr e ↦ subst (λ x. grow_rank rank n x < suc (suc n)) (sym e) (omega (arith, grow_rank-a rank n, r.bounded 0 can.root_exists))
    ]
    | inr e ↦ subst (λ x. grow_rank rank n x < suc (suc n)) (sym e) (omega (arith, grow_rank-b rank n, r.bounded 0 can.root_exists))
  ]);
  links = λ q h. subst (λ m. LinksFall m (grow_rank rank n) q (page_at (after_grow union t sides) q)) (sym (grow-length union t sides))
      (grow_pages union t sides (λ x page. LinksFall (suc (suc n)) (grow_rank rank n) x page)
      (record {
        down = All-append (λ (b : Branch K). Falls (suc (suc n)) (grow_rank rank n) 0 b.child) (branch_to n _) (branch_to (suc n) _) (new_a _) (new_b _);
        along = subst (λ o. All (λ x. Falls (suc (suc n)) (grow_rank rank n) 0 x) (option_to_list o)) (sym can.no_right) (All-nil _);
      })
      (record {
        down = All-left_part (λ (b : Branch K). Falls (suc (suc n)) (grow_rank rank n) n b.child) sides (page_at t 0).branches
            (All-weaker (λ (b : Branch K). Falls n rank 0 b.child) (λ (b : Branch K). Falls (suc (suc n)) (grow_rank rank n) n b.child) (λ b w. (omega arith, omega (arith, grow_rank-a rank n, grow_rank-below rank n b.child w.0 w.1, w.1))) _ ((r.links 0 can.root_exists).down));
        along = All-cons (λ x. Falls (suc (suc n)) (grow_rank rank n) n x) (suc n) [] (omega arith, omega (arith, grow_rank-a rank n, grow_rank-b rank n)) (All-nil _);
      })
      (record {
        down = All-right_part (λ (b : Branch K). Falls (suc (suc n)) (grow_rank rank n) (suc n) b.child) sides (page_at t 0).branches
            (All-weaker (λ (b : Branch K). Falls n rank 0 b.child) (λ (b : Branch K). Falls (suc (suc n)) (grow_rank rank n) (suc n) b.child) (λ b w. (omega arith, omega (arith, grow_rank-b rank n, grow_rank-below rank n b.child w.0 w.1, w.1))) _ ((r.links 0 can.root_exists).down));
        along = All-nil _;
      })
      (λ x k z. record {
        down = All-weaker (λ (b : Branch K). Falls n rank x b.child) _ (λ b w. grow-falls rank n x b.child k w) _ ((r.links x k).down);
        along = All-weaker (λ y. Falls n rank x y) _ (λ y w. grow-falls rank n x y k w) _ ((r.links x k).along);
      })
      q (old q h));
}
  where
    n : ℕ
    n = length t.pages

    old : (q : ℕ) → q < length (after_grow union t sides).pages → q < suc (suc (length t.pages))
    old q h = subst (λ n. q < n) (grow-length union t sides) h

    new_a : (o : Option K) → NewBranches rank n (branch_to n o)
    new_a None = All-nil _
    new_a (Some k) = All-cons (λ (b : Branch K). Falls (suc (suc n)) (grow_rank rank n) 0 b.child) (record { key = k; child = n }) []
        (omega arith, omega (arith, grow_rank-a rank n, grow_rank-root rank n can.root_exists)) (All-nil _)

    new_b : (o : Option K) → NewBranches rank n (branch_to (suc n) o)
    new_b None = All-nil _
    new_b (Some k) = All-cons (λ (b : Branch K). Falls (suc (suc n)) (grow_rank rank n) 0 b.child) (record { key = k; child = suc n }) []
        (omega arith, omega (arith, grow_rank-b rank n, grow_rank-root rank n can.root_exists)) (All-nil _)

module _ {K : Type 0} (union : K → K → K) (t : Tree K) (rank : ℕ → ℕ) (r : IsRanked t rank) (sides : List Side) (can : CanGrow union t sides) (h : ℕ → ℕ) where
  abbrev n : ℕ
  n = length t.pages

  abbrev root : Page K
  root = page_at t 0

  abbrev a : Page K
  a = grown_left union root sides (suc n)

  abbrev b : Page K
  b = grown_right union root sides

  -- the root's weight is its own and that of both new pages
  abbrev pub grown : ℕ → ℕ
  grown q = h q + cond (eqb q 0) (h n + h (suc n)) 0

  abbrev U : ℕ → ℕ → ℕ
  U q m = weigh grown (pages_under t q m)

  abbrev weight_a : ℕ
  weight_a = h n + weigh (λ b. U b.child t.counter) (left_part sides root.branches)

  abbrev weight_b : ℕ
  weight_b = h (suc n) + weigh (λ b. U b.child t.counter) (right_part sides root.branches)

  abbrev W : ℕ → ℕ → ℕ
  W q m = cond (ltb q n) (U q m) (cond (eqb q n) weight_a weight_b)

  W-old : (q m : ℕ) → q < n → W q m ≡ U q m
  W-old q m l = ap (λ c. cond c (U q m) (cond (eqb q n) weight_a weight_b)) (lt-ltb q n l)

  W-a : (m : ℕ) → W n m ≡ weight_a
  W-a m = ap₂ (λ c d. cond c (U n m) (cond d weight_a weight_b)) (le-ltb n n (omega arith)) (eq-eqb n n refl)

  W-b : (m : ℕ) → W (suc n) m ≡ weight_b
  W-b m = ap₂ (λ c d. cond c (U (suc n) m) (cond d weight_a weight_b)) (le-ltb (suc n) n (omega arith)) (ne_eqb (suc n) n (λ e. absurd (omega arith)))

  old_branches : (q : ℕ) (bs : List (Branch K)) → All (λ b. Falls n rank q b.child) bs → weigh (λ b. W b.child t.counter) bs ≡ weigh (λ b. U b.child t.counter) bs
  old_branches q bs f = weigh-where (λ (b : Branch K). Falls n rank q b.child) (λ b. W b.child t.counter) (λ b. U b.child t.counter) (λ b w. W-old b.child t.counter w.0) bs f

  old_links : (q m : ℕ) (xs : List ℕ) → All (λ x. Falls n rank q x) xs → weigh (λ x. W x m) xs ≡ weigh (λ x. U x m) xs
  old_links q m xs f = weigh-where (λ x. Falls n rank q x) (λ x. W x m) (λ x. U x m) (λ x w. W-old x m w.0) xs f

  branch_weight : (q : ℕ) (o : Option K) → (k : K) × (o ≡ Some k) → weigh (λ b. W b.child t.counter) (branch_to q o) ≡ W q t.counter
  branch_weight q None w = cc w.1
  branch_weight q (Some k) w = weigh_one (λ x. W x t.counter) q

  at_root : (m : ℕ) → W 0 m ≡ weight_at t.counter h W 0 m (grown_root root n a.cover (suc n) b.cover)
  at_root m =
      let e1 : W 0 m ≡ U 0 m = W-old 0 m can.root_exists in
      let e2 : U 0 m ≡ grown 0 + (weigh (λ b. U b.child t.counter) root.branches + weigh (λ x. U x m) (followed root m)) = weight_is t rank r grown 0 m can.root_exists in
      let e3 : weigh (λ x. U x m) (followed root m) ≡ 0 = ap (weigh (λ x. U x m)) (followed-none root m can.no_right) in
      let e4 : weigh (λ x. W x m) (followed root m) ≡ 0 = ap (weigh (λ x. W x m)) (followed-none root m can.no_right) in
      let e5 : weigh (λ b. W b.child t.counter) (branch_to n a.cover ++ branch_to (suc n) b.cover) ≡ weight_a + weight_b
      = weigh-append (λ (b : Branch K). W b.child t.counter) (branch_to n a.cover) (branch_to (suc n) b.cover)
      ∙ ap₂ (λ x y. x + y) (branch_weight n a.cover can.left_bound ∙ W-a t.counter) (branch_weight (suc n) b.cover can.right_bound ∙ W-b t.counter) in
      let e6 : weigh (λ b. U b.child t.counter) (left_part sides root.branches) + weigh (λ b. U b.child t.counter) (right_part sides root.branches) ≡ weigh (λ b. U b.child t.counter) root.branches
      = weigh-parts (λ b. U b.child t.counter) sides root.branches in
      let e7 : grown 0 ≡ h 0 + (h n + h (suc n)) = refl in
      omega (arith, e1, e2, e3, e4, e5, e6, e7)

  unfollowed : (page : Page K) (m : ℕ) → page.owed ≡ false → page.nsn ≡ 0 → followed page m ≡ []
  unfollowed page m e z = ap₂ (λ o x. cond (o || x) (option_to_list page.right) []) e (le-ltb m page.nsn (omega (arith, z)))

  at_a : (m : ℕ) → W n m ≡ weight_at t.counter h W n m a
  at_a m =
      let e1 : W n m ≡ weight_a = W-a m in
      let e2 : weigh (λ b. W b.child t.counter) (left_part sides root.branches) ≡ weigh (λ b. U b.child t.counter) (left_part sides root.branches)
      = old_branches 0 (left_part sides root.branches) (All-left_part (λ (b : Branch K). Falls n rank 0 b.child) sides root.branches ((r.links 0 can.root_exists).down)) in
      let e3 : weigh (λ x. W x m) (followed a m) ≡ 0 = ap (weigh (λ x. W x m)) (unfollowed a m refl refl) in
      omega (arith, e1, e2, e3)

  at_b : (m : ℕ) → W (suc n) m ≡ weight_at t.counter h W (suc n) m b
  at_b m =
      let e1 : W (suc n) m ≡ weight_b = W-b m in
      let e2 : weigh (λ b. W b.child t.counter) (right_part sides root.branches) ≡ weigh (λ b. U b.child t.counter) (right_part sides root.branches)
      = old_branches 0 (right_part sides root.branches) (All-right_part (λ (b : Branch K). Falls n rank 0 b.child) sides root.branches ((r.links 0 can.root_exists).down)) in
      let e3 : weigh (λ x. W x m) (followed b m) ≡ 0 = ap (weigh (λ x. W x m)) (unfollowed b m refl refl) in
      omega (arith, e1, e2, e3)

  at_other : (q : ℕ) → q < n → ((q ≡ 0) → ⊥) → (m : ℕ) → W q m ≡ weight_at t.counter h W q m (page_at t q)
  at_other q k z m =
      let e1 : W q m ≡ U q m = W-old q m k in
      let e2 : U q m ≡ grown q + (weigh (λ b. U b.child t.counter) (page_at t q).branches + weigh (λ x. U x m) (followed (page_at t q) m)) = weight_is t rank r grown q m k in
      let e3 : grown q ≡ h q = ap (λ c. h q + cond c (h n + h (suc n)) 0) (ne_eqb q 0 z) ∙ add-zero (h q) in
      let e4 : weigh (λ b. W b.child t.counter) (page_at t q).branches ≡ weigh (λ b. U b.child t.counter) (page_at t q).branches = old_branches q _ ((r.links q k).down) in
      let e5 : weigh (λ x. W x m) (followed (page_at t q) m) ≡ weigh (λ x. U x m) (followed (page_at t q) m) = old_links q m _ (All-followed (λ x. Falls n rank q x) (page_at t q) m ((r.links q k).along)) in
      omega (arith, e1, e2, e3, e4, e5)

  -- THE GROWTH, by pages
  pub grow_under : (q m : ℕ) → q < length t.pages → weigh h (pages_under (after_grow union t sides) q m) ≡ weigh grown (pages_under t q m)
  unfolding after_grow
  grow_under q m k =
      weight_unique (after_grow union t sides) (grow_rank rank n) (grow_ranked union t rank sides r can) h W (λ q m. Unit {0})
      (λ q m a b. λ i d c. tt)
      (λ q m a b. λ i d c. tt)
      (λ q m l d. grow_pages union t sides (λ q page. (m : ℕ) → W q m ≡ weight_at t.counter h W q m page) at_root at_a at_b at_other q (subst (λ n. q < n) (grow-length union t sides) l) m)
      q m (subst (λ n. q < n) (sym (grow-length union t sides)) (omega arith)) tt
      ∙ W-old q m k
