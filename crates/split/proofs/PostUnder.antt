-- What is under every page and memo after a posting.
use Rattle.std.proofs.Common.{ℕ, suc, ◌+◌, ◌*◌, ◌<◌, ◌≤◌, ◌≡◌, [], ◌∷◌, ◌++◌, length, map, option_to_list, All, refl, ap, ap₂, arith, sym, ◌∙◌, subst, cond, ltb, eqb, ◌⊎◌, inl, inr, Some, None, Option, le_refl}
use Rattle.std.proofs.lemmas.Bool.{lt-ltb, le-ltb, eq-eqb, ne_eqb}
use Rattle.std.proofs.lemmas.List.Elements.{All-head, All-nil, All-cons, All-append}
use Rattle.node.specs.Changes.{branch_to, post_child, post_parent, post_sibling, rekeyed}
use Rattle.node.specs.Pages.{Page, followed}
use Rattle.node.specs.declared.branch.Branch.{Branch}
use Rattle.page_table.proofs.Counting.{named-All}
use Rattle.page_table.proofs.Following.{All-owed, followed-owed, followed-top}
use Rattle.page_table.proofs.Under.{rows_under-weigh, under_weigh, weight_at, weight_is, weight_unique}
use Rattle.page_table.proofs.Weights.{weigh-append, weigh-each, weigh-where, weigh_one}
use Rattle.page_table.specs.Trees.{Falls, IsRanked, LinksFall, Tree, naming, page_at, pages_under, rows_under}
use Rattle.page_table.specs.Weights.{Same, weigh}
use Rattle.split.proofs.Post.{All-rekeyed, post-length, post_pages, weigh-but, weigh-rekeyed}
use Rattle.split.specs.Steps.{CanPost, after_post}

module _ {K : Type 0} (t : Tree K) (rank : ℕ → ℕ) (r : IsRanked t rank) (p c s : ℕ) (can : CanPost t p c s) where
  abbrev G : ℕ
  G = t.counter

  pub sibling_falls : Falls (length t.pages) rank c s
  sibling_falls = All-head (λ x. Falls (length t.pages) rank c x) s []
      (subst (λ o. All (λ x. Falls (length t.pages) rank c x) (option_to_list o)) can.sibling ((r.links c can.child_exists).along))

  pub child_falls : Falls (length t.pages) rank p c
  child_falls = named-All (λ x. Falls (length t.pages) rank p x) c (page_at t p).branches (omega (arith, can.once)) ((r.links p can.parent_exists).down)

  pub post_ranked : IsRanked (after_post t p c s) rank
  post_ranked = record {
    bounded = λ q h. subst (λ n. rank q < n) (sym (post-length t p c s)) (r.bounded q (subst (λ n. q < n) (post-length t p c s) h));
    links = λ q h. subst (λ n. LinksFall n rank q (page_at (after_post t p c s) q)) (sym (post-length t p c s))
        (post_pages t p c s (λ x page. LinksFall (length t.pages) rank x page) can.parent_exists can.child_exists sibling_falls.0
        (record {
          down = All-append (λ (b : Branch K). Falls (length t.pages) rank p b.child) (map (rekeyed c (page_at t c).cover) (page_at t p).branches) (branch_to s (page_at t s).cover)
              (All-rekeyed (λ x. Falls (length t.pages) rank p x) c (page_at t c).cover (page_at t p).branches ((r.links p can.parent_exists).down))
              (new_falls (page_at t s).cover);
          along = (r.links p can.parent_exists).along;
        })
        (record { down = (r.links c can.child_exists).down; along = (r.links c can.child_exists).along })
        (record { down = (r.links s sibling_falls.0).down; along = (r.links s sibling_falls.0).along })
        (λ x l a b d. r.links x l)
        q (subst (λ n. q < n) (post-length t p c s) h));
  }
    where
      new_falls : (o : Option K) → All (λ (b : Branch K). Falls (length t.pages) rank p b.child) (branch_to s o)
      new_falls None = All-nil _
      new_falls (Some k) = All-cons (λ (b : Branch K). Falls (length t.pages) rank p b.child) (record { key = k; child = s }) [] (sibling_falls.0, omega (arith, sibling_falls.1, child_falls.1)) (All-nil _)

  module _ (h : ℕ → ℕ) where
    abbrev U : ℕ → ℕ → ℕ
    U q m = weigh h (pages_under t q m)

    -- what is under c without its sibling
    abbrev own : ℕ
    own = h c + weigh (λ b. U b.child G) (page_at t c).branches

    abbrev W : ℕ → ℕ → ℕ
    W q m = cond (ltb m (suc G)) (U q m) (cond (eqb q c) own (U q G))

    W-low : (q m : ℕ) → m ≤ G → W q m ≡ U q m
    W-low q m l = ap (λ x. cond x (U q m) (cond (eqb q c) own (U q G))) (lt-ltb m (suc G) (omega arith))

    W-top : (q : ℕ) → W q (suc G) ≡ cond (eqb q c) own (U q G)
    W-top q = ap (λ x. cond x (U q (suc G)) (cond (eqb q c) own (U q G))) (le-ltb (suc G) (suc G) (omega arith))

    W-child : W c (suc G) ≡ own
    W-child = W-top c ∙ ap (λ x. cond x own (U c G)) (eq-eqb c c refl)

    W-high : (q : ℕ) → ((q ≡ c) → ⊥) → W q (suc G) ≡ U q G
    W-high q n = W-top q ∙ ap (λ x. cond x own (U q G)) (ne_eqb q c n)

    U-child : (m : ℕ) → U c m ≡ own + U s m
    U-child m =
        let e1 : U c m ≡ h c + (weigh (λ b. U b.child G) (page_at t c).branches + weigh (λ x. U x m) (followed (page_at t c) m)) = weight_is t rank r h c m can.child_exists in
        let e2 : weigh (λ x. U x m) (followed (page_at t c) m) ≡ U s m = ap (weigh (λ x. U x m)) (followed-owed (page_at t c) s m can.child_owed can.sibling) ∙ weigh_one (λ x. U x m) s in
        omega (arith, e1, e2)

    pub sibling_not_child : (s ≡ c) → ⊥
    sibling_not_child e = let l : rank c < rank c = subst (λ x. rank x < rank c) e sibling_falls.1 in omega arith

    new_weigh : (o : Option K) → (k : K) × (o ≡ Some k) → weigh (λ b. W b.child (suc G)) (branch_to s o) ≡ U s G
    new_weigh None w = cc w.1
    new_weigh (Some k) w = weigh_one (λ x. W x (suc G)) s ∙ W-high s sibling_not_child

    -- the branches of the parent and of every other page
    parent_branches : weigh (λ b. W b.child (suc G)) (map (rekeyed c (page_at t c).cover) (page_at t p).branches ++ branch_to s (page_at t s).cover) ≡ weigh (λ b. U b.child G) (page_at t p).branches
    parent_branches =
        let e1 : weigh (λ b. W b.child (suc G)) (map (rekeyed c (page_at t c).cover) (page_at t p).branches ++ branch_to s (page_at t s).cover)
        ≡ weigh (λ b. W b.child (suc G)) (map (rekeyed c (page_at t c).cover) (page_at t p).branches) + weigh (λ b. W b.child (suc G)) (branch_to s (page_at t s).cover)
        = weigh-append (λ (b : Branch K). W b.child (suc G)) (map (rekeyed c (page_at t c).cover) (page_at t p).branches) (branch_to s (page_at t s).cover) in
        let e2 : weigh (λ b. W b.child (suc G)) (map (rekeyed c (page_at t c).cover) (page_at t p).branches) ≡ weigh (λ b. W b.child (suc G)) (page_at t p).branches
        = weigh-rekeyed (λ x. W x (suc G)) c (page_at t c).cover (page_at t p).branches in
        let e3 : weigh (λ b. W b.child (suc G)) (branch_to s (page_at t s).cover) ≡ U s G = new_weigh (page_at t s).cover can.sibling_bound in
        let e4 : weigh (λ b. U b.child G) (page_at t p).branches ≡ weigh (λ b. W b.child (suc G)) (page_at t p).branches + naming c (page_at t p).branches * U s G
        = weigh-but (λ x. U x G) (λ x. W x (suc G)) c (U s G) W-high (U-child G ∙ ap (λ n. n + U s G) (sym W-child)) (page_at t p).branches in
        let e5 : naming c (page_at t p).branches * U s G ≡ 1 * U s G = ap (λ n. n * U s G) can.once in
        omega (arith, e1, e2, e3, e4, e5)

    other_branches : (q : ℕ) → q < length t.pages → ((q ≡ p) → ⊥) → weigh (λ b. W b.child (suc G)) (page_at t q).branches ≡ weigh (λ b. U b.child G) (page_at t q).branches
    other_branches q l n = weigh-where (λ (b : Branch K). (b.child ≡ c) → ⊥) (λ b. W b.child (suc G)) (λ b. U b.child G) (λ b w. W-high b.child w) (page_at t q).branches (can.nowhere_else q l n)

    low_or_top : (m : ℕ) → m ≤ suc G → (m ≤ G) ⊎ (m ≡ suc G)
    low_or_top m l = grind arith

    -- a page other than c, whose links stay
    kept : (q : ℕ) → q < length t.pages → ((q ≡ c) → ⊥) → (page : Page K) → weigh (λ b. W b.child (suc G)) page.branches ≡ weigh (λ b. U b.child G) (page_at t q).branches →
        ((m : ℕ) → followed page m ≡ followed (page_at t q) m) → (m : ℕ) → m ≤ suc G → W q m ≡ weight_at (suc G) h W q m page
    kept q k n page eb ef m l = elim (low_or_top m l) [
      | inl a ↦ (
          let e1 : W q m ≡ U q m = W-low q m a in
          let e2 : U q m ≡ h q + (weigh (λ b. U b.child G) (page_at t q).branches + weigh (λ x. U x m) (followed (page_at t q) m)) = weight_is t rank r h q m k in
          let e3 : weigh (λ x. W x m) (followed page m) ≡ weigh (λ x. U x m) (followed (page_at t q) m)
          = ap (weigh (λ x. W x m)) (ef m) ∙ weigh-each (λ x. W x m) (λ x. U x m) (followed (page_at t q) m) (λ i d j. W-low _ m a) in
          omega (arith, e1, e2, e3, eb))
      | inr e ↦ subst (λ m. W q m ≡ weight_at (suc G) h W q m page) (sym e) (
          let e1 : W q (suc G) ≡ U q G = W-high q n in
          let e2 : U q G ≡ h q + (weigh (λ b. U b.child G) (page_at t q).branches + weigh (λ x. U x G) (followed (page_at t q) G)) = weight_is t rank r h q G k in
          let e3 : followed page (suc G) ≡ followed (page_at t q) G
          = ef (suc G) ∙ followed-top (page_at t q) (suc G) (omega (arith, can.numbers q k)) ∙ sym (followed-top (page_at t q) G (can.numbers q k)) in
          let e4 : weigh (λ x. W x (suc G)) (followed page (suc G)) ≡ weigh (λ x. U x G) (followed (page_at t q) G)
          = ap (weigh (λ x. W x (suc G))) e3
          ∙ weigh-where (λ x. (x ≡ c) → ⊥) (λ x. W x (suc G)) (λ x. U x G) (λ x w. W-high x w) (followed (page_at t q) G)
          (All-owed (λ x. (x ≡ c) → ⊥) (page_at t q) G (can.numbers q k) (can.no_other_owes q k)) in
          omega (arith, e1, e2, e4, eb))
    ]

    pub child_not_parent : (c ≡ p) → ⊥
    child_not_parent e = let l : rank p < rank p = subst (λ x. rank x < rank p) e child_falls.1 in omega arith

    pub sibling_not_parent : (s ≡ p) → ⊥
    sibling_not_parent e = let l : rank p < rank c = subst (λ x. rank x < rank c) e sibling_falls.1 in omega (arith, child_falls.1)

    -- c itself
    child_page : (m : ℕ) → m ≤ suc G → W c m ≡ weight_at (suc G) h W c m (post_child (page_at t c) (suc G))
    child_page m l = elim (low_or_top m l) [
      | inl a ↦ (
          let e1 : W c m ≡ own + U s m = W-low c m a ∙ U-child m in
          let e2 : weigh (λ b. W b.child (suc G)) (page_at t c).branches ≡ weigh (λ b. U b.child G) (page_at t c).branches = other_branches c can.child_exists child_not_parent in
          let e3 : followed (post_child (page_at t c) (suc G)) m ≡ s ∷ []
          = ap₂ (λ x o. cond x (option_to_list o) []) (lt-ltb m (suc G) (omega arith)) can.sibling in
          let e4 : weigh (λ x. W x m) (followed (post_child (page_at t c) (suc G)) m) ≡ U s m = ap (weigh (λ x. W x m)) e3 ∙ weigh_one (λ x. W x m) s ∙ W-low s m a in
          omega (arith, e1, e2, e4))
      | inr e ↦ subst (λ m. W c m ≡ weight_at (suc G) h W c m (post_child (page_at t c) (suc G))) (sym e) (
          let e1 : W c (suc G) ≡ own = W-child in
          let e2 : weigh (λ b. W b.child (suc G)) (page_at t c).branches ≡ weigh (λ b. U b.child G) (page_at t c).branches = other_branches c can.child_exists child_not_parent in
          let e3 : followed (post_child (page_at t c) (suc G)) (suc G) ≡ [] = ap (λ x. cond x (option_to_list (page_at t c).right) []) (le-ltb (suc G) (suc G) (omega arith)) in
          let e4 : weigh (λ x. W x (suc G)) (followed (post_child (page_at t c) (suc G)) (suc G)) ≡ 0 = ap (weigh (λ x. W x (suc G))) e3 in
          omega (arith, e1, e2, e4))
    ]

    post_weights : (q m : ℕ) → q < length t.pages → m ≤ suc G → weigh h (pages_under (after_post t p c s) q m) ≡ W q m
    unfolding after_post
    post_weights q m k l =
        weight_unique (after_post t p c s) rank post_ranked h W (λ q m. m ≤ suc G)
        (λ q m a b. λ i d x. le_refl (suc G))
        (λ q m a b. λ i d x. b)
        (λ q m a b. post_pages t p c s (λ q page. (m : ℕ) → m ≤ suc G → W q m ≡ weight_at (suc G) h W q m page) can.parent_exists can.child_exists sibling_falls.0
        (kept p can.parent_exists (λ e. child_not_parent (sym e)) (post_parent (page_at t p) c (page_at t c).cover s (page_at t s).cover) parent_branches (λ m. refl))
        child_page
        (kept s sibling_falls.0 sibling_not_child (post_sibling (page_at t s)) (other_branches s sibling_falls.0 sibling_not_parent) (λ m. refl))
        (λ q k n1 n2 n3. kept q k n2 (page_at t q) (other_branches q k n1) (λ m. refl))
        q (subst (λ n. q < n) (post-length t p c s) a) m b)
        q m (subst (λ n. q < n) (sym (post-length t p c s)) k) l

    -- THE POSTING, by pages: every memo up to the old counter, and the new counter away from c
    pub post_under : (q m : ℕ) → q < length t.pages → m ≤ G → weigh h (pages_under (after_post t p c s) q m) ≡ weigh h (pages_under t q m)
    post_under q m k l = post_weights q m k (omega arith) ∙ W-low q m l

    pub post_under_new : (q : ℕ) → q < length t.pages → ((q ≡ c) → ⊥) → weigh h (pages_under (after_post t p c s) q (suc G)) ≡ weigh h (pages_under t q G)
    post_under_new q k n = post_weights q (suc G) k (omega arith) ∙ W-high q n

  pub rows_same : (q : ℕ) → q < length t.pages → (page_at (after_post t p c s) q).rows ≡ (page_at t q).rows
  rows_same q l = post_pages t p c s (λ q page. page.rows ≡ (page_at t q).rows) can.parent_exists can.child_exists sibling_falls.0 refl refl refl (λ q k a b d. refl) q l

  -- THE POSTING, by rows
  pub post_rows : (q m : ℕ) → q < length t.pages → m ≤ t.counter → Same (rows_under (after_post t p c s) q m) (rows_under t q m)
  post_rows q m k l f =
      rows_under-weigh (after_post t p c s) f q m
      ∙ post_under (λ x. weigh f (page_at (after_post t p c s) x).rows) q m k l
      ∙ under_weigh t rank r (λ x. weigh f (page_at (after_post t p c s) x).rows) (λ x. weigh f (page_at t x).rows) (λ x a. ap (weigh f) (rows_same x a)) q m k
      ∙ sym (rows_under-weigh t f q m)

  -- the same at the new counter, for every page but the child
  pub post_rows_new : (q : ℕ) → q < length t.pages → ((q ≡ c) → ⊥) → Same (rows_under (after_post t p c s) q (suc t.counter)) (rows_under t q t.counter)
  post_rows_new q k d f =
      rows_under-weigh (after_post t p c s) f q (suc t.counter)
      ∙ post_under_new (λ x. weigh f (page_at (after_post t p c s) x).rows) q k d
      ∙ under_weigh t rank r (λ x. weigh f (page_at (after_post t p c s) x).rows) (λ x. weigh f (page_at t x).rows) (λ x a. ap (weigh f) (rows_same x a)) q t.counter k
      ∙ sym (rows_under-weigh t f q t.counter)
