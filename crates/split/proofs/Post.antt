-- A posting keeps what is under every page and memo up to the old counter.
use Rattle.std.proofs.Common.{ℕ, suc, ◌+◌, ◌*◌, ◌<◌, ◌≡◌, List, [], ◌∷◌, length, map, All, refl, ap, arith, sym, ◌∙◌, subst, cond, Bool, true, false, eqb, inl, inr, Some, None, Option}
use Rattle.std.proofs.lemmas.List.Elements.{All-head, All-tail, All-nil, All-cons}
use Rattle.node.specs.Changes.{post_child, post_parent, post_sibling, rekeyed}
use Rattle.node.specs.Pages.{Page}
use Rattle.node.specs.declared.branch.Branch.{Branch}
use Rattle.page_table.proofs.Counting.{one-different, one-equal}
use Rattle.page_table.proofs.PageLists.{is_or_not, replaced-length, replaced_pages}
use Rattle.page_table.proofs.Weights.{weigh-each, weigh-map}
use Rattle.page_table.specs.Trees.{Tree, naming, page_at, replaced}
use Rattle.page_table.specs.Weights.{one_if_equal, weigh}
use Rattle.split.specs.Steps.{after_post}

pub rekeyed-child : {K : Type 0} (c : ℕ) (o : Option K) (b : Branch K) → (rekeyed c o b).child ≡ b.child
rekeyed-child c None b = refl
rekeyed-child c (Some k) b = go (eqb b.child c)
  where
    go : (x : Bool) → (cond x (record { key = k; child = b.child }) b).child ≡ b.child
    go true = refl
    go false = refl

-- a weight of branches by their children alone is the same after the rekeying
pub weigh-rekeyed : {K : Type 0} (g : ℕ → ℕ) (c : ℕ) (o : Option K) (bs : List (Branch K)) → weigh (λ b. g b.child) (map (rekeyed c o) bs) ≡ weigh (λ b. g b.child) bs
weigh-rekeyed {K} g c o bs = weigh-map (λ (b : Branch K). g b.child) (rekeyed c o) bs ∙ weigh-each (λ b. g (rekeyed c o b).child) (λ b. g b.child) bs (λ i d l. ap g (rekeyed-child c o _))

pub All-rekeyed : {K : Type 0} (P : ℕ → Type 0) (c : ℕ) (o : Option K) (bs : List (Branch K)) → All (λ b. P b.child) bs → All (λ b. P b.child) (map (rekeyed c o) bs)
All-rekeyed P c o [] h = All-nil (λ b. P b.child)
All-rekeyed P c o (b ∷ bs) h =
    All-cons (λ b. P b.child) (rekeyed c o b) (map (rekeyed c o) bs) (subst P (sym (rekeyed-child c o b)) (All-head (λ b. P b.child) b bs h)) (All-rekeyed P c o bs (All-tail (λ b. P b.child) b bs h))

-- one weight replaced at the child c
pub weigh-but : {K : Type 0} (g g' : ℕ → ℕ) (c v : ℕ) → ((x : ℕ) → ((x ≡ c) → ⊥) → g' x ≡ g x) → g c ≡ g' c + v → (bs : List (Branch K)) →
    weigh (λ b. g b.child) bs ≡ weigh (λ b. g' b.child) bs + naming c bs * v
weigh-but g g' c v same at [] = omega arith
weigh-but {K} g g' c v same at (b ∷ bs) = elim (is_or_not b.child c) [
  | inl e ↦ (let h1 : g b.child ≡ g' b.child + v = subst (λ x. g x ≡ g' x + v) (sym e) at in
      let h2 : one_if_equal b.child c ≡ 1 = one-equal b.child c e in
      let h3 : weigh (λ b. g b.child) bs ≡ weigh (λ b. g' b.child) bs + naming c bs * v = weigh-but g g' c v same at bs in
      let h4 : (one_if_equal b.child c + naming c bs) * v ≡ (1 + naming c bs) * v = ap (λ x. (x + naming c bs) * v) h2 in
      omega (arith, h1, h3, h4))
  | inr n ↦ (let h1 : g' b.child ≡ g b.child = same b.child n in
      let h2 : one_if_equal b.child c ≡ 0 = one-different b.child c n in
      let h3 : weigh (λ b. g b.child) bs ≡ weigh (λ b. g' b.child) bs + naming c bs * v = weigh-but g g' c v same at bs in
      let h4 : (one_if_equal b.child c + naming c bs) * v ≡ (0 + naming c bs) * v = ap (λ x. (x + naming c bs) * v) h2 in
      omega (arith, h1, h3, h4))
]

pub post-length : {K : Type 0} (t : Tree K) (p c s : ℕ) → length (after_post t p c s).pages ≡ length t.pages
unfolding after_post
post-length t p c s =
    let t1 = replaced t s (post_sibling (page_at t s)) in
    let t2 = replaced t1 c (post_child (page_at t c) (suc t.counter)) in
    replaced-length t2 p (post_parent (page_at t p) c (page_at t c).cover s (page_at t s).cover)
    ∙ replaced-length t1 c (post_child (page_at t c) (suc t.counter)) ∙ replaced-length t s (post_sibling (page_at t s))

-- what holds of each page after a posting
pub post_pages : {K : Type 0} (t : Tree K) (p c s : ℕ) (P : ℕ → Page K → Type 0) → p < length t.pages → c < length t.pages → s < length t.pages →
    P p (post_parent (page_at t p) c (page_at t c).cover s (page_at t s).cover) → P c (post_child (page_at t c) (suc t.counter)) → P s (post_sibling (page_at t s)) →
    ((q : ℕ) → q < length t.pages → ((q ≡ p) → ⊥) → ((q ≡ c) → ⊥) → ((q ≡ s) → ⊥) → P q (page_at t q)) →
    (q : ℕ) → q < length t.pages → P q (page_at (after_post t p c s) q)
unfolding after_post
post_pages {K} t p c s P lp lc ls at_p at_c at_s other q l =
    let sib : Page K = post_sibling (page_at t s) in
    let t1 : Tree K = replaced t s sib in
    let chi : Page K = post_child (page_at t c) (suc t.counter) in
    let t2 : Tree K = replaced t1 c chi in
    let n1 : length t1.pages ≡ length t.pages = replaced-length t s sib in
    let n2 : length t2.pages ≡ length t.pages = replaced-length t1 c chi ∙ n1 in
    replaced_pages t2 p (post_parent (page_at t p) c (page_at t c).cover s (page_at t s).cover) P (subst (λ n. p < n) (sym n2) lp) at_p
    (λ q l np. replaced_pages t1 c chi (λ x page. ((x ≡ p) → ⊥) → P x page) (subst (λ n. c < n) (sym n1) lc) (λ f. at_c)
    (λ q l nc f. replaced_pages t s sib (λ x page. ((x ≡ p) → ⊥) → ((x ≡ c) → ⊥) → P x page) ls (λ f g. at_s)
    (λ q l ns f g. other q l f g ns) q (subst (λ n. q < n) n1 l) f nc)
    q (subst (λ n. q < n) (replaced-length t1 c chi) l) np)
    q (subst (λ n. q < n) (sym n2) l)
