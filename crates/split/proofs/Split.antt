-- A split keeps what is under every page and memo.
use Rattle.std.proofs.Common.{ℕ, suc, ◌<◌, ◌≤◌, ◌≡◌, List, [], length, refl, ap, arith, sym, ◌∙◌, subst, cond, ltb, eqb, inl, inr}
use Rattle.std.proofs.lemmas.Bool.{lt-ltb, le-ltb, eq-eqb, ne_eqb}
use Rattle.std.proofs.lemmas.List.Elements.{All-weaker, All-nil, All-cons}
use Rattle.key_class.specs.declared.sides.Side.{Side}
use Rattle.node.specs.Changes.{split_left, split_right}
use Rattle.node.specs.Pages.{Page}
use Rattle.node.specs.declared.branch.Branch.{Branch}
use Rattle.page_table.proofs.PageLists.{added-length, added_pages, below_or_last, replaced-length, replaced_pages}
use Rattle.page_table.specs.Trees.{Falls, IsRanked, LinksFall, Tree, page_at, replaced}
use Rattle.split.proofs.PartWeights.{All-left_part, All-right_part}
use Rattle.split.specs.Steps.{after_split}

pub split-length : {K : Type 0} (union : K → K → K) (t : Tree K) (p : ℕ) (sides : List Side) → length (after_split union t p sides).pages ≡ suc (length t.pages)
unfolding after_split
split-length union t p sides =
    added-length (replaced t p (split_left union (page_at t p) sides (length t.pages))) (split_right union (page_at t p) sides)
    ∙ ap suc (replaced-length t p (split_left union (page_at t p) sides (length t.pages)))

-- what holds of each page after a split
pub split_pages : {K : Type 0} (union : K → K → K) (t : Tree K) (p : ℕ) (sides : List Side) (P : ℕ → Page K → Type 0) → p < length t.pages →
    P p (split_left union (page_at t p) sides (length t.pages)) → P (length t.pages) (split_right union (page_at t p) sides) →
    ((q : ℕ) → q < length t.pages → ((q ≡ p) → ⊥) → P q (page_at t q)) →
    (q : ℕ) → q < suc (length t.pages) → P q (page_at (after_split union t p sides) q)
unfolding after_split
split_pages {K} union t p sides P l here last other q h =
    let left : Page K = split_left union (page_at t p) sides (length t.pages) in
    let right : Page K = split_right union (page_at t p) sides in
    added_pages (replaced t p left) right P
    (subst (λ n. P n right) (sym (replaced-length t p left)) last)
    (λ x k. replaced_pages t p left P l here other x (subst (λ n. x < n) (replaced-length t p left) k))
    q (subst (λ n. q < n) (sym (added-length (replaced t p left) right ∙ ap suc (replaced-length t p left))) h)

-- ranks make room for one more, above those below b
abbrev pub lift : ℕ → ℕ → ℕ
lift b x = cond (ltb x b) x (suc x)

pub lift-below : (b x : ℕ) → x < b → lift b x ≡ x
lift-below b x h = ap (λ c. cond c x (suc x)) (lt-ltb x b h)

pub lift-above : (b x : ℕ) → b ≤ x → lift b x ≡ suc x
lift-above b x h = ap (λ c. cond c x (suc x)) (le-ltb x b h)

pub lift-falls : (b x y : ℕ) → x < y → lift b x < lift b y
lift-falls b x y h = grind (arith, lift-below b x, lift-above b x, lift-below b y, lift-above b y)

pub lift-bound : (b x : ℕ) → lift b x ≤ suc x
lift-bound b x = grind (arith, lift-below b x, lift-above b x)

-- the rank after a split: the new page s takes p's, and those from p's up rise by one
abbrev pub split_rank : (ℕ → ℕ) → ℕ → ℕ → ℕ → ℕ
split_rank rank p s q = cond (eqb q s) (rank p) (lift (rank p) (rank q))

pub split_rank-new : (rank : ℕ → ℕ) (p s : ℕ) → split_rank rank p s s ≡ rank p
split_rank-new rank p s = ap (λ c. cond c (rank p) (lift (rank p) (rank s))) (eq-eqb s s refl)

pub split_rank-old : (rank : ℕ → ℕ) (p s q : ℕ) → q < s → split_rank rank p s q ≡ lift (rank p) (rank q)
split_rank-old rank p s q h = ap (λ c. cond c (rank p) (lift (rank p) (rank q))) (ne_eqb q s (λ e. absurd (omega arith)))

-- an old link between old pages
pub split-falls : (rank : ℕ → ℕ) (p s q r : ℕ) → q < s → Falls s rank q r → Falls (suc s) (split_rank rank p s) q r
split-falls rank p s q r l w =
    (omega arith, omega (arith, split_rank-old rank p s q l, split_rank-old rank p s r w.0, lift-falls (rank p) (rank r) (rank q) w.1))

-- the links of the new page
pub split-falls_new : (rank : ℕ → ℕ) (p s r : ℕ) → Falls s rank p r → Falls (suc s) (split_rank rank p s) s r
split-falls_new rank p s r w =
    (omega arith, omega (arith, split_rank-new rank p s, split_rank-old rank p s r w.0, lift-below (rank p) (rank r) w.1))

pub split_ranked : {K : Type 0} (union : K → K → K) (t : Tree K) (rank : ℕ → ℕ) (p : ℕ) (sides : List Side) → IsRanked t rank → p < length t.pages →
    IsRanked (after_split union t p sides) (split_rank rank p (length t.pages))
split_ranked {K} union t rank p sides r l = record {
  bounded = λ q h. subst (λ n. split_rank rank p s q < n) (sym (split-length union t p sides)) (elim (below_or_last q s (old q h)) [
    | inl k ↦ omega (arith, split_rank-old rank p s q k, lift-bound (rank p) (rank q), r.bounded q k)
    | inr e ↦ subst (λ x. split_rank rank p s x < suc s) (sym e) (omega (arith, split_rank-new rank p s, r.bounded p l))
  ]);
  links = λ q h. subst (λ n. LinksFall n (split_rank rank p s) q (page_at (after_split union t p sides) q)) (sym (split-length union t p sides))
      (split_pages union t p sides (λ x page. LinksFall (suc s) (split_rank rank p s) x page) l
      (record {
        down = All-left_part (λ (b : Branch K). Falls (suc s) (split_rank rank p s) p b.child) sides _
            (All-weaker (λ (b : Branch K). Falls s rank p b.child) _ (λ b w. split-falls rank p s p b.child l w) _ ((r.links p l).down));
        along = All-cons (λ x. Falls (suc s) (split_rank rank p s) p x) s [] (omega arith, omega (arith, split_rank-new rank p s, split_rank-old rank p s p l, lift-above (rank p) (rank p))) (All-nil _);
      })
      (record {
        down = All-right_part (λ (b : Branch K). Falls (suc s) (split_rank rank p s) s b.child) sides _
            (All-weaker (λ (b : Branch K). Falls s rank p b.child) _ (λ b w. split-falls_new rank p s b.child w) _ ((r.links p l).down));
        along = All-weaker (λ x. Falls s rank p x) _ (λ x w. split-falls_new rank p s x w) _ ((r.links p l).along);
      })
      (λ x k n. record {
        down = All-weaker (λ (b : Branch K). Falls s rank x b.child) _ (λ b w. split-falls rank p s x b.child k w) _ ((r.links x k).down);
        along = All-weaker (λ y. Falls s rank x y) _ (λ y w. split-falls rank p s x y k w) _ ((r.links x k).along);
      })
      q (old q h));
}
  where
    s : ℕ
    s = length t.pages

    old : (q : ℕ) → q < length (after_split union t p sides).pages → q < suc (length t.pages)
    old q h = subst (λ n. q < n) (split-length union t p sides) h
