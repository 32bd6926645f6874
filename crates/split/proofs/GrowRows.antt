-- A growth of the root keeps the rows under every page and memo, and the tree sound.
use Rattle.std.proofs.Common.{ℕ, suc, ◌+◌, ◌<◌, ◌≡◌, List, [], ◌∷◌, length, refl, ap, arith, sym, ◌∙◌, cond, Bool, eqb, inl, inr, Some}
use Rattle.std.proofs.lemmas.Bool.{eq-eqb, ne_eqb}
use Rattle.std.proofs.Math.ListN.{get_or-append}
use Rattle.key_class.specs.declared.sides.Side.{Side}
use Rattle.node.specs.Changes.{grown_left, grown_right, grown_root}
use Rattle.node.specs.Pages.{Page}
use Rattle.node.specs.Parts.{cover_of, left_part, right_part}
use Rattle.page_table.proofs.PageLists.{added-length, is_or_not}
use Rattle.page_table.proofs.Under.{rows_under-weigh, under_weigh}
use Rattle.page_table.proofs.Weights.{weigh-append, weigh-set}
use Rattle.page_table.specs.Soundness.{IsSound}
use Rattle.page_table.specs.Trees.{IsRanked, Tree, added, no_page, page_at, replaced, rows_under}
use Rattle.page_table.specs.Weights.{Same, weigh}
use Rattle.split.proofs.Grow.{grow_pages, grow_under, grown}
use Rattle.split.proofs.PartWeights.{weigh-parts}
use Rattle.split.specs.Steps.{CanGrow, SidesPart, after_grow}

-- a list with something in it has a union
pub union_some : {K : Type 0} (union : K → K → K) (ks : List K) → 0 < length ks → (k : K) × (cover_of union ks ≡ Some k)
union_some union [] l = absurd (omega arith)
union_some {K} union (a ∷ ks) l = go a ks
  where
    go : (a : K) (ks : List K) → (k : K) × (cover_of union (a ∷ ks) ≡ Some k)
    go a [] = (a, refl)
    go a (b ∷ ks) = go (union a b) ks

pub can_grow : {K : Type 0} (is_cover : K → K → Bool) (union : K → K → K) (t : Tree K) (fan : ℕ) (sides : List Side) → IsSound is_cover fan t → SidesPart (page_at t 0) sides → CanGrow union t sides
can_grow is_cover union t fan sides sound part = record {
  root_exists = sound.root_exists;
  no_right = sound.root.no_right;
  left_bound = union_some union _ part.some_left;
  right_bound = union_some union _ part.some_right;
}

module _ {K : Type 0} (union : K → K → K) (t : Tree K) (rank : ℕ → ℕ) (r : IsRanked t rank) (sides : List Side) (can : CanGrow union t sides) where
  abbrev n : ℕ
  n = length t.pages

  abbrev root : Page K
  root = page_at t 0

  abbrev t' : Tree K
  t' = after_grow union t sides

  abbrev a : Page K
  a = grown_left union root sides (suc n)

  abbrev b : Page K
  b = grown_right union root sides

  abbrev root' : Page K
  root' = grown_root root n a.cover (suc n) b.cover

  rows_root : (page_at t' 0).rows ≡ []
  rows_root = grow_pages union t sides (λ q x. (q ≡ 0) → x.rows ≡ []) (λ e. refl) (λ e. let k : 0 < length t.pages = can.root_exists in absurd (omega arith)) (λ e. absurd (omega arith)) (λ q k d e. absurd (d e)) 0 (omega arith) refl

  rows_a : (page_at t' n).rows ≡ left_part sides root.rows
  rows_a = grow_pages union t sides (λ q x. (q ≡ n) → x.rows ≡ left_part sides root.rows) (λ e. let k : 0 < length t.pages = can.root_exists in absurd (omega arith)) (λ e. refl) (λ e. absurd (omega arith)) (λ q k d e. absurd (omega arith)) n (omega arith) refl

  rows_b : (page_at t' (suc n)).rows ≡ right_part sides root.rows
  rows_b = grow_pages union t sides (λ q x. (q ≡ suc n) → x.rows ≡ right_part sides root.rows) (λ e. absurd (omega arith)) (λ e. absurd (omega arith)) (λ e. refl) (λ q k d e. absurd (omega arith)) (suc n) (omega arith) refl

  rows_other : (q : ℕ) → q < n → ((q ≡ 0) → ⊥) → (page_at t' q).rows ≡ (page_at t q).rows
  rows_other q k d = grow_pages union t sides (λ q x. (q < n) → ((q ≡ 0) → ⊥) → x.rows ≡ (page_at t q).rows) (λ k d. absurd (d refl)) (λ k d. absurd (omega arith)) (λ k d. absurd (omega arith)) (λ q k d e f. refl) q (omega arith) k d

  -- THE GROWTH, by rows
  pub grow_rows : (q m : ℕ) → q < n → Same (rows_under t' q m) (rows_under t q m)
  grow_rows q m k f =
      rows_under-weigh t' f q m
      ∙ grow_under union t rank r sides can h q m k
      ∙ under_weigh t rank r (grown union t rank r sides can h) (λ x. weigh f (page_at t x).rows) each q m k
      ∙ sym (rows_under-weigh t f q m)
    where
      h : ℕ → ℕ
      h x = weigh f (page_at t' x).rows

      at_zero : (x : ℕ) → x ≡ 0 → cond (eqb x 0) (h n + h (suc n)) 0 ≡ h n + h (suc n)
      at_zero x e = let g : Bool → ℕ = λ c. cond c (h n + h (suc n)) 0 in ap g (eq-eqb x 0 e)

      off_zero : (x : ℕ) → ((x ≡ 0) → ⊥) → cond (eqb x 0) (h n + h (suc n)) 0 ≡ 0
      off_zero x d = let g : Bool → ℕ = λ c. cond c (h n + h (suc n)) 0 in ap g (ne_eqb x 0 d)

      each : (x : ℕ) → x < n → h x + cond (eqb x 0) (h n + h (suc n)) 0 ≡ weigh f (page_at t x).rows
      each x l = elim (is_or_not x 0) [
        | inl e ↦ omega (arith, at_zero x e, ap h e, ap (weigh f) rows_root, ap (weigh f) rows_a, ap (weigh f) rows_b, weigh-parts f sides root.rows, ap (λ y. weigh f (page_at t y).rows) e)
        | inr d ↦ omega (arith, off_zero x d, ap (weigh f) (rows_other x l d))
      ]

  pub grow_total : (f : Page K → ℕ) → weigh f t'.pages + f root ≡ weigh f t.pages + (f root' + (f a + f b))
  unfolding after_grow
  grow_total f =
      let t1 : Tree K = added t a in
      let t2 : Tree K = added t1 b in
      let l2 : 0 < length t2.pages = omega (arith, added-length t1 b) in
      let e1 : weigh f t1.pages ≡ weigh f t.pages + (f a + 0) = weigh-append f t.pages (a ∷ []) in
      let e2 : weigh f t2.pages ≡ weigh f t1.pages + (f b + 0) = weigh-append f t1.pages (b ∷ []) in
      let e3 : weigh f (replaced t2 0 root').pages + f (page_at t2 0) ≡ weigh f t2.pages + f root' = weigh-set f t2.pages 0 root' no_page l2 in
      let a1 : page_at t2 0 ≡ page_at t1 0 = get_or-append t1.pages (b ∷ []) no_page 0 (omega (arith, added-length t a)) in
      let a2 : page_at t1 0 ≡ root = get_or-append t.pages (a ∷ []) no_page 0 can.root_exists in
      let a3 : f (page_at t2 0) ≡ f root = ap f (a1 ∙ a2) in
      omega (arith, e1, e2, e3, a3)
