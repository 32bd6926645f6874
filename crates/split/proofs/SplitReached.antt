-- A split keeps how often links lead to each page.
use Rattle.std.proofs.Common.{ℕ, ◌+◌, ◌<◌, ◌≤◌, ◌≡◌, List, [], ◌∷◌, ◌++◌, length, All, refl, ap, arith, sym, ◌∙◌, subst, cond, Bool, true, false, eqb, set}
use Rattle.std.proofs.lemmas.List.Elements.{All-weaker, All-from_get_or}
use Rattle.key_class.specs.declared.sides.Side.{Side}
use Rattle.node.specs.Changes.{split_left, split_right}
use Rattle.node.specs.Pages.{Page}
use Rattle.node.specs.declared.branch.Branch.{Branch}
use Rattle.page_table.proofs.Counting.{one-different, one-equal}
use Rattle.page_table.proofs.Under.{under_weigh}
use Rattle.page_table.proofs.Weights.{weigh-append, weigh-none, weigh-set}
use Rattle.page_table.specs.Soundness.{IsReached}
use Rattle.page_table.specs.Trees.{Falls, IsRanked, Tree, linking, naming, no_page, owing, page_at, pages_under}
use Rattle.page_table.specs.Weights.{one_if_equal, weigh}
use Rattle.split.proofs.PartWeights.{weigh-parts}
use Rattle.split.proofs.Split.{split-length, split_pages}
use Rattle.split.proofs.SplitUnder.{merged, split_under}
use Rattle.split.specs.Steps.{after_split}

pub split_total : {K : Type 0} (union : K → K → K) (t : Tree K) (p : ℕ) (sides : List Side) → p < length t.pages → (f : Page K → ℕ) →
    weigh f (after_split union t p sides).pages + f (page_at t p) ≡ weigh f t.pages + (f (split_left union (page_at t p) sides (length t.pages)) + f (split_right union (page_at t p) sides))
unfolding after_split
split_total {K} union t p sides l f =
    let left : Page K = split_left union (page_at t p) sides (length t.pages) in
    let right : Page K = split_right union (page_at t p) sides in
    let e1 : weigh f (set t.pages p left ++ right ∷ []) ≡ weigh f (set t.pages p left) + (f right + 0) = weigh-append f (set t.pages p left) (right ∷ []) in
    let e2 : weigh f (set t.pages p left) + f (page_at t p) ≡ weigh f t.pages + f left = weigh-set f t.pages p left no_page l in
    omega (arith, e1, e2)

-- no link leads to a number that no page has
module _ {K : Type 0} (t : Tree K) (rank : ℕ → ℕ) (r : IsRanked t rank) (z : ℕ) (big : length t.pages ≤ z) where
  unlinked : (q : ℕ) (xs : List ℕ) → All (λ x. Falls (length t.pages) rank q x) xs → weigh (λ x. one_if_equal x z) xs ≡ 0
  unlinked q xs a = weigh-none (λ x. one_if_equal x z) xs
      (All-weaker (λ x. Falls (length t.pages) rank q x) (λ x. one_if_equal x z ≡ 0) (λ x w. one-different x z (λ e. let k : x < length t.pages = w.0 in absurd (omega arith))) xs a)

  pub none_names : weigh (λ page. naming z page.branches) t.pages ≡ 0
  none_names = weigh-none (λ (page : Page K). naming z page.branches) t.pages
      (All-from_get_or (λ (page : Page K). naming z page.branches ≡ 0) t.pages no_page
      (λ i l. weigh-none (λ (b : Branch K). one_if_equal b.child z) (page_at t i).branches
      (All-weaker (λ (b : Branch K). Falls (length t.pages) rank i b.child) (λ (b : Branch K). one_if_equal b.child z ≡ 0)
      (λ b w. one-different b.child z (λ e. let k : b.child < length t.pages = w.0 in absurd (omega arith))) _ ((r.links i l).down))))

  pub none_links : weigh (λ page. linking z page) t.pages ≡ 0
  none_links = weigh-none (λ (page : Page K). linking z page) t.pages
      (All-from_get_or (λ (page : Page K). linking z page ≡ 0) t.pages no_page (λ i l. unlinked i _ ((r.links i l).along)))

  cond_zero : (o : Bool) (n : ℕ) → n ≡ 0 → cond o n 0 ≡ 0
  cond_zero true n e = e
  cond_zero false n e = refl

  pub none_owes : weigh (λ page. owing z page) t.pages ≡ 0
  none_owes = weigh-none (λ (page : Page K). owing z page) t.pages
      (All-from_get_or (λ (page : Page K). owing z page ≡ 0) t.pages no_page (λ i l. cond_zero (page_at t i).owed _ (unlinked i _ ((r.links i l).along))))

module _ {K : Type 0} (union : K → K → K) (t : Tree K) (rank : ℕ → ℕ) (r : IsRanked t rank) (root : 0 < length t.pages) (p : ℕ) (sides : List Side) (l : p < length t.pages)
    (free : (page_at t p).owed ≡ false) (hung : (page_at t p).hung ≡ true) (reached : (q : ℕ) → q < length t.pages → IsReached t q (page_at t q)) where
  abbrev s : ℕ
  s = length t.pages

  abbrev t' : Tree K
  t' = after_split union t p sides

  names_kept : (q : ℕ) → weigh (λ page. naming q page.branches) t'.pages ≡ weigh (λ page. naming q page.branches) t.pages
  names_kept q = omega (arith, split_total union t p sides l (λ page. naming q page.branches), weigh-parts (λ (b : Branch K). one_if_equal b.child q) sides (page_at t p).branches)

  owes_more : (q : ℕ) → weigh (λ page. owing q page) t'.pages ≡ weigh (λ page. owing q page) t.pages + one_if_equal s q
  owes_more q = omega (arith, split_total union t p sides l (λ page. owing q page), ap (λ o. cond o (linking q (page_at t p)) 0) free)

  pub links_more : (q : ℕ) → weigh (λ page. linking q page) t'.pages ≡ weigh (λ page. linking q page) t.pages + one_if_equal s q
  links_more q = omega (arith, split_total union t p sides l (λ page. linking q page))

  old_once : (q : ℕ) → q < s → weigh (λ x. one_if_equal x q) (pages_under t' 0 t.counter) ≡ 1
  old_once q k =
      split_under union t rank r p sides l free (λ x. one_if_equal x q) 0 t.counter root
      ∙ under_weigh t rank r (merged p s (λ x. one_if_equal x q)) (λ x. one_if_equal x q)
      (λ x a. omega (arith, cond_same (eqb x p) (one_if_equal s q) (one-different s q (λ e. absurd (omega arith))))) 0 t.counter root
      ∙ (reached q k).once
    where
      cond_same : (b : Bool) (n : ℕ) → n ≡ 0 → cond b n 0 ≡ 0
      cond_same true n e = e
      cond_same false n e = refl

  new_once : weigh (λ x. one_if_equal x s) (pages_under t' 0 t.counter) ≡ 1
  new_once =
      split_under union t rank r p sides l free (λ x. one_if_equal x s) 0 t.counter root
      ∙ under_weigh t rank r (merged p s (λ x. one_if_equal x s)) (λ x. one_if_equal x p)
      (λ x a. let f : ℕ → ℕ = λ n. cond (eqb x p) n 0 in
      omega (arith, one-different x s (λ e. absurd (omega arith)), ap f (one-equal s s refl))) 0 t.counter root
      ∙ (reached p l).once

  old_reached : (q : ℕ) → q < s → (page page' : Page K) → page'.hung ≡ page.hung → (page'.hung ≡ false → page'.owed ≡ false) → IsReached t q page → IsReached t' q page'
  unfolding after_split
  old_reached q k page page' eh st w = record {
    named = names_kept' ∙ w.named ∙ ap (λ b. cond b 1 0) (sym eh);
    owed_by = omega (arith, owes_more q, one-different s q (λ e. absurd (omega arith))) ∙ w.owed_by ∙ ap (λ b. cond b 0 1) (sym eh);
    settled = st;
    linked_by = λ u. omega (arith, links_more q, one-different s q (λ e. absurd (omega arith))) ∙ w.linked_by (sym eh ∙ u);
    once = old_once q k;
  }
    where
      names_kept' : weigh (λ page. naming q page.branches) t'.pages + one_if_equal q 0 ≡ weigh (λ page. naming q page.branches) t.pages + one_if_equal q 0
      names_kept' = ap (λ n. n + one_if_equal q 0) (names_kept q)

  pub split_reached : (q : ℕ) → q < length t'.pages → IsReached t' q (page_at t' q)
  unfolding after_split
  split_reached q k = split_pages union t p sides (λ q page. IsReached t' q page) l
      (old_reached p l (page_at t p) (split_left union (page_at t p) sides s) refl (λ u. absurd (true_false (page_at t p).hung hung u)) (reached p l))
      (record {
        named = omega (arith, names_kept s, none_names t rank r s (omega arith), one-different s 0 (λ e. absurd (omega arith)));
        owed_by = omega (arith, owes_more s, none_owes t rank r s (omega arith), one-equal s s refl);
        settled = λ u. refl;
        linked_by = λ u. omega (arith, links_more s, none_links t rank r s (omega arith), one-equal s s refl);
        once = new_once;
      })
      (λ q k n. old_reached q k (page_at t q) (page_at t q) refl ((reached q k).settled) (reached q k))
      q (subst (λ n. q < n) (split-length union t p sides) k)
    where
      true_false : (b : Bool) → b ≡ true → b ≡ false → ⊥
      true_false b e f = cc
