-- A finder that begins at a page which holds its row.
use Rattle.std.proofs.Common.{◌≡◌, ◌<◌, ◌≤◌, ◌⊎◌, inl, inr, ℕ, Bool, true, List, [], ◌∷◌, length, refl, ◌∙◌, arith, subst, All}
use Rattle.std.proofs.lemmas.List.Elements.{All-cons, All-head, All-nil, All-tail}
use Rattle.change_list.specs.Changes.{HasKey, status_of}
use Rattle.change_list.specs.declared.write.Status.TheVariants.{Live}
use Rattle.change_list.specs.declared.write.Write.{Write}
use Rattle.node.specs.Pages.{followed}
use Rattle.page_table.proofs.Counting.{one-different}
use Rattle.page_table.proofs.PageLists.{is_or_not}
use Rattle.page_table.proofs.Stacks.{left_one}
use Rattle.page_table.proofs.Under.{rows_under-weigh, under_induction, weight_is}
use Rattle.page_table.specs.Soundness.{IsSound}
use Rattle.page_table.specs.Stacks.{StackItem}
use Rattle.page_table.specs.Trees.{Tree, page_at, pages_under, rows_of_tree, rows_under}
use Rattle.page_table.specs.Weights.{one_if_equal, weigh}
use Rattle.scan.proofs.Seeking.{holds_weigh}
use Rattle.scan.specs.Agreement.{Agrees, is_row}
use Rattle.scan.specs.Finding.{holds, stack_at}
use Rattle.descent.specs.Finders.{IsSeeking, begun_finder}

none_or_some : (n : ℕ) → (n ≡ 0) ⊎ (1 ≤ n)
none_or_some n = search arith

-- where one that is found weighs so much, all do
module _ {X : Type 0} (found weight : X → ℕ) (least : ℕ) where
  weighs_enough : (xs : List X) → All (λ x. 1 ≤ found x → least ≤ weight x) xs → 1 ≤ weigh found xs → least ≤ weigh weight xs
  weighs_enough [] each some = absurd (omega (arith, some))
  weighs_enough (x ∷ xs) each some = elim (none_or_some (found x)) [
    | inl none ↦ omega (arith, weighs_enough xs (All-tail (λ x. 1 ≤ found x → least ≤ weight x) x xs each) (omega (arith, some, none)))
    | inr one ↦ omega (arith, All-head (λ x. 1 ≤ found x → least ≤ weight x) x xs each one)
  ]

module _ {K : Type 0} (is_cover : K → K → Bool) (fan : ℕ) (t : Tree K) (sound : IsSound is_cover fan t) (p : ℕ) (l : p < length t.pages) where
  -- a traversal that meets the page meets all that is under it
  Includes : (ℕ → ℕ) → ℕ → ℕ → Type 0
  Includes weight q m = m ≡ t.counter → 1 ≤ weigh (λ x. one_if_equal x p) (pages_under t q m) → weigh weight (pages_under t p t.counter) ≤ weigh weight (pages_under t q m)

  includes : (weight : ℕ → ℕ) (q m : ℕ) → q < length t.pages → Includes weight q m
  unfolding Includes
  includes weight = under_induction t sound.rank sound.ranked (Includes weight) (λ q m k below right now met.
      let all = weight_is t sound.rank sound.ranked weight q m k in
      let parts = weight_is t sound.rank sound.ranked (λ x. one_if_equal x p) q m k in
      elim (is_or_not q p) [
        | inl same ↦ subst (λ n. weigh weight (pages_under t p n) ≤ weigh weight (pages_under t q m)) now (subst (λ x. weigh weight (pages_under t x m) ≤ weigh weight (pages_under t q m)) same (omega arith))
        | inr other ↦ elim (none_or_some (weigh (λ b. weigh (λ x. one_if_equal x p) (pages_under t b.child t.counter)) (page_at t q).branches)) [
          | inr down ↦ omega (
            arith,
            all,
            weighs_enough (λ b. weigh (λ x. one_if_equal x p) (pages_under t b.child t.counter)) (λ b. weigh weight (pages_under t b.child t.counter)) (weigh weight (pages_under t p t.counter)) (page_at t q).branches
                (λ i d h. below i d h refl) down,
          )
          | inl none ↦ omega (
            arith,
            all,
            weighs_enough (λ r. weigh (λ x. one_if_equal x p) (pages_under t r m)) (λ r. weigh weight (pages_under t r m)) (weigh weight (pages_under t p t.counter)) (followed (page_at t q) m)
                (λ i d h. right i d h now) (omega (arith, met, parts, one-different q p other, none)),
          )
        ]
      ])

  module _ (commits : List (Write K)) (agrees : Agrees t commits) (row : ℕ) (there : holds row (page_at t p).rows ≡ true) where
    once_under : status_of commits row ≡ Live → weigh (is_row row) (rows_under t p t.counter) ≡ 1
    unfolding Includes
    once_under live =
        let weight : ℕ → ℕ = λ x. weigh (is_row row) (page_at t x).rows in
        let here : 1 ≤ weight p = holds_weigh row (page_at t p).rows there in
        let whole : weigh (is_row row) (rows_of_tree t) ≡ 1 = agrees.live_once row live in
        let under = rows_under-weigh t (is_row row) p t.counter in
        let root = rows_under-weigh t (is_row row) 0 t.counter in
        let less = includes weight 0 t.counter sound.root_exists refl (omega (arith, (sound.reached p l).once)) in
        let own = weight_is t sound.rank sound.ranked weight p t.counter l in
        omega (arith, here, whole, under, root, less, own)

    -- the finder of a row begins at a page that holds it
    pub seeking_at : (serial : ℕ) (key : K) → HasKey commits row key → IsSeeking t commits (begun_finder serial row key p t.counter)
    seeking_at serial key made = record {
      stack = exists;
      made = made;
      there = λ live. record { exists = exists; there = left_one t (is_row row) (record { page = p; memo = t.counter }) ∙ once_under live };
    }
      where
        exists : All (λ i. (i.page < length t.pages) × (i.memo ≤ t.counter)) (stack_at p t.counter)
        exists = All-cons (λ (i : StackItem). (i.page < length t.pages) × (i.memo ≤ t.counter)) (record { page = p; memo = t.counter }) [] (l, omega arith) (All-nil (λ (i : StackItem). (i.page < length t.pages) × (i.memo ≤ t.counter)))
