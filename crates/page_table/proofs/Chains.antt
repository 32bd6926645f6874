-- The rows under (p, m) by the chain: each page of it gives its rows and what is under its branches with the counter.
use Rattle.std.proofs.Common.{ℕ, zero, suc, ◌+◌, ◌<◌, ◌≡◌, ◌∷◌, ◌++◌, length, flat_map, ap, arith, sym, ◌∙◌}
use Rattle.std.proofs.lemmas.List.Elements.{All-weaker}
use Rattle.node.specs.Pages.{followed}
use Rattle.node.specs.declared.branch.Branch.{Branch}
use Rattle.page_table.proofs.Under.{All-followed, rows_under-weigh, under_induction, weight_is}
use Rattle.page_table.proofs.Weights.{flat_map-each, weigh-append, weigh-each, weigh-flat_map}
use Rattle.page_table.specs.Trees.{Falls, IsRanked, Tree, chain, chain_within, page_at, pages_under, rows_under}
use Rattle.page_table.specs.Weights.{Same, weigh}
use Rattle.row_version.specs.Entries.{Entry}

module _ {K : Type 0} (t : Tree K) (rank : ℕ → ℕ) (r : IsRanked t rank) where
  chain_same : (n k p m : ℕ) → p < length t.pages → rank p < n → rank p < k → chain_within n t p m ≡ chain_within k t p m
  unfolding chain_within
  chain_same zero k p m h a b = absurd (omega arith)
  chain_same (suc n) zero p m h a b = absurd (omega arith)
  chain_same (suc n) (suc k) p m h a b = ap (λ xs. p ∷ xs)
      (flat_map-each _ _ (followed (page_at t p) m)
      (All-weaker (λ (q : ℕ). Falls (length t.pages) rank p q) _ (λ q (w : Falls (length t.pages) rank p q). chain_same n k q m w.0 (omega arith) (omega arith)) _
      (All-followed (λ (q : ℕ). Falls (length t.pages) rank p q) (page_at t p) m ((r.links p h).along))))

  pub chain_is : (p m : ℕ) → p < length t.pages → chain t p m ≡ p ∷ flat_map (λ x. chain t x m) (followed (page_at t p) m)
  unfolding chain chain_within
  chain_is p m h = chain_same (length t.pages) (suc (length t.pages)) p m h (r.bounded p h) (omega (arith, r.bounded p h))

  abbrev U : (ℕ → ℕ) → ℕ → ℕ → ℕ
  U h q m = weigh h (pages_under t q m)

  pub under_by_chain : (h : ℕ → ℕ) (p m : ℕ) → p < length t.pages → U h p m ≡ weigh (λ q. h q + weigh (λ b. U h b.child t.counter) (page_at t q).branches) (chain t p m)
  under_by_chain h = under_induction t rank r (λ p m. U h p m ≡ weigh (λ q. h q + weigh (λ b. U h b.child t.counter) (page_at t q).branches) (chain t p m))
      (λ p m l below right.
      let g : ℕ → ℕ = λ q. h q + weigh (λ b. U h b.child t.counter) (page_at t q).branches in
      let e1 : U h p m ≡ h p + (weigh (λ b. U h b.child t.counter) (page_at t p).branches + weigh (λ x. U h x m) (followed (page_at t p) m)) = weight_is t rank r h p m l in
      let e2 : weigh (λ x. U h x m) (followed (page_at t p) m) ≡ weigh (λ x. weigh g (chain t x m)) (followed (page_at t p) m) = weigh-each (λ x. U h x m) (λ x. weigh g (chain t x m)) (followed (page_at t p) m) right in
      let e3 : weigh g (chain t p m) ≡ g p + weigh g (flat_map (λ x. chain t x m) (followed (page_at t p) m)) = ap (weigh g) (chain_is p m l) in
      let e4 : weigh g (flat_map (λ x. chain t x m) (followed (page_at t p) m)) ≡ weigh (λ x. weigh g (chain t x m)) (followed (page_at t p) m) = weigh-flat_map g (λ x. chain t x m) (followed (page_at t p) m) in
      omega (arith, e1, e2, e3, e4))

  one_page : (f : Entry K → ℕ) (q : ℕ) → weigh f ((page_at t q).rows ++ flat_map (λ b. rows_under t b.child t.counter) (page_at t q).branches)
      ≡ weigh f (page_at t q).rows + weigh (λ b. U (λ x. weigh f (page_at t x).rows) b.child t.counter) (page_at t q).branches
  one_page f q =
      weigh-append f (page_at t q).rows (flat_map (λ b. rows_under t b.child t.counter) (page_at t q).branches)
      ∙ ap (λ n. weigh f (page_at t q).rows + n)
      (weigh-flat_map f (λ (b : Branch K). rows_under t b.child t.counter) (page_at t q).branches
      ∙ weigh-each (λ b. weigh f (rows_under t b.child t.counter)) (λ b. U (λ x. weigh f (page_at t x).rows) b.child t.counter) (page_at t q).branches (λ j e z. rows_under-weigh t f _ t.counter))

  -- the definition of the rows under (p, m), read off the chain
  pub rows_by_chain : (p m : ℕ) → p < length t.pages →
      Same (rows_under t p m) (flat_map (λ q. (page_at t q).rows ++ flat_map (λ b. rows_under t b.child t.counter) (page_at t q).branches) (chain t p m))
  rows_by_chain p m l f =
      rows_under-weigh t f p m
      ∙ under_by_chain (λ x. weigh f (page_at t x).rows) p m l
      ∙ sym (weigh-flat_map f (λ q. (page_at t q).rows ++ flat_map (λ b. rows_under t b.child t.counter) (page_at t q).branches) (chain t p m)
      ∙ weigh-each (λ q. weigh f ((page_at t q).rows ++ flat_map (λ b. rows_under t b.child t.counter) (page_at t q).branches))
      (λ q. weigh f (page_at t q).rows + weigh (λ b. U (λ x. weigh f (page_at t x).rows) b.child t.counter) (page_at t q).branches) (chain t p m) (λ i d k. one_page f _))

  one_chain_page : (h : ℕ → ℕ) (q : ℕ) → weigh h (q ∷ flat_map (λ b. pages_under t b.child t.counter) (page_at t q).branches) ≡ h q + weigh (λ b. U h b.child t.counter) (page_at t q).branches
  one_chain_page h q = ap (λ n. h q + n) (weigh-flat_map h (λ (b : Branch K). pages_under t b.child t.counter) (page_at t q).branches)

  -- the pages met, read off the chain
  pub pages_by_chain : (p m : ℕ) → p < length t.pages →
      Same (pages_under t p m) (flat_map (λ q. q ∷ flat_map (λ b. pages_under t b.child t.counter) (page_at t q).branches) (chain t p m))
  pages_by_chain p m l h =
      under_by_chain h p m l
      ∙ sym (weigh-flat_map h (λ q. q ∷ flat_map (λ b. pages_under t b.child t.counter) (page_at t q).branches) (chain t p m)
      ∙ weigh-each (λ q. weigh h (q ∷ flat_map (λ b. pages_under t b.child t.counter) (page_at t q).branches)) (λ q. h q + weigh (λ b. U h b.child t.counter) (page_at t q).branches) (chain t p m)
      (λ i d k. one_chain_page h _))
