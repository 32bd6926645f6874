-- What follows from soundness about a page's links.
use Rattle.std.proofs.Common.{ℕ, ◌<◌, ◌≤◌, ◌≡◌, [], length, option_to_list, All, refl, ap₂, arith, ◌∙◌, subst, cond, Bool, true, false, Some, None, Option}
use Rattle.std.proofs.lemmas.List.Elements.{All-head, All-nil, All-cons}
use Rattle.page_table.proofs.Counting.{one-equal}
use Rattle.page_table.proofs.Weights.{weigh-at, weigh_one}
use Rattle.page_table.specs.Soundness.{IsReached, IsSound}
use Rattle.page_table.specs.Trees.{Falls, Tree, no_page, owing, page_at}
use Rattle.page_table.specs.Weights.{one_if_equal, weigh}

pub unhung_from : (b : Bool) → 1 ≤ cond b 0 1 → b ≡ false
unhung_from true h = absurd (omega arith)
unhung_from false h = refl

pub hung_from : (b : Bool) → 1 ≤ cond b 1 0 → b ≡ true
hung_from true h = refl
hung_from false h = absurd (omega arith)

module _ {K : Type 0} (is_cover : K → K → Bool) (t : Tree K) (fan : ℕ) (sound : IsSound is_cover fan t) where
  -- the right sibling of an owed page is unhung and not owed
  abbrev pub Settled : ℕ → Type 0
  Settled r = (r < length t.pages) × ((page_at t r).hung ≡ false) × ((page_at t r).owed ≡ false)

  pub owing-is : (p r : ℕ) → (page_at t p).owed ≡ true → (page_at t p).right ≡ Some r → owing r (page_at t p) ≡ 1
  owing-is p r e f = ap₂ (λ o x. cond o (weigh (λ y. one_if_equal y r) (option_to_list x)) 0) e f ∙ weigh_one (λ y. one_if_equal y r) r ∙ one-equal r r refl

  pub sibling_settled : (p r : ℕ) → p < length t.pages → (page_at t p).owed ≡ true → (page_at t p).right ≡ Some r → Settled r
  sibling_settled p r l e f =
      let falls : Falls (length t.pages) sound.rank p r = All-head (λ x. Falls (length t.pages) sound.rank p x) r [] (subst (λ o. All (λ x. Falls (length t.pages) sound.rank p x) (option_to_list o)) f ((sound.ranked.links p l).along)) in
      let reached : IsReached t r (page_at t r) = sound.reached r falls.0 in
      let one : owing r (page_at t p) ≡ 1 = owing-is p r e f in
      let below : owing r (page_at t p) ≤ weigh (λ x. owing r x) t.pages = weigh-at (λ x. owing r x) t.pages p no_page l in
      let unhung : (page_at t r).hung ≡ false = unhung_from (page_at t r).hung (omega (arith, one, below, reached.owed_by)) in
      (falls.0, unhung, reached.settled unhung)

  pub siblings_settled : (p : ℕ) → p < length t.pages → (page_at t p).owed ≡ true → All (λ r. Settled r) (option_to_list (page_at t p).right)
  siblings_settled p l e = go (page_at t p).right refl
    where
      go : (o : Option ℕ) → (page_at t p).right ≡ o → All (λ r. Settled r) (option_to_list o)
      go None f = All-nil (λ r. Settled r)
      go (Some r) f = All-cons (λ r. Settled r) r [] (sibling_settled p r l e f) (All-nil (λ r. Settled r))
