-- In a sound tree a posting needs only that an entry of p names c and c is owed.
use Rattle.std.proofs.Common.{ℕ, ◌<◌, ◌≤◌, ◌≡◌, [], length, option_to_list, All, refl, arith, sym, subst, cond, Bool, true, false, Some, None, Option}
use Rattle.std.proofs.lemmas.List.Elements.{All-head, All-nil, All-cons}
use Rattle.node.specs.Pages.{Page}
use Rattle.node.specs.declared.branch.Branch.{Branch}
use Rattle.page_table.proofs.Counting.{false_true, named-All, named_branch, not_named}
use Rattle.page_table.proofs.Facts.{hung_from, sibling_settled}
use Rattle.page_table.proofs.Weights.{weigh-at, weigh-at_two}
use Rattle.page_table.specs.Soundness.{BoundsBelow, IsBelow, IsSound}
use Rattle.page_table.specs.Trees.{Falls, Tree, naming, no_page, page_at}
use Rattle.page_table.specs.Weights.{weigh}
use Rattle.split.specs.Steps.{CanPost}

pub below_some : {K : Type 0} (is_cover : K → K → Bool) (key : K) (o : Option K) → IsBelow is_cover key o → (k : K) × (o ≡ Some k)
below_some is_cover key None b = absurd b
below_some is_cover key (Some k) b = (k, refl)

module _ {K : Type 0} (is_cover : K → K → Bool) (t : Tree K) (fan : ℕ) (sound : IsSound is_cover fan t) (p c s : ℕ)
    (lp : p < length t.pages) (names : 0 < naming c (page_at t p).branches) (owed : (page_at t c).owed ≡ true) (sibling : (page_at t c).right ≡ Some s) where
  child_falls : Falls (length t.pages) sound.rank p c
  child_falls = named-All (λ x. Falls (length t.pages) sound.rank p x) c (page_at t p).branches names ((sound.ranked.links p lp).down)

  -- how often c is named in all
  total : weigh (λ page. naming c page.branches) t.pages ≤ 1
  total = omega (arith, (sound.reached c child_falls.0).named, one_at_most (page_at t c).hung)
    where
      one_at_most : (b : Bool) → cond b 1 0 ≤ 1
      one_at_most true = omega arith
      one_at_most false = omega arith

  hung : (page_at t c).hung ≡ true
  hung = hung_from (page_at t c).hung (omega (arith, (sound.reached c child_falls.0).named, weigh-at (λ (page : Page K). naming c page.branches) t.pages p no_page lp))

  pub can_post : CanPost t p c s
  can_post = record {
    parent_exists = lp;
    child_exists = child_falls.0;
    child_owed = owed;
    sibling = sibling;
    sibling_bound =
        (let w = named_branch (λ (b : Branch K). BoundsBelow is_cover t b) c (page_at t p).branches names ((sound.bounded p lp).below) in
        let o : (page_at t w.0.child).owed ≡ true = subst (λ x. (page_at t x).owed ≡ true) (sym w.1) owed in
        let f : (page_at t w.0.child).right ≡ Some s = subst (λ x. (page_at t x).right ≡ Some s) (sym w.1) sibling in
        below_some is_cover w.0.key (page_at t s).cover (All-head (λ r. IsBelow is_cover w.0.key (page_at t r).cover) s [] (subst (λ x. All (λ r. IsBelow is_cover w.0.key (page_at t r).cover) (option_to_list x)) f (w.2.sibling o))));
    once = omega (arith, total, names, weigh-at (λ (page : Page K). naming c page.branches) t.pages p no_page lp);
    nowhere_else = λ q l n. not_named c (page_at t q).branches (omega (arith, total, names, weigh-at_two (λ (page : Page K). naming c page.branches) t.pages q p no_page l lp n));
    no_other_owes = λ q l e. go q l e (page_at t q).right refl;
    numbers = λ q l. (sound.shape q l).number;
  }
    where
      go : (q : ℕ) → q < length t.pages → (page_at t q).owed ≡ true → (o : Option ℕ) → (page_at t q).right ≡ o → All (λ r. (r ≡ c) → ⊥) (option_to_list o)
      go q l e None f = All-nil (λ r. (r ≡ c) → ⊥)
      go q l e (Some r) f = All-cons (λ r. (r ≡ c) → ⊥) r [] (λ g. false_true (page_at t r).hung ((sibling_settled is_cover t fan sound q r l e f).1) (subst (λ x. (page_at t x).hung ≡ true) (sym g) hung)) (All-nil (λ r. (r ≡ c) → ⊥))
