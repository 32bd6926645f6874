-- After an enlargement the way down may go on at the child.
use Rattle.std.proofs.Common.{◌≡◌, ◌<◌, ℕ, Bool, true, Option, Some, None, length, refl, sym, ◌∙◌, ap, arith, subst}
use Rattle.std.proofs.lemmas.List.{get_or-set_other, get_or-set_same}
use Rattle.node.specs.Changes.{enlarge_child, enlarge_parent, wider}
use Rattle.node.specs.Pages.{Page, entries_of, is_within}
use Rattle.page_table.proofs.PageLists.{replaced-length}
use Rattle.page_table.specs.Trees.{Tree, no_page, page_at, replaced}
use Rattle.split.specs.SearchTrees.{SearchTree, with_tree}
use Rattle.split.specs.Steps.{after_enlarge}
use Rattle.descent.specs.NextSteps.{HasRoom, IsOpenBelow}

module _ {K : Type 0} (union : K → K → K) (key : K) where
  pub enlarged_child : (t : Tree K) (p c : ℕ) → c < length t.pages → ((c ≡ p) → ⊥) → page_at (after_enlarge union t p c key) c ≡ enlarge_child union key (page_at t c)
  unfolding after_enlarge
  enlarged_child t p c l apart =
      get_or-set_other (replaced t c (enlarge_child union key (page_at t c))).pages p c (enlarge_parent union c key (page_at t p)) no_page apart
      ∙ get_or-set_same t.pages c (enlarge_child union key (page_at t c)) no_page l

  pub enlarged_length : (t : Tree K) (p c : ℕ) → length (after_enlarge union t p c key).pages ≡ length t.pages
  unfolding after_enlarge
  enlarged_length t p c =
      replaced-length (replaced t c (enlarge_child union key (page_at t c))) p (enlarge_parent union c key (page_at t p)) ∙ replaced-length t c (enlarge_child union key (page_at t c))

  within_wider : (is_cover : K → K → Bool) → ((a b : K) → is_cover (union a b) b ≡ true) → (bound : Option K) → is_within is_cover (wider union bound key) key ≡ true
  within_wider is_cover right None = refl
  within_wider is_cover right (Some bound) = right bound key

  -- the child exists, has room and covers the key
  pub goes_on_below : (is_cover : K → K → Bool) → ((a b : K) → is_cover (union a b) b ≡ true) → (s : SearchTree K) (p c : ℕ) → IsOpenBelow s p c
      → (c < length (after_enlarge union s.tree p c key).pages) × HasRoom (with_tree s (after_enlarge union s.tree p c key)) c × (is_within is_cover (page_at (after_enlarge union s.tree p c key) c).cover key ≡ true)
  goes_on_below is_cover right s p c below =
      let here = enlarged_child s.tree p c below.exists (λ e. apart (ap (λ q. (page_at s.tree q).level) e)) in (
        omega (arith, below.exists, enlarged_length s.tree p c),
        subst (λ (page : Page K). entries_of page < s.fan) (sym here) below.room,
        subst (λ (page : Page K). is_within is_cover page.cover key ≡ true) (sym here) (within_wider is_cover right (page_at s.tree c).cover),
      )
    where
      apart : (page_at s.tree c).level ≡ (page_at s.tree p).level → ⊥
      apart e = omega (arith, e, below.level)
