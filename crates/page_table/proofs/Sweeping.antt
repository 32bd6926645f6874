-- A sweep that takes nothing out.
use Rattle.std.proofs.Common.{◌≡◌, ℕ, Bool, true, false, List, [], ◌∷◌, refl, sym, ap, ◌∙◌}
use Rattle.std.specs.Prelude.{not, filter}
use Rattle.std.specs.List.{list_any}
use Rattle.std.proofs.lemmas.List.{set-get_or}
use Rattle.row_version.specs.Entries.{Entry, is_needed}
use Rattle.node.specs.Pages.{Page, has_unneeded}
use Rattle.page_table.specs.Trees.{Tree, page_at, no_page, after_rows}

module _ {K : Type 0} (horizon : ℕ) where
  -- where no row is unneeded, the needed rows are all
  pub all_needed : (es : List (Entry K)) → list_any (λ e. not (is_needed horizon e)) es ≡ false → filter (is_needed horizon) es ≡ es
  all_needed [] none = refl
  all_needed (e ∷ es) none = first (is_needed horizon e) refl (λ rest. all_needed es rest)
    where
      first : (b : Bool) → is_needed horizon e ≡ b → (list_any (λ x. not (is_needed horizon x)) es ≡ false → filter (is_needed horizon) es ≡ es) → filter (is_needed horizon) (e ∷ es) ≡ e ∷ es
      first true is rest = rw is (ap (λ l. e ∷ l) (rest (rw is at none)))
      first false is rest = let bad : true ≡ false = rw is at none in absurd (cc)

  pub nothing_swept : (t : Tree K) (leaf : ℕ) → has_unneeded horizon (page_at t leaf) ≡ false → t ≡ after_rows t leaf (filter (is_needed horizon) (page_at t leaf).rows)
  unfolding after_rows
  nothing_swept t leaf none =
      let back : List (Page K) → Tree K = λ pages. record { pages = pages; counter = t.counter } in
      sym (ap (λ rows. after_rows t leaf rows) (all_needed (page_at t leaf).rows none) ∙ ap back (set-get_or t.pages leaf no_page))
