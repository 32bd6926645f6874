-- A row that moves from one leaf to another, or within one.
use Rattle.std.proofs.Common.{◌≡◌, ◌≢◌, ℕ, ◌<◌, List, [], ◌∷◌, ◌++◌, length, map, cond, ap, sym, ◌∙◌}
use Rattle.std.proofs.lemmas.Bool.{ne_eqb}
use Rattle.std.proofs.lemmas.List.{map-append, set_comm, set-set, get_or-set_same, get_or-set_other}
use Rattle.row_version.specs.Entries.{Entry, marked, died_at}
use Rattle.node.specs.Pages.{Page}
use Rattle.node.specs.Changes.{with_row}
use Rattle.page_table.specs.Trees.{Tree, page_at, no_page, replaced, after_rows}
use Rattle.page_table.specs.LeafChanges.{after_move, with_dead}

module _ {K : Type 0} where
  -- the entry of another row stays as it is
  pub marked_other : (row n : ℕ) (e : Entry K) → e.row ≢ row → marked row n e ≡ e
  marked_other row n e d = ap (λ b. cond b (died_at n e) e) (ne_eqb e.row row d)

  -- a row may die before or after that of another number comes
  pub marked_around : (row n : ℕ) (es : List (Entry K)) (e : Entry K) → e.row ≢ row → map (marked row n) (es ++ e ∷ []) ≡ map (marked row n) es ++ e ∷ []
  marked_around row n es e d = map-append (marked row n) es (e ∷ []) ∙ ap (λ x. map (marked row n) es ++ x ∷ []) (marked_other row n e d)

  -- within one leaf
  moved_there : (t : Tree K) (p row n : ℕ) (e : Entry K) → p < length t.pages → after_move t p row n p e ≡ replaced t p (with_row (with_dead (page_at t p) row n) e)
  unfolding after_rows
  moved_there t p row n e l =
      let dead : Page K = with_dead (page_at t p) row n in
      let back : List (Page K) → Tree K = λ pages. record { pages = pages; counter = t.counter } in
      ap (λ page. replaced (replaced t p dead) p (with_row page e)) (get_or-set_same t.pages p dead no_page l) ∙ ap back (set-set t.pages p dead (with_row dead e))

  pub moved_within : (t : Tree K) (p q row n : ℕ) (e : Entry K) (x y : Page K) → p < length t.pages → p ≡ q → x ≡ page_at t p → y ≡ with_row (with_dead x row n) e → replaced t p y ≡ after_move t p row n q e
  moved_within t p q row n e x y l pq ex ey =
      ap (λ page. replaced t p page) (ey ∙ ap (λ page. with_row (with_dead page row n) e) ex)
      ∙ sym (moved_there t p row n e l)
      ∙ ap (λ to. after_move t p row n to e) pq

  -- from one leaf to another
  pub moved_apart : (t : Tree K) (p q row n : ℕ) (e : Entry K) → p ≢ q → after_move t p row n q e ≡ replaced (replaced t q (with_row (page_at t q) e)) p (with_dead (page_at t p) row n)
  unfolding after_rows
  moved_apart t p q row n e d =
      let back : List (Page K) → Tree K = λ pages. record { pages = pages; counter = t.counter } in
      let dead : Page K = with_dead (page_at t p) row n in
      ap (λ page. replaced (replaced t p dead) q (with_row page e)) (get_or-set_other t.pages p q dead no_page (λ e. d (sym e)))
      ∙ ap back (set_comm t.pages p q dead (with_row (page_at t q) e) d)
