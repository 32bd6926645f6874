-- What holds of each page after one is added or replaced.
use Rattle.std.proofs.Common.{ℕ, suc, ◌<◌, ◌≡◌, [], ◌∷◌, length, arith, sym, subst, ◌⊎◌, inl, inr}
use Rattle.std.proofs.lemmas.List.{length-append, get_or-set_same, get_or-set_other}
use Rattle.std.proofs.Math.ListN.{get_or-append, length-set}
use Rattle.std.proofs.Math.Seq.{get_or-append_seam}
use Rattle.node.specs.Pages.{Page}
pub use Rattle.page_table.specs.PlaceLaws.{is_or_not}
use Rattle.page_table.specs.Trees.{Tree, added, no_page, page_at, replaced}

-- every number below n + 1 is n or below n
pub below_or_last : (q n : ℕ) → q < suc n → (q < n) ⊎ (q ≡ n)
below_or_last q n h = grind arith

-- a page of a tree with one more
pub added_pages : {K : Type 0} (t : Tree K) (page : Page K) (P : ℕ → Page K → Type 0) →
    P (length t.pages) page → ((q : ℕ) → q < length t.pages → P q (page_at t q)) →
    (q : ℕ) → q < length (added t page).pages → P q (page_at (added t page) q)
added_pages t page P last old q h = elim (below_or_last q (length t.pages) (omega (arith, length-append t.pages (page ∷ [])))) [
  | inl l ↦ subst (λ x. P q x) (sym (get_or-append t.pages (page ∷ []) no_page q l)) (old q l)
  | inr e ↦ subst (λ x. P x (page_at (added t page) x)) (sym e) (subst (λ x. P (length t.pages) x) (sym (get_or-append_seam t.pages page [] no_page)) last)
]

pub replaced_pages : {K : Type 0} (t : Tree K) (p : ℕ) (page : Page K) (P : ℕ → Page K → Type 0) → p < length t.pages →
    P p page → ((q : ℕ) → q < length t.pages → ((q ≡ p) → ⊥) → P q (page_at t q)) →
    (q : ℕ) → q < length t.pages → P q (page_at (replaced t p page) q)
replaced_pages t p page P l here other q h = elim (is_or_not q p) [
  | inl e ↦ subst (λ x. P x (page_at (replaced t p page) x)) (sym e) (subst (λ x. P p x) (sym (get_or-set_same t.pages p page no_page l)) here)
  | inr n ↦ subst (λ x. P q x) (sym (get_or-set_other t.pages p q page no_page n)) (other q h n)
]

pub replaced-length : {K : Type 0} (t : Tree K) (p : ℕ) (page : Page K) → length (replaced t p page).pages ≡ length t.pages
replaced-length t p page = length-set t.pages p page

pub added-length : {K : Type 0} (t : Tree K) (page : Page K) → length (added t page).pages ≡ suc (length t.pages)
added-length t page = omega (arith, length-append t.pages (page ∷ []))
