-- One visit of a finder.
use Rattle.std.proofs.Common.{◌≡◌, ◌+◌, ◌≤◌, ℕ, Bool, true, false, cond, ◌||◌, List, [], ◌∷◌, refl, sym, arith, subst}
use Rattle.std.specs.Prelude.{nat_eq}
use Rattle.page_table.specs.Stacks.{StackItem}
use Rattle.page_table.specs.Trees.{Tree, page_at}
use Rattle.page_table.specs.Weights.{weigh}
use Rattle.row_version.specs.Entries.{Entry}
use Rattle.scan.specs.Agreement.{is_row}
use Rattle.scan.specs.Finding.{FindsHere, SeeksFurther, holds}
use Rattle.scan.specs.Scanning.{GoesOn, IsNext}

module _ {K : Type 0} where
  -- a page holds a row where its entries of the row weigh
  pub holds_weigh : (row : ℕ) (entries : List (Entry K)) → holds row entries ≡ true → 1 ≤ weigh (is_row row) entries
  holds_weigh row [] h = absurd (cc)
  holds_weigh row (e ∷ entries) h = go (nat_eq e.row row) h (holds_weigh row entries)
    where
      go : (b : Bool) → (b || holds row entries) ≡ true → (holds row entries ≡ true → 1 ≤ weigh (is_row row) entries) → 1 ≤ cond b 1 0 + weigh (is_row row) entries
      go true k rest = omega arith
      go false k rest = omega (arith, rest k)

  pub lacks_weigh : (row : ℕ) (entries : List (Entry K)) → holds row entries ≡ false → weigh (is_row row) entries ≡ 0
  lacks_weigh row [] h = refl
  lacks_weigh row (e ∷ entries) h = go (nat_eq e.row row) h (lacks_weigh row entries)
    where
      go : (b : Bool) → (b || holds row entries) ≡ false → (holds row entries ≡ false → weigh (is_row row) entries ≡ 0) → cond b 1 0 + weigh (is_row row) entries ≡ 0
      go true k rest = absurd (cc)
      go false k rest = omega (arith, rest k)

  pub finds_here : (row : ℕ) (t : Tree K) (old : List StackItem) (item : StackItem) (page : ℕ) → IsNext old item → page ≡ item.page → holds row (page_at t item.page).rows ≡ true → FindsHere row t old page old
  finds_here row t old item page next e h = subst (λ p. FindsHere row t old p old) (sym e) (record {
    rest = next.rest;
    memo = item.memo;
    last = next.is;
    there = holds_weigh row (page_at t item.page).rows h;
    unchanged = refl;
  })

  pub seeks_further : (covering : K → Bool) (row : ℕ) (t : Tree K) (old : List StackItem) (item : StackItem) (page : ℕ) (new : List StackItem)
      → GoesOn covering t old item new → page ≡ item.page → holds row (page_at t item.page).rows ≡ false → SeeksFurther covering row t old page new
  seeks_further covering row t old item page new on e h = subst (λ p. SeeksFurther covering row t old p new) (sym e) (record {
    memo = item.memo;
    goes_on = on;
    lacks = lacks_weigh row (page_at t item.page).rows h;
  })
