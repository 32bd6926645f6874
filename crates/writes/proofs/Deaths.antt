-- What a change of one leaf's rows does to the weight of all rows, and to the dead.
use Rattle.std.proofs.Common.{◌≡◌, ◌+◌, ◌<◌, ◌≤◌, ℕ, Bool, false, List, [], ◌∷◌, length, map, Option, Some, None, cond, inl, inr, refl, sym, ap, ◌∙◌, arith, All}
use Rattle.std.specs.Prelude.{option_to_list, IsPermutation}
use Rattle.std.proofs.lemmas.Bool.{both_ways, eq-eqb, ne_eqb}
use Rattle.std.proofs.lemmas.List.Elements.{All-head, All-tail, All-weaker}
use Rattle.change_list.proofs.Tracking.{live_kept}
use Rattle.change_list.specs.Changes.{is_ended, status_of}
use Rattle.change_list.specs.declared.write.Status.TheVariants.{Live}
use Rattle.change_list.specs.declared.write.Write.{Write}
use Rattle.page_table.proofs.Arranged.{arranged}
use Rattle.page_table.proofs.Counting.{found_one, one-different, one-equal}
use Rattle.page_table.proofs.PageLists.{is_or_not}
use Rattle.page_table.proofs.RowChanges.{new_weight, rows_at, rows_off}
use Rattle.page_table.proofs.Under.{rows_under-weigh}
use Rattle.page_table.specs.Soundness.{IsSound}
use Rattle.page_table.specs.Trees.{Tree, after_rows, page_at, pages_under, rows_of_tree}
use Rattle.page_table.specs.Weights.{one_if_equal, weigh}
use Rattle.row_version.specs.Entries.{Entry, died_at, marked}
use Rattle.scan.specs.Agreement.{Agrees, IsDeath, IsEntryOf, is_row}
use Rattle.page_table.specs.LeafChanges.{after_bury}
use Rattle.scan.proofs.Commits.{ended_by}
use Rattle.world.proofs.Resting.{death_weight, same_pair, same_pair_exact, weigh_filter_map}
use Rattle.world.specs.Resting.{death, death_from, deaths}

-- weights that differ at one number
module _ (h h' : ℕ → ℕ) (p : ℕ) (off : (x : ℕ) → ((x ≡ p) → ⊥) → h' x ≡ h x) where
  weigh_elsewhere : (xs : List ℕ) → weigh (λ x. one_if_equal x p) xs ≡ 0 → weigh h' xs ≡ weigh h xs
  weigh_elsewhere [] none = refl
  weigh_elsewhere (x ∷ xs) none = elim (is_or_not x p) [
    | inl d ↦ absurd (omega (arith, one-equal x p d, none))
    | inr d ↦ omega (arith, off x d, weigh_elsewhere xs (omega (arith, none)))
  ]

  weigh_once : (xs : List ℕ) → weigh (λ x. one_if_equal x p) xs ≡ 1 → weigh h' xs + h p ≡ weigh h xs + h' p
  weigh_once [] once = absurd (omega arith)
  weigh_once (x ∷ xs) once = elim (is_or_not x p) [
    | inl d ↦ omega (arith, ap h d, ap h' d, weigh_elsewhere xs (omega (arith, once, one-equal x p d)))
    | inr d ↦ omega (arith, off x d, weigh_once xs (omega (arith, once, one-different x p d)))
  ]

module _ {K : Type 0} (is_cover : K → K → Bool) (t : Tree K) (fan : ℕ) (sound : IsSound is_cover fan t) (p : ℕ) (l : p < length t.pages) where
  -- the rows under the root with another leaf's rows in the place of one's
  pub rows_changed : (rows : List (Entry K)) (f : Entry K → ℕ) → weigh f (rows_of_tree (after_rows t p rows)) + weigh f (page_at t p).rows ≡ weigh f (rows_of_tree t) + weigh f rows
  unfolding after_rows
  rows_changed rows f =
      let new : weigh f (rows_of_tree (after_rows t p rows)) ≡ weigh h' (pages_under t 0 t.counter) = new_weight t sound.rank sound.ranked p l rows f 0 t.counter in
      let old : weigh f (rows_of_tree t) ≡ weigh h (pages_under t 0 t.counter) = rows_under-weigh t f 0 t.counter in
      let both : weigh h' (pages_under t 0 t.counter) + h p ≡ weigh h (pages_under t 0 t.counter) + h' p =
      weigh_once h h' p (λ x d. ap (weigh f) (rows_off t sound.rank sound.ranked p l rows x d)) (pages_under t 0 t.counter) ((sound.reached p l).once) in
      let here : h' p ≡ weigh f rows = ap (weigh f) (rows_at t sound.rank sound.ranked p l rows) in
      omega (arith, new, old, both, here)
    where
      h : ℕ → ℕ
      h x = weigh f (page_at t x).rows

      h' : ℕ → ℕ
      h' x = weigh f (page_at (after_rows t p rows) x).rows

module _ {K : Type 0} (f : ℕ × ℕ → ℕ) (row n : ℕ) where
  marked_other : (e : Entry K) → ((e.row ≡ row) → ⊥) → death_weight f (marked row n e) ≡ death_weight f e
  marked_other e d = ap (λ b. death_weight f (cond b (died_at n e) e)) (ne_eqb e.row row d)

  marked_it : (e : Entry K) → e.row ≡ row → death_weight f (marked row n e) ≡ f (row, n)
  marked_it e d =
      let a : death_weight f (marked row n e) ≡ f (e.row, n) + 0 = ap (λ b. death_weight f (cond b (died_at n e) e)) (eq-eqb e.row row d) in
      let b : f (e.row, n) ≡ f (row, n) = ap (λ r. f (r, n)) d in
      omega (arith, a, b)

  live_weight : (e : Entry K) → e.died ≡ None → death_weight f e ≡ 0
  live_weight e none = ap (λ o. weigh f (option_to_list (death_from e.row o))) none

  marked_elsewhere : (xs : List (Entry K)) → weigh (is_row row) xs ≡ 0 → weigh (death_weight f) (map (marked row n) xs) ≡ weigh (death_weight f) xs
  marked_elsewhere [] none = refl
  marked_elsewhere (x ∷ xs) none = elim (is_or_not x.row row) [
    | inl d ↦ absurd (omega (arith, one-equal x.row row d, none))
    | inr d ↦ omega (arith, marked_other x d, marked_elsewhere xs (omega (arith, none)))
  ]

  -- one live entry that is marked weighs what its death does
  marked_weight : (xs : List (Entry K)) → weigh (is_row row) xs ≡ 1 → All (λ e. e.row ≡ row → e.died ≡ None) xs → weigh (death_weight f) (map (marked row n) xs) ≡ weigh (death_weight f) xs + f (row, n)
  marked_weight [] once live = absurd (omega arith)
  marked_weight (x ∷ xs) once live = elim (is_or_not x.row row) [
    | inl d ↦ omega (arith, marked_it x d, live_weight x (All-head (λ (e : Entry K). e.row ≡ row → e.died ≡ None) x xs live d), marked_elsewhere xs (omega (arith, once, one-equal x.row row d)))
    | inr d ↦ omega (arith, marked_other x d, marked_weight xs (omega (arith, once, one-different x.row row d)) (All-tail (λ (e : Entry K). e.row ≡ row → e.died ≡ None) x xs live))
  ]

module _ {K : Type 0} (is_cover : K → K → Bool) (t : Tree K) (fan : ℕ) (sound : IsSound is_cover fan t) (commits : List (Write K)) (agrees : Agrees t commits) where
  -- the entry of a live row is alive
  alive_entry : (row : ℕ) → status_of commits row ≡ Live → (e : Entry K) → IsEntryOf commits e → e.row ≡ row → e.died ≡ None
  alive_entry row live e is same = go e.died is.death
    where
      alive : is_ended commits row ≡ false
      alive = live_kept commits row live

      go : (o : Option ℕ) → IsDeath commits e.row o → o ≡ None
      go None x = refl
      go (Some m) x = absurd (both_ways (is_ended commits row) alive (ap (is_ended commits) (sym same) ∙ ended_by commits e.row m x))

  -- a leaf whose live row is deleted: one row more is dead
  pub buried_deaths : (p row n : ℕ) → p < length t.pages → status_of commits row ≡ Live → 1 ≤ weigh (is_row row) (page_at t p).rows → IsPermutation ((row, n) ∷ deaths t) (deaths (after_bury t p row n))
  buried_deaths p row n l live there = arranged same_pair same_pair_exact ((row, n) ∷ deaths t) (deaths (after_bury t p row n)) (λ f.
      let before : weigh f (deaths t) ≡ weigh (death_weight f) (rows_of_tree t) = weigh_filter_map f death (rows_of_tree t) in
      let after : weigh f (deaths (after_bury t p row n)) ≡ weigh (death_weight f) (rows_of_tree (after_bury t p row n)) = weigh_filter_map f death (rows_of_tree (after_bury t p row n)) in
      omega (arith, before, after, rows_changed is_cover t fan sound p l (map (marked row n) (page_at t p).rows) (death_weight f), marked_weight f row n (page_at t p).rows once alive))
    where
      alive : All (λ (e : Entry K). e.row ≡ row → e.died ≡ None) (page_at t p).rows
      alive = All-weaker (λ (e : Entry K). IsEntryOf commits e) (λ (e : Entry K). e.row ≡ row → e.died ≡ None) (alive_entry row live) (page_at t p).rows (agrees.entries p l)

      once : weigh (is_row row) (page_at t p).rows ≡ 1
      once =
          let h : ℕ → ℕ = λ x. weigh (is_row row) (page_at t x).rows in
          let one : h p ≤ weigh h (pages_under t 0 t.counter) = found_one h p (pages_under t 0 t.counter) (omega (arith, (sound.reached p l).once)) in
          let sum : weigh (is_row row) (rows_of_tree t) ≡ weigh h (pages_under t 0 t.counter) = rows_under-weigh t (is_row row) 0 t.counter in
          omega (arith, one, sum, agrees.at_most_once row, there)
