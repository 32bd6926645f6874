-- What a scan has still to find stays, as a collection, through every step; and so does its stack.
use Rattle.std.proofs.Common.{◌≡◌, ◌<◌, ◌≤◌, ℕ, Bool, true, false, cond, ◌&&◌, List, [], ◌∷◌, ◌++◌, length, map, filter, Option, Some, None, ◌⊎◌, inl, inr, refl, sym, ap, ◌∙◌, arith}
use Rattle.std.specs.Prelude.{nat_eq, nat_le, nat_lt}
use Rattle.std.proofs.lemmas.Bool.{and_left, and_right, both_ways, eqb-true, le-ltb, lt-leb, lt-ltb, ltb-false}
use Rattle.std.proofs.lemmas.List.Elements.{All-weaker}
use Rattle.change_list.proofs.Tracking.{live_kept}
use Rattle.change_list.specs.Changes.{is_ended, status_of}
use Rattle.change_list.specs.declared.item.Row.{Row}
use Rattle.change_list.specs.declared.write.Status.TheVariants.{Live}
use Rattle.change_list.specs.declared.write.Write.{Write}
use Rattle.page_table.proofs.Lists.{All-every}
use Rattle.page_table.proofs.PageLists.{replaced-length}
use Rattle.page_table.proofs.RowChanges.{rows_kept}
use Rattle.page_table.proofs.Stacks.{stack_kept, stack_stays, sweep_kept}
use Rattle.page_table.proofs.Weights.{weigh-append, weigh-each, weigh-map}
use Rattle.page_table.specs.Keeping.{KeepsRows}
use Rattle.page_table.specs.Soundness.{IsSound}
use Rattle.page_table.specs.Stacks.{IsStack, StackItem, rows_left}
use Rattle.page_table.specs.Trees.{Tree, after_rows, page_at}
use Rattle.page_table.specs.Weights.{Same, weigh}
use Rattle.row_version.specs.Entries.{Entry, died_at, is_needed, lives_at, marked, visible_at}
use Rattle.scan.proofs.Commits.{ended_by}
use Rattle.scan.proofs.Seen.{seen_weight, unseen_weight, weigh_seen}
use Rattle.scan.specs.Agreement.{Agrees, IsDeath, IsEntryOf}
use Rattle.scan.specs.Scanning.{to_find}
use Rattle.search.specs.Live.{row_of}

pub rows_length : {K : Type 0} (t : Tree K) (p : ℕ) (rows : List (Entry K)) → length (after_rows t p rows).pages ≡ length t.pages
unfolding after_rows
rows_length t p rows = replaced-length t p _

pub rows_counter : {K : Type 0} (t : Tree K) (p : ℕ) (rows : List (Entry K)) → (after_rows t p rows).counter ≡ t.counter
unfolding after_rows
rows_counter t p rows = refl

-- a stack stays one through a step that moves entries
pub keeps_stack : {K : Type 0} (t t' : Tree K) (stack : List StackItem) → KeepsRows t t' → IsStack t stack → IsStack t' stack
keeps_stack t t' stack keeps exists = stack_stays t t' keeps.pages keeps.counter stack exists

-- and where a page's rows are written anew
pub rows_stack : {K : Type 0} (t : Tree K) (p : ℕ) (rows : List (Entry K)) (stack : List StackItem) → IsStack t stack → IsStack (after_rows t p rows) stack
rows_stack t p rows stack exists = stack_stays t (after_rows t p rows) (omega (arith, rows_length t p rows)) (omega (arith, rows_counter t p rows)) stack exists

module _ {K : Type 0} (wanted : K → Bool) (s : ℕ) (t : Tree K) (stack : List StackItem) where
  -- where what is seen weighs the same, the same is to be found
  find_kept : (t' : Tree K) → ((w : Row K → ℕ) → weigh (seen_weight w wanted s) (rows_left t' stack) ≡ weigh (seen_weight w wanted s) (rows_left t stack)) → Same (to_find wanted s t' stack) (to_find wanted s t stack)
  find_kept t' kept w = weigh_seen w wanted s (rows_left t' stack) ∙ kept w ∙ sym (weigh_seen w wanted s (rows_left t stack))

  -- a step that moves entries
  pub keeps_find : (t' : Tree K) → KeepsRows t t' → IsStack t stack → Same (to_find wanted s t' stack) (to_find wanted s t stack)
  keeps_find t' keeps exists = find_kept t' (λ w. stack_kept t t' (seen_weight w wanted s) (λ q m l k. keeps.under q m l k (seen_weight w wanted s)) stack exists)

  module _ (exists : IsStack t stack) (is_cover : K → K → Bool) (fan : ℕ) (sound : IsSound is_cover fan t) (p : ℕ) (l : p < length t.pages) where
    -- a page's rows written anew, with the same weight
    rows_find : (new : List (Entry K)) → ((w : Row K → ℕ) → weigh (seen_weight w wanted s) new ≡ weigh (seen_weight w wanted s) (page_at t p).rows) → Same (to_find wanted s (after_rows t p new) stack) (to_find wanted s t stack)
    rows_find new kept = find_kept (after_rows t p new)
        (λ w. stack_kept t (after_rows t p new) (seen_weight w wanted s) (λ q m k c. rows_kept t sound.rank sound.ranked p l new (seen_weight w wanted s) (kept w) q m k) stack exists)

    -- a row of a later commit is placed
    pub place_find : (entry : Entry K) → s < entry.row → Same (to_find wanted s (after_rows t p ((page_at t p).rows ++ entry ∷ [])) stack) (to_find wanted s t stack)
    place_find entry late = rows_find ((page_at t p).rows ++ entry ∷ [])
        (λ w.
        let a = weigh-append (seen_weight w wanted s) (page_at t p).rows (entry ∷ []) in
        let z = unseen_weight w wanted s entry (and_left (visible_at s entry) (wanted entry.key) (and_left (nat_le entry.row s) (lives_at s entry.died) (lt-leb entry.row s late))) in
        omega (arith, a, z))

    -- a later commit deletes a live row
    pub bury_find : (commits : List (Write K)) → Agrees t commits → (row n : ℕ) → s < n → status_of commits row ≡ Live → Same (to_find wanted s (after_rows t p (map (marked row n) (page_at t p).rows)) stack) (to_find wanted s t stack)
    bury_find commits agrees row n late live = rows_find (map (marked row n) (page_at t p).rows)
        (λ w.
        weigh-map (seen_weight w wanted s) (marked row n) (page_at t p).rows
        ∙ weigh-each (λ e. seen_weight w wanted s (marked row n e)) (seen_weight w wanted s) (page_at t p).rows
        (All-weaker (λ (e : Entry K). IsEntryOf commits e) (λ (e : Entry K). seen_weight w wanted s (marked row n e) ≡ seen_weight w wanted s e) (same w) (page_at t p).rows (agrees.entries p l)))
      where
        alive : is_ended commits row ≡ false
        alive = live_kept commits row live

        lives : (row' : ℕ) → row' ≡ row → (o : Option ℕ) → IsDeath commits row' o → nat_lt s n ≡ lives_at s o
        lives row' h None d = lt-ltb s n late
        lives row' h (Some m) d = absurd (both_ways (is_ended commits row) alive (ap (is_ended commits) (sym h) ∙ ended_by commits row' m d))

        same : (w : Row K → ℕ) (e : Entry K) → IsEntryOf commits e → seen_weight w wanted s (marked row n e) ≡ seen_weight w wanted s e
        same w e a = go (nat_eq e.row row) refl
          where
            go : (b : Bool) → nat_eq e.row row ≡ b → seen_weight w wanted s (cond b (died_at n e) e) ≡ seen_weight w wanted s e
            go true h = let f : Bool → ℕ = λ b. cond ((nat_le e.row s && b) && wanted e.key) (w (row_of e)) 0 in ap f (lives e.row (eqb-true e.row row h) e.died a.death)
            go false h = refl

    -- a sweep up to the horizon of the scans that are not over
    pub sweep_find : (horizon : ℕ) → (stack ≡ []) ⊎ (horizon ≤ s) → Same (to_find wanted s (after_rows t p (filter (is_needed horizon) (page_at t p).rows)) stack) (to_find wanted s t stack)
    sweep_find horizon under = find_kept swept kept
      where
        swept : Tree K
        swept = after_rows t p (filter (is_needed horizon) (page_at t p).rows)

        off : horizon ≤ s → (o : Option ℕ) → lives_at horizon o ≡ false → lives_at s o ≡ false
        off h None x = x
        off h (Some m) x = le-ltb s m (omega (arith, h, ltb-false horizon m x))

        kept : (w : Row K → ℕ) → weigh (seen_weight w wanted s) (rows_left swept stack) ≡ weigh (seen_weight w wanted s) (rows_left t stack)
        kept w = elim under [
          | inl e ↦ ap (λ x. weigh (seen_weight w wanted s) (rows_left swept x)) e ∙ ap (λ x. weigh (seen_weight w wanted s) (rows_left t x)) (sym e)
          | inr h ↦ stack_kept t swept (seen_weight w wanted s)
              (λ q m k c. sweep_kept t sound.rank sound.ranked p l (is_needed horizon) (seen_weight w wanted s)
              (All-every (λ (e : Entry K). is_needed horizon e ≡ false → seen_weight w wanted s e ≡ 0)
              (λ e x. unseen_weight w wanted s e (and_left (visible_at s e) (wanted e.key) (and_right (nat_le e.row s) (lives_at s e.died) (off h e.died x)))) (page_at t p).rows) q m k) stack exists
        ]
