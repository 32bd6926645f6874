-- The entries of a tree stay those of the commits through every step.
use Rattle.std.proofs.Common.{◌≡◌, ◌+◌, ◌<◌, ◌≤◌, ℕ, zero, suc, Bool, true, false, cond, List, [], ◌∷◌, ◌++◌, length, map, filter, Option, Some, None, All, inl, inr, refl, sym, ap, ◌∙◌, arith, subst, length-append}
use Rattle.std.specs.Prelude.{nat_eq}
use Rattle.std.proofs.lemmas.Bool.{both_ways, cases_eq, eq-eqb, eqb-true, ne_eqb}
use Rattle.std.proofs.lemmas.List.Elements.{All-append, All-cons, All-filter, All-map, All-nil, All-weaker}
use Rattle.change_list.proofs.Made.{row_before, row_found, row_of_delete, row_of_new_insert, row_of_new_move, row_push}
use Rattle.change_list.proofs.Tracking.{live_kept, live_made, live_commit, live_within, none_ends}
use Rattle.change_list.specs.declared.item.Row.{Row}
use Rattle.change_list.specs.Changes.{IsLegal, commit_at, ends, is_ended, row_at, status_of}
use Rattle.change_list.specs.declared.write.Status.TheVariants.{Live}
use Rattle.change_list.specs.declared.write.Write.TheVariants.{Insert, Delete, Move}
use Rattle.change_list.specs.declared.write.Write.{Write}
use Rattle.node.specs.Changes.{with_rows}
use Rattle.page_table.proofs.Counting.{found_two, one-different, one-equal}
use Rattle.page_table.proofs.Entries.{entries_moved}
use Rattle.page_table.proofs.PageLists.{replaced-length, replaced_pages}
use Rattle.page_table.proofs.RowChanges.{rows_kept}
use Rattle.page_table.proofs.RowsOnce.{place_all}
use Rattle.page_table.proofs.Stacks.{sweep_kept, sweep_less}
use Rattle.page_table.proofs.Under.{All-both, entries_under, rows_under-weigh}
use Rattle.page_table.proofs.Weights.{weigh-each, weigh-map, weigh-none, weigh-zero}
use Rattle.page_table.specs.Keeping.{EachEntry, KeepsRows, StandsIn}
use Rattle.page_table.specs.Soundness.{IsSound}
use Rattle.page_table.specs.Trees.{Tree, after_rows, new_tree, page_at, pages_under, pages_within, rows_of_tree}
use Rattle.page_table.specs.Weights.{one_if_equal, weigh}
use Rattle.row_version.specs.Entries.{Entry, died_at, is_needed, lives_at, marked}
use Rattle.scan.proofs.Commits.{commit_last, commit_push, commit_pushed, ended_by, ended_push, ends_push, live_pushed, none_live, or_false}
use Rattle.scan.specs.Agreement.{Agrees, IsDeath, IsEntryOf, is_row}
use Rattle.search.specs.Live.{row_of}

none : (K : Type 0) (n : ℕ) → weigh (is_row n) (rows_of_tree (new_tree {K = K})) ≡ 0
unfolding new_tree pages_under pages_within
none K n = refl

entries_none : (K : Type 0) → EachEntry (λ e. IsEntryOf [] e) (new_tree {K = K})
unfolding new_tree
entries_none K zero l = All-nil (λ (e : Entry K). IsEntryOf [] e)
entries_none K (suc p) l = absurd (omega arith)

-- a new tree, before the first commit
pub new_agrees : {K : Type 0} → Agrees (new_tree {K = K}) []
new_agrees {K} = record {
  entries = entries_none K;
  live_once = λ n live. absurd (none_live K n live);
  at_most_once = λ n. let e : weigh (is_row n) (rows_of_tree (new_tree {K = K})) ≡ 0 = none K n in omega (arith, e);
}

-- a step that moves entries and changes none
pub keeps_agrees : {K : Type 0} (t t' : Tree K) (commits : List (Write K)) → KeepsRows t t' → EachEntry (λ e. StandsIn t e) t' → Agrees t commits → Agrees t' commits
keeps_agrees t t' commits keeps each agrees = record {
  entries = entries_moved (λ e. IsEntryOf commits e) t t' each agrees.entries;
  live_once = λ n live. keeps.whole (is_row n) ∙ agrees.live_once n live;
  at_most_once = λ n. omega (arith, keeps.whole (is_row n), agrees.at_most_once n);
}

-- entries of a leaf written anew
pub rows_entries : {K : Type 0} (t : Tree K) (p : ℕ) (rows : List (Entry K)) (P : Entry K → Type 0) → p < length t.pages → All P rows
    → ((q : ℕ) → q < length t.pages → ((q ≡ p) → ⊥) → All P (page_at t q).rows) → EachEntry P (after_rows t p rows)
unfolding after_rows
rows_entries t p rows P l here other q k =
    replaced_pages t p (with_rows (page_at t p) rows) (λ q page. All P page.rows) l here other q (subst (λ n. q < n) (replaced-length t p (with_rows (page_at t p) rows)) k)

pub marked_row : {K : Type 0} (row n : ℕ) (e : Entry K) → (marked row n e).row ≡ e.row
marked_row {K} row n e = go (nat_eq e.row row)
  where
    go : (b : Bool) → (cond b (died_at n e) e).row ≡ e.row
    go true = refl
    go false = refl

-- an entry stays one behind a further commit that doesn't end its row
entry_push : {K : Type 0} (commits : List (Write K)) (write : Write K) (e : Entry K) → ends e.row write ≡ false → IsEntryOf commits e → IsEntryOf (commits ++ write ∷ []) e
entry_push {K} commits write e off a = record { made = row_push commits write e.row (row_of e) a.made; death = death e.died a.death }
  where
    death : (o : Option ℕ) → IsDeath commits e.row o → IsDeath (commits ++ write ∷ []) e.row o
    death None d = ended_push commits write e.row ∙ or_false _ _ d off
    death (Some n) d = ends_push commits write n e.row d

module _ {K : Type 0} (is_cover : K → K → Bool) (t : Tree K) (fan : ℕ) (sound : IsSound is_cover fan t) (commits : List (Write K)) where
  abbrev At : ℕ → List (Entry K)
  At p = (page_at t p).rows

  module _ (legal : IsLegal commits) (agrees : Agrees t commits) (p : ℕ) (l : p < length t.pages) where
    -- all entries have numbers up to the last commit
    numbers : EachEntry (λ e. e.row ≤ length commits) t
    numbers q k = All-weaker (λ (e : Entry K). IsEntryOf commits e) (λ (e : Entry K). e.row ≤ length commits) (λ e a. (row_found commits e.row (row_of e) a.made).2) _ (agrees.entries q k)

    none_past : (n : ℕ) → length commits < n → weigh (is_row n) (rows_of_tree t) ≡ 0
    none_past n k = weigh-none (is_row n) (rows_of_tree t)
        (All-weaker (λ (e : Entry K). e.row ≤ length commits) (λ (e : Entry K). is_row n e ≡ 0) (λ e a. one-different e.row n (λ x. omega (arith, k, a, x))) _
        (entries_under t sound.rank sound.ranked (λ e. e.row ≤ length commits) numbers 0 t.counter sound.root_exists))

    module _ (key : K) (tag : ℕ) where
      abbrev placed : Entry K
      placed = record { key = key; row = length commits + 1; tag = tag; died = None }

      abbrev after_insert : List (Write K)
      after_insert = commits ++ Insert key tag ∷ []

      entry_after_insert : (e : Entry K) → IsEntryOf commits e → IsEntryOf after_insert e
      entry_after_insert e a = entry_push commits (Insert key tag) e refl a

      alive_new : is_ended after_insert (length commits + 1) ≡ false
      alive_new = ended_push commits (Insert key tag) (length commits + 1) ∙ or_false _ _ (none_ends commits (length commits + 1) legal (omega arith)) refl

      -- an insert, its entry placed on a page
      pub place_agrees : Agrees (after_rows t p (At p ++ placed ∷ [])) after_insert
      unfolding after_rows
      place_agrees = record {
        entries = rows_entries t p (At p ++ placed ∷ []) (λ e. IsEntryOf after_insert e) l
            (All-append (λ (e : Entry K). IsEntryOf after_insert e) (At p) (placed ∷ []) (old p l)
            (All-cons (λ (e : Entry K). IsEntryOf after_insert e) placed [] (record { made = row_of_new_insert commits key tag; death = alive_new }) (All-nil (λ (e : Entry K). IsEntryOf after_insert e))))
            (λ q k d. old q k);
        live_once = λ n live. elim (live_pushed commits (Insert key tag) n live) [
          | inl before ↦ omega (arith, count n, agrees.live_once n before, one-different (length commits + 1) n (λ x. omega (arith, x, (live_number n before))))
          | inr new ↦ omega (arith, count n, none_past n (omega (arith, new.0)), one-equal (length commits + 1) n (sym new.0))
        ];
        at_most_once = λ n. elim (cases_eq (length commits + 1) n) [
          | inl x ↦ omega (arith, count n, none_past n (omega (arith, x)), one-equal (length commits + 1) n x)
          | inr x ↦ omega (arith, count n, agrees.at_most_once n, one-different (length commits + 1) n x)
        ];
      }
        where
          old : EachEntry (λ e. IsEntryOf after_insert e) t
          old q k = All-weaker (λ (e : Entry K). IsEntryOf commits e) (λ (e : Entry K). IsEntryOf after_insert e) entry_after_insert _ (agrees.entries q k)

          live_number : (n : ℕ) → status_of commits n ≡ Live → n ≤ length commits
          live_number n h = (live_within commits n h).1

          count : (n : ℕ) → weigh (is_row n) (rows_of_tree (after_rows t p (At p ++ placed ∷ []))) ≡ weigh (is_row n) (rows_of_tree t) + one_if_equal (length commits + 1) n
          count n = place_all is_cover t fan sound (is_row n) p l placed

    module _ (row : ℕ) (live : status_of commits row ≡ Live) (there : 1 ≤ weigh (is_row row) (At p)) where
      abbrev n : ℕ
      n = length commits + 1

      abbrev after_delete : List (Write K)
      after_delete = commits ++ Delete row ∷ []

      -- no other page has the row
      nowhere_else : (q : ℕ) → q < length t.pages → ((q ≡ p) → ⊥) → All (λ (e : Entry K). (e.row ≡ row) → ⊥) (At q)
      nowhere_else q k d =
          let h : ℕ → ℕ = λ x. weigh (is_row row) (page_at t x).rows in
          let two : h p + h q ≤ weigh h (pages_under t 0 t.counter) = found_two h p q (λ e. d (sym e)) (pages_under t 0 t.counter) (omega (arith, (sound.reached p l).once)) (omega (arith, (sound.reached q k).once)) in
          let sum : weigh (is_row row) (rows_of_tree t) ≡ weigh h (pages_under t 0 t.counter) = rows_under-weigh t (is_row row) 0 t.counter in
          All-weaker (λ (e : Entry K). is_row row e ≡ 0) (λ (e : Entry K). (e.row ≡ row) → ⊥) (λ e z same. let one : one_if_equal e.row row ≡ 1 = one-equal e.row row same in omega (arith, z, one)) (At q)
          (weigh-zero (is_row row) (At q) (omega (arith, two, sum, agrees.at_most_once row, there)))

      entry_after_delete : (e : Entry K) → IsEntryOf commits e → ((e.row ≡ row) → ⊥) → IsEntryOf after_delete e
      entry_after_delete e a d = entry_push commits (Delete row) e (ne_eqb row e.row (λ f. d (sym f))) a

      entry_marked : (e : Entry K) → IsEntryOf commits e → IsEntryOf after_delete (marked row n e)
      entry_marked e a = go (nat_eq e.row row) refl
        where
          go : (b : Bool) → nat_eq e.row row ≡ b → IsEntryOf after_delete (cond b (died_at n e) e)
          go true h = record {
            made = row_push commits (Delete row) e.row (row_of e) a.made;
            death = record { write = Delete row; is = commit_last commits (Delete row); ending = eq-eqb row e.row (sym (eqb-true e.row row h)) };
          }
          go false h = entry_after_delete e a (λ x. both_ways (nat_eq e.row row) h (eq-eqb e.row row x))

      -- a delete, its row's entry marked on its page
      pub bury_agrees : Agrees (after_rows t p (map (marked row n) (At p))) after_delete
      unfolding after_rows
      bury_agrees = record {
        entries = rows_entries t p (map (marked row n) (At p)) (λ e. IsEntryOf after_delete e) l
            (All-map (λ (e : Entry K). IsEntryOf after_delete e) (marked row n) (At p) (All-weaker (λ (e : Entry K). IsEntryOf commits e) (λ (e : Entry K). IsEntryOf after_delete (marked row n e)) entry_marked _ (agrees.entries p l)))
            (λ q k d. All-both (λ (e : Entry K). IsEntryOf commits e) (λ (e : Entry K). (e.row ≡ row) → ⊥) (λ (e : Entry K). IsEntryOf after_delete e) entry_after_delete (At q) (agrees.entries q k) (nowhere_else q k d));
        live_once = λ k still. count k ∙ elim (live_pushed commits (Delete row) k still) [
          | inl before ↦ agrees.live_once k before
          | inr new ↦ absurd (let e = new.1 in cc)
        ];
        at_most_once = λ k. omega (arith, count k, agrees.at_most_once k);
      }
        where
          count : (k : ℕ) → weigh (is_row k) (rows_of_tree (after_rows t p (map (marked row n) (At p)))) ≡ weigh (is_row k) (rows_of_tree t)
          count k = rows_kept t sound.rank sound.ranked p l (map (marked row n) (At p)) (is_row k)
              (weigh-map (is_row k) (marked row n) (At p) ∙ weigh-each (λ e. is_row k (marked row n e)) (is_row k) (At p) (λ i d h. ap (λ x. one_if_equal x k) (marked_row row n _)))
              0 t.counter sound.root_exists

  module _ (agrees : Agrees t commits) (p : ℕ) (l : p < length t.pages) (horizon : ℕ) where
    -- what a sweep takes is dead
    pub swept_dead : (e : Entry K) → IsEntryOf commits e → is_needed horizon e ≡ false → is_ended commits e.row ≡ true
    swept_dead e a off = go e.died a.death off
      where
        go : (o : Option ℕ) → IsDeath commits e.row o → lives_at horizon o ≡ false → is_ended commits e.row ≡ true
        go None x h = absurd (cc)
        go (Some m) x h = ended_by commits e.row m x

    -- a sweep of a page up to any horizon
    pub sweep_agrees : Agrees (after_rows t p (filter (is_needed horizon) (At p))) commits
    unfolding after_rows
    sweep_agrees = record {
      entries = rows_entries t p (filter (is_needed horizon) (At p)) (λ e. IsEntryOf commits e) l (All-filter (is_needed horizon) (λ (e : Entry K). IsEntryOf commits e) (At p) (agrees.entries p l)) (λ q k d. agrees.entries q k);
      live_once = λ n live.
          let kept = live_kept commits n live in
          sweep_kept t sound.rank sound.ranked p l (is_needed horizon) (is_row n)
          (All-weaker (λ (e : Entry K). IsEntryOf commits e) (λ (e : Entry K). is_needed horizon e ≡ false → is_row n e ≡ 0)
          (λ e a off. one-different e.row n (λ x. both_ways (is_ended commits n) kept (ap (is_ended commits) (sym x) ∙ swept_dead e a off))) (At p) (agrees.entries p l))
          0 t.counter sound.root_exists
          ∙ agrees.live_once n live;
      at_most_once = λ n. omega (arith, sweep_less t sound.rank sound.ranked p l (is_needed horizon) (is_row n) 0 t.counter sound.root_exists, agrees.at_most_once n);
    }

-- the row that a delete would end goes on as a row that a move makes
module _ {K : Type 0} (is_cover : K → K → Bool) (t : Tree K) (fan : ℕ) (sound : IsSound is_cover fan t) (commits : List (Write K)) (legal : IsLegal commits) (row : ℕ) (live : status_of commits row ≡ Live)
    (agrees : Agrees t (commits ++ Delete row ∷ [])) (key : K) (r : Row K) (found : row_at commits row ≡ Some r) (p : ℕ) (l : p < length t.pages) where
  abbrev number : ℕ
  number = length commits + 1

  abbrev after_move : List (Write K)
  after_move = commits ++ Move row key ∷ []

  abbrev remade : Entry K
  remade = record { key = key; row = length commits + 1; tag = r.tag; died = None }

  -- both end the same rows
  ended_alike : (k : ℕ) → is_ended (commits ++ Move row key ∷ []) k ≡ is_ended (commits ++ Delete row ∷ []) k
  ended_alike k = ended_push commits (Move row key) k ∙ sym (ended_push commits (Delete row) k)

  -- no entry has the number of the delete
  number_within : (e : Entry K) → IsEntryOf (commits ++ Delete row ∷ []) e → e.row ≤ length commits
  number_within e a =
      let w = row_found (commits ++ Delete row ∷ []) e.row (row_of e) a.made in
      elim (cases_eq e.row (length commits + 1)) [
        | inl x ↦
            let none : row_at (commits ++ Delete row ∷ []) e.row ≡ None = row_of_delete (commits ++ Delete row ∷ []) e.row row (ap (commit_at (commits ++ Delete row ∷ [])) x ∙ commit_last commits (Delete row)) in
            let c : None ≡ Some (row_of e) = sym none ∙ a.made in
            absurd (cc)
        | inr x ↦ omega (arith, x, w.2, length-append commits (Delete row ∷ []))
      ]

  entry_moved : (e : Entry K) → IsEntryOf (commits ++ Delete row ∷ []) e → IsEntryOf (commits ++ Move row key ∷ []) e
  entry_moved e a = record {
    made = row_before commits (Move row key) e.row (number_within e a) ∙ sym (row_before commits (Delete row) e.row (number_within e a)) ∙ a.made;
    death = death e.died a.death;
  }
    where
      death : (o : Option ℕ) → IsDeath (commits ++ Delete row ∷ []) e.row o → IsDeath (commits ++ Move row key ∷ []) e.row o
      death None d = ended_alike e.row ∙ d
      death (Some m) d = elim (commit_pushed commits (Delete row) m d.write d.is) [
        | inl c ↦ record { write = d.write; is = commit_push commits (Move row key) m d.write c; ending = d.ending }
        | inr c ↦ record {
          write = Move row key;
          is = ap (commit_at (commits ++ Move row key ∷ [])) c.0 ∙ commit_last commits (Move row key);
          ending = ap (ends e.row) c.1 ∙ d.ending;
        }
      ]

  remade_alive : is_ended (commits ++ Move row key ∷ []) (length commits + 1) ≡ false
  remade_alive =
      let w = live_within commits row live in
      ended_push commits (Move row key) (length commits + 1) ∙ or_false _ _ (none_ends commits (length commits + 1) legal (omega arith)) (ne_eqb row (length commits + 1) (λ x. omega (arith, x, w.1)))

  none_yet : weigh (is_row (length commits + 1)) (rows_of_tree t) ≡ 0
  none_yet = weigh-none (is_row (length commits + 1)) (rows_of_tree t)
      (All-weaker (λ (e : Entry K). e.row ≤ length commits) (λ (e : Entry K). is_row (length commits + 1) e ≡ 0) (λ e a. one-different e.row (length commits + 1) (λ x. omega (arith, a, x))) _
      (entries_under t sound.rank sound.ranked (λ e. e.row ≤ length commits)
      (λ q k. All-weaker (λ (e : Entry K). IsEntryOf (commits ++ Delete row ∷ []) e) (λ (e : Entry K). e.row ≤ length commits) number_within _ (agrees.entries q k)) 0 t.counter sound.root_exists))

  -- the entry of the new row placed on a page
  pub remade_agrees : Agrees (after_rows t p ((page_at t p).rows ++ remade ∷ [])) (commits ++ Move row key ∷ [])
  unfolding after_rows
  remade_agrees = record {
    entries = rows_entries t p ((page_at t p).rows ++ remade ∷ []) (λ e. IsEntryOf (commits ++ Move row key ∷ []) e) l
        (All-append (λ (e : Entry K). IsEntryOf (commits ++ Move row key ∷ []) e) (page_at t p).rows (remade ∷ []) (old p l)
        (All-cons (λ (e : Entry K). IsEntryOf (commits ++ Move row key ∷ []) e) remade [] (record { made = row_of_new_move commits row key r found; death = remade_alive }) (All-nil (λ (e : Entry K). IsEntryOf (commits ++ Move row key ∷ []) e))))
        (λ q k d. old q k);
    live_once = λ k alive. elim (live_pushed commits (Move row key) k alive) [
      | inl before ↦ omega (arith, count k, agrees.live_once k (stays k before alive), one-different (length commits + 1) k (λ x. omega (arith, x, (live_within commits k before).1)))
      | inr new ↦
          let z : weigh (is_row k) (rows_of_tree t) ≡ 0 = ap (λ n. weigh (is_row n) (rows_of_tree t)) new.0 ∙ none_yet in
          omega (arith, count k, z, one-equal (length commits + 1) k (sym new.0))
    ];
    at_most_once = λ k. elim (cases_eq (length commits + 1) k) [
      | inl x ↦
          let z : weigh (is_row k) (rows_of_tree t) ≡ 0 = ap (λ n. weigh (is_row n) (rows_of_tree t)) (sym x) ∙ none_yet in
          omega (arith, count k, z, one-equal (length commits + 1) k x)
      | inr x ↦ omega (arith, count k, agrees.at_most_once k, one-different (length commits + 1) k x)
    ];
  }
    where
      old : EachEntry (λ e. IsEntryOf (commits ++ Move row key ∷ []) e) t
      old q k = All-weaker (λ (e : Entry K). IsEntryOf (commits ++ Delete row ∷ []) e) (λ (e : Entry K). IsEntryOf (commits ++ Move row key ∷ []) e) entry_moved _ (agrees.entries q k)

      stays : (k : ℕ) → status_of commits k ≡ Live → status_of (commits ++ Move row key ∷ []) k ≡ Live → status_of (commits ++ Delete row ∷ []) k ≡ Live
      stays k before alive =
          let c = live_commit commits k before in
          live_made (commits ++ Delete row ∷ []) k c.write (commit_push commits (Delete row) k c.write c.is) c.makes_it (sym (ended_alike k) ∙ live_kept (commits ++ Move row key ∷ []) k alive)

      count : (k : ℕ) → weigh (is_row k) (rows_of_tree (after_rows t p ((page_at t p).rows ++ remade ∷ []))) ≡ weigh (is_row k) (rows_of_tree t) + one_if_equal (length commits + 1) k
      count k = place_all is_cover t fan sound (is_row k) p l remade
