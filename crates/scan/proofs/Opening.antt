-- At its opening a scan has its whole snapshot to find.
use Rattle.std.proofs.Common.{◌≡◌, ◌+◌, ◌*◌, ◌<◌, ◌≤◌, ℕ, Bool, true, false, not, cond, ◌&&◌, List, [], ◌∷◌, ◌++◌, length, filter, Option, Some, None, inl, inr, refl, sym, ap, ap₂, ◌∙◌, arith, length-append}
use Rattle.std.specs.Prelude.{nat_eq, nat_le, option_to_list}
use Rattle.std.proofs.lemmas.List.{take_all}
use Rattle.std.proofs.lemmas.List.Elements.{All-cons, All-nil, All-weaker}
use Rattle.std.proofs.lemmas.Bool.{cases_eq, eq-eqb, ne_eqb, le-leb, le-ltb}
use Rattle.change_list.proofs.Lists.{by_pushes}
use Rattle.change_list.proofs.Made.{made_number, made_push, row_before, row_found, row_new, rows_found, rows_within}
use Rattle.change_list.proofs.Tracking.{commit_within, live_from}
use Rattle.change_list.specs.Changes.{made_row, made_rows, is_ended, row_at, rows, snapshot}
use Rattle.change_list.specs.declared.item.Row.{Row}
use Rattle.change_list.specs.declared.write.Write.{Write}
use Rattle.page_table.proofs.Stacks.{left_one}
use Rattle.page_table.proofs.Under.{entries_under}
use Rattle.page_table.proofs.Weights.{weigh-add, weigh-append, weigh-each, weigh-none}
use Rattle.page_table.specs.Soundness.{IsSound}
use Rattle.page_table.specs.Stacks.{IsStack, StackItem, rows_left}
use Rattle.page_table.specs.Trees.{Tree, rows_of_tree}
use Rattle.page_table.specs.Weights.{Same, one_if_equal, weigh}
use Rattle.row_version.specs.Entries.{Entry, lives_at}
use Rattle.scan.proofs.Commits.{ended_by}
use Rattle.scan.proofs.Seen.{seen_weight, weigh_seen}
use Rattle.scan.specs.Agreement.{Agrees, IsDeath, IsEntryOf, is_row}
use Rattle.scan.specs.Scanning.{to_find}
use Rattle.search.specs.Live.{row_of}

-- sums in either order
weigh-exchange : {A B : Type 0} (f : A → B → ℕ) (xs : List A) (ys : List B) → weigh (λ x. weigh (f x) ys) xs ≡ weigh (λ y. weigh (λ x. f x y) xs) ys
weigh-exchange f [] ys = sym (weigh-none (λ y. 0) ys (λ i d l. refl))
weigh-exchange f (x ∷ xs) ys = omega (arith, weigh-exchange f xs ys, weigh-add (f x) (λ y. weigh (λ x. f x y) xs) ys)

weigh-filtered : {A : Type 0} (w : A → ℕ) (test : A → Bool) (xs : List A) → weigh w (filter test xs) ≡ weigh (λ x. cond (test x) (w x) 0) xs
weigh-filtered w test [] = refl
weigh-filtered w test (x ∷ xs) = go (test x) (weigh-filtered w test xs)
  where
    go : (b : Bool) → weigh w (filter test xs) ≡ weigh (λ x. cond (test x) (w x) 0) xs → weigh w (cond b (x ∷ filter test xs) (filter test xs)) ≡ cond b (w x) 0 + weigh (λ x. cond (test x) (w x) 0) xs
    go true h = omega (arith, h)
    go false h = omega (arith, h)

-- v where the numbers are equal
abbrev part : ℕ → ℕ → ℕ → ℕ
part a b v = cond (nat_eq a b) v 0

part_same : (a b v : ℕ) → a ≡ b → part a b v ≡ v
part_same a b v e = let f : Bool → ℕ = λ x. cond x v 0 in ap f (eq-eqb a b e)

part_other : (a b v : ℕ) → ((a ≡ b) → ⊥) → part a b v ≡ 0
part_other a b v d = let f : Bool → ℕ = λ x. cond x v 0 in ap f (ne_eqb a b d)

part_scaled : (a b v : ℕ) → part a b v ≡ one_if_equal a b * v
part_scaled a b v = go (nat_eq a b)
  where
    go : (x : Bool) → cond x v 0 ≡ cond x 1 0 * v
    go true = omega arith
    go false = omega arith

both_tests : (a b c d : Bool) (x : ℕ) → b ≡ true → c ≡ not d → cond ((b && c) && a) x 0 ≡ cond (not d) (cond a x 0) 0
both_tests a b c d x hb hc = (let f : Bool → Bool → ℕ = λ b c. cond ((b && c) && a) x 0 in ap₂ f hb hc) ∙ go a d
  where
    go : (a d : Bool) → cond ((true && not d) && a) x 0 ≡ cond (not d) (cond a x 0) 0
    go true true = refl
    go true false = refl
    go false true = refl
    go false false = refl

module _ {K : Type 0} where
  -- of all rows, the one with a number is found by it
  found_row : (v : Row K → ℕ) (n : ℕ) (r : Row K) (commits : List (Write K)) → row_at commits n ≡ Some r → weigh (λ x. part n x.row (v x)) (made_rows commits) ≡ v r
  found_row v n r commits h =
      by_pushes (λ cs. row_at cs n ≡ Some r → weigh (λ x. part n x.row (v x)) (made_rows cs) ≡ v r) (λ e. let w = row_found [] n r e in absurd (omega (arith, w.1, w.2))) more commits h
    where
      one : (o : Option (Row K)) (m : ℕ) → ((x : Row K) → o ≡ Some x → x.row ≡ m) → ((m ≡ n) → ⊥) → weigh (λ x. part n x.row (v x)) (option_to_list o) ≡ 0
      one None m number other = refl
      one (Some x) m number other = omega (arith, part_other n x.row (v x) (λ e. other (sym (number x refl) ∙ sym e)))

      more : (cs : List (Write K)) (write : Write K) → (row_at cs n ≡ Some r → weigh (λ x. part n x.row (v x)) (made_rows cs) ≡ v r) → row_at (cs ++ write ∷ []) n ≡ Some r
          → weigh (λ x. part n x.row (v x)) (made_rows (cs ++ write ∷ [])) ≡ v r
      more cs write before e =
          let o : Option (Row K) = made_row (made_rows cs) (length cs + 1) write in
          let parts : weigh (λ x. part n x.row (v x)) (made_rows (cs ++ write ∷ [])) ≡ weigh (λ x. part n x.row (v x)) (made_rows cs) + weigh (λ x. part n x.row (v x)) (option_to_list o)
          = ap (weigh (λ x. part n x.row (v x))) (made_push cs write) ∙ weigh-append (λ x. part n x.row (v x)) (made_rows cs) (option_to_list o) in
          let w = row_found (cs ++ write ∷ []) n r e in
          elim (cases_eq (length cs + 1) n) [
            | inl same ↦
                let is : o ≡ Some r = sym (row_new cs write) ∙ ap (row_at (cs ++ write ∷ [])) same ∙ e in
                let last : weigh (λ x. part n x.row (v x)) (option_to_list o) ≡ part n r.row (v r) + 0 = ap (λ (y : Option (Row K)). weigh (λ x. part n x.row (v x)) (option_to_list y)) is in
                let here : part n r.row (v r) ≡ v r = part_same n r.row (v r) (sym w.0) in
                let none : weigh (λ x. part n x.row (v x)) (made_rows cs) ≡ 0
                = weigh-none (λ x. part n x.row (v x)) (made_rows cs)
                (All-weaker (λ (x : Row K). (0 < x.row) × (x.row ≤ length cs)) (λ (x : Row K). part n x.row (v x) ≡ 0) (λ x a. part_other n x.row (v x) (λ y. omega (arith, y, same, a.1))) (made_rows cs) (rows_within cs)) in
                omega (arith, parts, last, here, none)
            | inr other ↦
                let old : row_at cs n ≡ Some r = sym (row_before cs write n (omega (arith, w.2, other, length-append cs (write ∷ [])))) ∙ e in
                omega (arith, parts, before old, one o (length cs + 1) (λ x y. made_number (made_rows cs) (length cs + 1) write x y) other)
          ]

  counted : (n v : ℕ) (es : List (Entry K)) → weigh (λ e. part e.row n v) es ≡ weigh (is_row n) es * v
  counted n v [] = omega arith
  counted n v (e ∷ es) = omega (arith, part_scaled e.row n v, counted n v es)

  module _ (w : Row K → ℕ) (wanted : K → Bool) (commits : List (Write K)) where
    -- what a row weighs to a scan that opens now
    abbrev open_weight : Row K → ℕ
    open_weight r = cond (not (is_ended commits r.row)) (cond (wanted r.key) (w r) 0) 0

    snapshot_weight : weigh w (snapshot wanted (length commits) commits) ≡ weigh open_weight (made_rows commits)
    snapshot_weight =
        ap (λ c. weigh w (filter (λ r. wanted r.key) (rows c))) (take_all (length commits) commits (omega arith))
        ∙ weigh-filtered w (λ r. wanted r.key) (rows commits)
        ∙ weigh-filtered (λ r. cond (wanted r.key) (w r) 0) (λ r. not (is_ended commits r.row)) (made_rows commits)

    seen_now : (e : Entry K) → IsEntryOf commits e → seen_weight w wanted (length commits) e ≡ open_weight (row_of e)
    seen_now e a =
        both_tests (wanted e.key) (nat_le e.row (length commits)) (lives_at (length commits) e.died) (is_ended commits e.row) (w (row_of e))
        (le-leb e.row (length commits) (row_found commits e.row (row_of e) a.made).2)
        (lives e.died a.death)
      where
        lives : (o : Option ℕ) → IsDeath commits e.row o → lives_at (length commits) o ≡ not (is_ended commits e.row)
        lives None d = sym (ap not d)
        lives (Some m) d = le-ltb (length commits) m (commit_within commits m d.write d.is).1 ∙ sym (ap not (ended_by commits e.row m d))

    module _ (t : Tree K) (agrees : Agrees t commits) where
      once_each : (r : Row K) → row_at commits r.row ≡ Some r → weigh (λ e. part e.row r.row (open_weight r)) (rows_of_tree t) ≡ open_weight r
      once_each r c = counted r.row (open_weight r) (rows_of_tree t) ∙ by_life (is_ended commits r.row) refl
        where
          by_life : (b : Bool) → is_ended commits r.row ≡ b → weigh (is_row r.row) (rows_of_tree t) * open_weight r ≡ open_weight r
          by_life true h =
              let z : open_weight r ≡ 0 = (let f : Bool → ℕ = λ b. cond (not b) (cond (wanted r.key) (w r) 0) 0 in ap f h) in
              let f : weigh (is_row r.row) (rows_of_tree t) * open_weight r ≡ weigh (is_row r.row) (rows_of_tree t) * 0 = ap (λ x. weigh (is_row r.row) (rows_of_tree t) * x) z in
              omega (arith, f, z)
          by_life false h =
              let f : weigh (is_row r.row) (rows_of_tree t) * open_weight r ≡ 1 * open_weight r = ap (λ x. x * open_weight r) (agrees.live_once r.row (live_from commits r.row r c h)) in
              omega (arith, f)

      module _ (is_cover : K → K → Bool) (fan : ℕ) (sound : IsSound is_cover fan t) where
        -- the snapshot is what is seen below the root
        root_weight : weigh (seen_weight w wanted (length commits)) (rows_of_tree t) ≡ weigh w (snapshot wanted (length commits) commits)
        root_weight =
            weigh-each (seen_weight w wanted (length commits)) (λ e. weigh (λ r. part e.row r.row (open_weight r)) (made_rows commits)) (rows_of_tree t)
            (All-weaker (λ (e : Entry K). IsEntryOf commits e) (λ (e : Entry K). seen_weight w wanted (length commits) e ≡ weigh (λ r. part e.row r.row (open_weight r)) (made_rows commits))
            (λ e a. seen_now e a ∙ sym (found_row open_weight e.row (row_of e) commits a.made)) (rows_of_tree t)
            (entries_under t sound.rank sound.ranked (λ e. IsEntryOf commits e) agrees.entries 0 t.counter sound.root_exists))
            ∙ weigh-exchange (λ (e : Entry K) (r : Row K). part e.row r.row (open_weight r)) (rows_of_tree t) (made_rows commits)
            ∙ weigh-each (λ r. weigh (λ e. part e.row r.row (open_weight r)) (rows_of_tree t)) open_weight (made_rows commits)
            (All-weaker (λ (r : Row K). row_at commits r.row ≡ Some r) (λ (r : Row K). weigh (λ e. part e.row r.row (open_weight r)) (rows_of_tree t) ≡ open_weight r) (λ r c. once_each r c) (made_rows commits) (rows_found commits))
            ∙ sym snapshot_weight

module _ {K : Type 0} (is_cover : K → K → Bool) (t : Tree K) (fan : ℕ) (sound : IsSound is_cover fan t) where
  -- the root with the counter is a stack
  pub open_stack : IsStack t (record { page = 0; memo = t.counter } ∷ [])
  open_stack = All-cons (λ (i : StackItem). (i.page < length t.pages) × (i.memo ≤ t.counter)) (record { page = 0; memo = t.counter }) [] (sound.root_exists, omega arith) (All-nil (λ (i : StackItem). (i.page < length t.pages) × (i.memo ≤ t.counter)))

  -- what a scan that opens now has to find
  pub open_find : (commits : List (Write K)) → Agrees t commits → (wanted : K → Bool) → Same (to_find wanted (length commits) t (record { page = 0; memo = t.counter } ∷ [])) (snapshot wanted (length commits) commits)
  open_find commits agrees wanted w =
      weigh_seen w wanted (length commits) (rows_left t (record { page = 0; memo = t.counter } ∷ []))
      ∙ left_one t (seen_weight w wanted (length commits)) (record { page = 0; memo = t.counter }) ∙ root_weight w wanted commits t agrees is_cover fan sound
