-- What a turn does to the lists that fit a cursor, to its work and to its stack.
use Rattle.std.proofs.Common.{Bool, ◌≡◌, ◌+◌, ◌<◌, ◌≤◌, ℕ, true, false, cond, List, [], ◌∷◌, ◌++◌, length, drop, Some, None, Result, Ok, Err, inl, inr, ⊎_elim, refl, sym, ap, ◌∙◌, arith, subst}
use Rattle.std.specs.Prelude.{slice_get, option_to_list, IsPermutation, OnOk}
use Rattle.std.proofs.lemmas.Bool.{both_ways}
use Rattle.std.proofs.lemmas.List.{append-nil, append_cancel_left}
use Rattle.std.proofs.lemmas.List.Sorted.{IsPermutation-refl, IsPermutation-sym, IsPermutation-append_right, length_permutation}
use Rattle.mailbox.specs.Outlets.{Rule}
use Rattle.key_class.specs.Rules.{IsLawful, Rules}
use Rattle.key_class.specs.declared.refusal.Refusal.{Refusal}
use Rattle.key_class.specs.declared.refusal.Refusal.TheVariants as refusal
use Rattle.change_list.specs.declared.write.Write.{Write}
use Rattle.change_list.specs.declared.item.Row.{Row}
use Rattle.change_list.specs.declared.item.Item.{Item}
use Rattle.change_list.specs.declared.item.Item.TheVariants as item
use Rattle.change_list.specs.Changes.{snapshot}
use Rattle.change_list.specs.Cursors.{IsPastRows, Fits, work}
use Rattle.change_list.specs.Listings.{first_rows, is_mark}
use Rattle.change_list.proofs.Fitting.{fits_row, fits_changes, fits_mark, fits_push, fits_new}
use Rattle.change_list.proofs.Lists.{slice_get_drop}
use Rattle.page_table.specs.Weights.{Same}
use Rattle.page_table.specs.Soundness.{IsSound}
use Rattle.page_table.specs.Stacks.{StackItem, IsStack, pages_left}
use Rattle.page_table.specs.Trees.{Tree}
use Rattle.scan.specs.Scanning.{to_find}
use Rattle.scan.proofs.Visiting.{visit_stack, visit_pages, visit_find}
use Rattle.cursor.specs.declared.cursor.Turned.{Turned}
use Rattle.cursor.specs.declared.cursor.Turned.TheVariants as turned
use Rattle.cursor.specs.OpenCursors.{OpenCursor, is_scanning, sent, wants, admits, VisitsPage, Turns, shown, tree_work}
use Rattle.cursor.specs.Fitting.{BeginsFitting, FollowsFitting}
use Rattle.cursor.specs.Offering.{IsOffered}
use Rattle.change_list.proofs.Items.{IsChange, one_change}
use Rattle.cursor.proofs.Lawful.{prunes, rows_arranged}
use Rattle.cursor.proofs.Remaining.{fits_arranged}
use Rattle.cursor.proofs.Tasks as tasks
use Rattle.cursor.proofs.Tasks.{HasScanned, IsNext, IsAtEnd, Offers, of_row, of_change, of_mark, row_is_due}

no_mark : {K : Type 0} (x : Item K) → IsChange x → is_mark x ≡ false
no_mark (item.Row row) h = refl
no_mark (item.Inserted row) h = refl
no_mark (item.Deleted n row) h = refl
no_mark (item.Moved row other) h = refl
no_mark (item.Mark n) h = absurd h

module _ {K A : Type 0} (rules : Rules K A) (rule : Rule) where
  -- what the outlet got in a turn, and that it goes on where the items before it fitted
  pub record KeepsFit (t : Tree K) (commits : List (Write K)) (old new : OpenCursor K A) : Type 0 where
    pub offered : List (Item K)
    pub unread : new.unread ≡ old.unread ++ offered
    pub fits : (items : List (Item K)) → Fits rules.is_match commits (shown rules rule t old) items → Fits rules.is_match commits (shown rules rule t new) (items ++ offered)

  module _ (t : Tree K) (commits : List (Write K)) (old : OpenCursor K A) where
    following : HasScanned rules rule commits old → IsPastRows rules.is_match (shown rules rule t old)
    following h = record {
      scanned = ap is_scanning h.none_left;
      none_remaining = ap (λ p. p ++ to_find (wants rules rule old) old.opened t old.stack) h.none_pending ∙ ap (to_find (wants rules rule old) old.opened t) h.none_left;
    }

    front : (row : Row K) → slice_get old.pending 0 ≡ Some row
        → old.pending ++ to_find (wants rules rule old) old.opened t old.stack ≡ row ∷ (drop 1 old.pending ++ to_find (wants rules rule old) old.opened t old.stack)
    front row h = ap (λ p. p ++ to_find (wants rules rule old) old.opened t old.stack) (sym (slice_get_drop old.pending row h))

    stays : KeepsFit t commits old old
    stays = record {
      offered = [];
      unread = sym (append-nil old.unread);
      fits = λ items f. subst (λ l. Fits rules.is_match commits (shown rules rule t old) l) (sym (append-nil items)) f;
    }

    sends_row : (row : Row K) → slice_get old.pending 0 ≡ Some row → KeepsFit t commits old (sent (item.Row row) old)
    sends_row row h = record {
      offered = item.Row row ∷ [];
      unread = refl;
      fits = λ items f. fits_row rules.is_match commits (shown rules rule t old) items f row (is_scanning old.stack) _ (front row h);
    }

    sends_change : (x : Item K) → IsNext rules rule commits old (Some x) → IsChange x → KeepsFit t commits old (record old { position = old.position + 1; unread = old.unread ++ x ∷ [] })
    sends_change x n i = record {
      offered = x ∷ [];
      unread = refl;
      fits = λ items f. fits_changes rules.is_match commits (shown rules rule t old) items f (Some x) (old.position + 1) (following n.scanned)
          (omega arith) (omega (arith, n.within)) (one_change (wants rules rule old) commits old.position ∙ ap option_to_list n.is) (no_mark x i);
    }

    passes : IsNext rules rule commits old None → KeepsFit t commits old (record old { position = old.position + 1 })
    passes n = record {
      offered = [];
      unread = sym (append-nil old.unread);
      fits = λ items f. fits_changes rules.is_match commits (shown rules rule t old) items f None (old.position + 1) (following n.scanned)
          (omega arith) (omega (arith, n.within)) (one_change (wants rules rule old) commits old.position ∙ ap option_to_list n.is) tt;
    }

    sends_mark : IsAtEnd rules rule commits old → KeepsFit t commits old (sent (item.Mark old.position) old)
    sends_mark a = record {
      offered = item.Mark old.position ∷ [];
      unread = refl;
      fits = λ items f.
          let e : length commits ≡ old.position = omega (arith, a.at_end, f.within) in
          subst (λ n. Fits rules.is_match commits (record (shown rules rule t old) { asked = false }) (items ++ item.Mark n ∷ [])) e
          (fits_mark rules.is_match commits (shown rules rule t old) items f false (following a.scanned) a.at_end);
    }

    -- a visit by which the same rows are still to come
    visits : (stack : List StackItem) (noted : List (Row K)) → old.pending ≡ [] → is_scanning old.stack ≡ true
        → IsPermutation (to_find (wants rules rule old) old.opened t old.stack) (noted ++ to_find (wants rules rule old) old.opened t stack)
        → KeepsFit t commits old (record old { stack = stack; pending = noted })
    visits stack noted p s r = record {
      offered = [];
      unread = sym (append-nil old.unread);
      fits = λ items f.
          let same : IsPermutation (old.pending ++ to_find (wants rules rule old) old.opened t old.stack) (noted ++ to_find (wants rules rule old) old.opened t stack) =
          subst (λ l. IsPermutation (l ++ to_find (wants rules rule old) old.opened t old.stack) (noted ++ to_find (wants rules rule old) old.opened t stack)) (sym p) r in
          subst (λ l. Fits rules.is_match commits (shown rules rule t (record old { stack = stack; pending = noted })) l) (sym (append-nil items))
          (fits_arranged rules.is_match commits (shown rules rule t old) items f (is_scanning stack) _ (λ h. absurd (both_ways (is_scanning old.stack) h.scanned s)) same);
    }

    row_works : (row : Row K) → slice_get old.pending 0 ≡ Some row → tree_work rules rule t commits (sent (item.Row row) old) < tree_work rules rule t commits old
    row_works row h = omega (arith, ap length (front row h))

    change_works : (unread : List (Item K)) → old.position < length commits → tree_work rules rule t commits (record old { position = old.position + 1; unread = unread }) < tree_work rules rule t commits old
    change_works unread h = omega (arith, h)

    mark_works : old.asked ≡ true → tree_work rules rule t commits (sent (item.Mark old.position) old) < tree_work rules rule t commits old
    mark_works h = let one : ℕ = 1 in let e : cond old.asked one 0 ≡ 1 = ap (λ b. cond b one 0) h in omega (arith, e)

    visit_works : (stack : List StackItem) (noted : List (Row K)) → old.pending ≡ []
        → IsPermutation (to_find (wants rules rule old) old.opened t old.stack) (noted ++ to_find (wants rules rule old) old.opened t stack)
        → length (pages_left t stack) + 1 ≤ length (pages_left t old.stack)
        → tree_work rules rule t commits (record old { stack = stack; pending = noted }) < tree_work rules rule t commits old
    visit_works stack noted p r l =
        let a : length (noted ++ to_find (wants rules rule old) old.opened t stack) ≡ length (to_find (wants rules rule old) old.opened t old.stack) = length_permutation _ _ r in
        let b : length (old.pending ++ to_find (wants rules rule old) old.opened t old.stack) ≡ length (to_find (wants rules rule old) old.opened t old.stack) =
        ap (λ q. length (q ++ to_find (wants rules rule old) old.opened t old.stack)) p in
        omega (arith, a, b, l)

  module _ {same_key : K → K → Bool} {same_atom : A → A → Bool} (lawful : IsLawful rules same_key same_atom) (fan : ℕ) (t : Tree K) (sound : IsSound rules.is_cover fan t) (commits : List (Write K)) (old new : OpenCursor K A) (stack : IsStack t old.stack) where
    found : (page : ℕ) (v : VisitsPage rules rule t old page new) → IsPermutation (to_find (wants rules rule old) old.opened t old.stack) (v.noted ++ to_find (wants rules rule old) old.opened t v.stack)
    found page v = IsPermutation-sym _ _ (rows_arranged rules rule lawful _ _
        (visit_find rules.is_cover t fan sound (wants rules rule old) (admits rules rule old) old.opened old.stack v.stack page v.noted stack v.visits lawful.bounds.through (prunes rules rule lawful old)))

    -- a turn offers what fits
    pub turn_keeps_fit : (result : Result Turned Refusal) → Turns rules rule t commits old result new → KeepsFit t commits old new
    turn_keeps_fit (Ok turned.Offered) s = by_item (tasks.offered rules rule commits old s.item s.due)
      where
        by_item : Offers rules rule commits old s.item → KeepsFit t commits old new
        by_item (of_row row f e) = subst (KeepsFit t commits old) (sym (s.after ∙ ap (λ x. sent x old) e)) (sends_row t commits old row f)
        by_item (of_change n c i) = subst (KeepsFit t commits old) (sym (s.after ∙ c)) (sends_change t commits old s.item n i)
        by_item (of_mark a q e) = subst (KeepsFit t commits old) (sym (s.after ∙ ap (λ x. sent x old) e)) (sends_mark t commits old a)
    turn_keeps_fit (Ok (turned.Visited page)) h =
        let d = tasks.visited rules rule commits old h.0 in
        subst (KeepsFit t commits old) (sym h.1.after) (visits t commits old h.1.stack h.1.noted d.0 d.1 (found page h.1))
    turn_keeps_fit (Ok (turned.Passed n)) h =
        subst (KeepsFit t commits old) (sym (h.2 ∙ ap (λ p. record old { position = p }) h.1)) (passes t commits old (tasks.passed rules rule commits old h.0))
    turn_keeps_fit (Err refusal.NoRoom) h = subst (KeepsFit t commits old) (sym h.unchanged) (stays t commits old)
    turn_keeps_fit (Err refusal.Idle) h = subst (KeepsFit t commits old) (sym h.1) (stays t commits old)
    turn_keeps_fit (Err refusal.OutOfMemory) h = subst (KeepsFit t commits old) (sym h.1) (stays t commits old)
    turn_keeps_fit (Err why) h = absurd h

    -- what fitted, with what the outlet got in a turn, fits
    pub turn_fits : (result : Result Turned Refusal) → Turns rules rule t commits old result new → (items offered : List (Item K)) → new.unread ≡ old.unread ++ offered
        → Fits rules.is_match commits (shown rules rule t old) items → Fits rules.is_match commits (shown rules rule t new) (items ++ offered)
    turn_fits result h items offered u f =
        let k = turn_keeps_fit result h in
        subst (λ o. Fits rules.is_match commits (shown rules rule t new) (items ++ o)) (append_cancel_left old.unread _ _ (sym k.unread ∙ u)) (k.fits items f)

    -- a turn that isn't refused lowers the work
    pub turn_less_work : (done : Turned) → Turns rules rule t commits old (Ok done) new → tree_work rules rule t commits new < tree_work rules rule t commits old
    turn_less_work turned.Offered s = by_item (tasks.offered rules rule commits old s.item s.due)
      where
        by_item : Offers rules rule commits old s.item → tree_work rules rule t commits new < tree_work rules rule t commits old
        by_item (of_row row f e) = subst (λ k. tree_work rules rule t commits k < tree_work rules rule t commits old) (sym (s.after ∙ ap (λ x. sent x old) e)) (row_works t commits old row f)
        by_item (of_change n c i) = subst (λ k. tree_work rules rule t commits k < tree_work rules rule t commits old) (sym (s.after ∙ c)) (change_works t commits old (old.unread ++ s.item ∷ []) n.within)
        by_item (of_mark a q e) = subst (λ k. tree_work rules rule t commits k < tree_work rules rule t commits old) (sym (s.after ∙ ap (λ x. sent x old) e)) (mark_works t commits old q)
    turn_less_work (turned.Visited page) h =
        let d = tasks.visited rules rule commits old h.0 in
        let l = visit_pages rules.is_cover t fan sound (wants rules rule old) (admits rules rule old) old.opened old.stack h.1.stack page h.1.noted stack h.1.visits in
        subst (λ k. tree_work rules rule t commits k < tree_work rules rule t commits old) (sym h.1.after) (visit_works t commits old h.1.stack h.1.noted d.0 (found page h.1) l)
    turn_less_work (turned.Passed n) h =
        let d = tasks.passed rules rule commits old h.0 in
        subst (λ k. tree_work rules rule t commits k < tree_work rules rule t commits old) (sym (h.2 ∙ ap (λ p. record old { position = p }) h.1)) (change_works t commits old old.unread d.within)

    -- an offer leaves less to be given
    pub offer_less : Turns rules rule t commits old (Ok turned.Offered) new → work commits (shown rules rule t new) < work commits (shown rules rule t old)
    offer_less s = by_item (tasks.offered rules rule commits old s.item s.due)
      where
        by_item : Offers rules rule commits old s.item → work commits (shown rules rule t new) < work commits (shown rules rule t old)
        by_item (of_row row f e) = subst (λ k. work commits (shown rules rule t k) < work commits (shown rules rule t old)) (sym (s.after ∙ ap (λ x. sent x old) e)) (omega (arith, row_works t commits old row f))
        by_item (of_change n c i) = subst (λ k. work commits (shown rules rule t k) < work commits (shown rules rule t old)) (sym (s.after ∙ c)) (omega (arith, change_works t commits old (old.unread ++ s.item ∷ []) n.within))
        by_item (of_mark a q e) = subst (λ k. work commits (shown rules rule t k) < work commits (shown rules rule t old)) (sym (s.after ∙ ap (λ x. sent x old) e)) (omega (arith, mark_works t commits old q))

    -- no turn leaves more
    pub turn_no_more : (done : Turned) → Turns rules rule t commits old (Ok done) new → work commits (shown rules rule t new) ≤ work commits (shown rules rule t old)
    turn_no_more turned.Offered s = omega (arith, offer_less s)
    turn_no_more (turned.Visited page) h =
        let d = tasks.visited rules rule commits old h.0 in
        let a = length_permutation _ _ (found page h.1) in
        let b : length (old.pending ++ to_find (wants rules rule old) old.opened t old.stack) ≡ length (to_find (wants rules rule old) old.opened t old.stack) =
        ap (λ q. length (q ++ to_find (wants rules rule old) old.opened t old.stack)) d.0 in
        subst (λ k. work commits (shown rules rule t k) ≤ work commits (shown rules rule t old)) (sym h.1.after) (omega (arith, a, b))
    turn_no_more (turned.Passed n) h =
        let d = tasks.passed rules rule commits old h.0 in
        subst (λ k. work commits (shown rules rule t k) ≤ work commits (shown rules rule t old)) (sym (h.2 ∙ ap (λ p. record old { position = p }) h.1)) (omega (arith, d.within))

    -- the stack stays one of the tree
    pub turn_stack : (result : Result Turned Refusal) → Turns rules rule t commits old result new → IsStack t new.stack
    turn_stack (Ok turned.Offered) s = by_item (tasks.offered rules rule commits old s.item s.due)
      where
        by_item : Offers rules rule commits old s.item → IsStack t new.stack
        by_item (of_row row f e) = subst (λ k. IsStack t k.stack) (sym (s.after ∙ ap (λ x. sent x old) e)) stack
        by_item (of_change n c i) = subst (λ k. IsStack t k.stack) (sym (s.after ∙ c)) stack
        by_item (of_mark a q e) = subst (λ k. IsStack t k.stack) (sym (s.after ∙ ap (λ x. sent x old) e)) stack
    turn_stack (Ok (turned.Visited page)) h =
        let l = visit_stack rules.is_cover t fan sound (wants rules rule old) (admits rules rule old) old.opened old.stack h.1.stack page h.1.noted stack h.1.visits in
        subst (λ k. IsStack t k.stack) (sym h.1.after) l
    turn_stack (Ok (turned.Passed n)) h = subst (λ k. IsStack t k.stack) (sym h.2) stack
    turn_stack (Err refusal.NoRoom) h = subst (λ k. IsStack t k.stack) (sym h.unchanged) stack
    turn_stack (Err refusal.Idle) h = subst (λ k. IsStack t k.stack) (sym h.1) stack
    turn_stack (Err refusal.OutOfMemory) h = subst (λ k. IsStack t k.stack) (sym h.1) stack
    turn_stack (Err why) h = absurd h

  -- as a clause of a turn has it
  pub turn_lowers : {same_key : K → K → Bool} {same_atom : A → A → Bool} → IsLawful rules same_key same_atom → (t : Tree K) (commits : List (Write K)) (old new : OpenCursor K A) → IsStack t old.stack → (result : Result Turned Refusal) → Turns rules rule t commits old result new
      → OnOk result ((fan : ℕ) → IsSound rules.is_cover fan t → tree_work rules rule t commits new < tree_work rules rule t commits old)
  turn_lowers lawful t commits old new stack (Ok done) h = λ fan sound. turn_less_work lawful fan t sound commits old new stack done h
  turn_lowers lawful t commits old new stack (Err why) h = tt

  -- a row that is due is offered in a turn
  pub row_turns : (t : Tree K) (commits : List (Write K)) (old new : OpenCursor K A) (row : Row K) → slice_get old.pending 0 ≡ Some row
      → (result : Result Turned Refusal) → IsOffered rules rule (item.Row row) old result new → Turns rules rule t commits old result new
  row_turns t commits old new row f (Ok turned.Offered) h = record { item = item.Row row; due = row_is_due rules rule commits old row f; taken = h.0; after = h.1 }
  row_turns t commits old new row f (Ok (turned.Visited page)) h = absurd h
  row_turns t commits old new row f (Ok (turned.Passed n)) h = absurd h
  row_turns t commits old new row f (Err refusal.NoRoom) h = record { item = item.Row row; due = row_is_due rules rule commits old row f; refused = h.0; unchanged = h.1 }
  row_turns t commits old new row f (Err why) h = absurd h

  -- asking for a mark changes nothing of what fits
  pub ask_fits : (t : Tree K) (commits : List (Write K)) (k : OpenCursor K A) (items : List (Item K)) → Fits rules.is_match commits (shown rules rule t k) items
      → Fits rules.is_match commits (shown rules rule t (record k { asked = true })) items
  ask_fits t commits k items f = record {
    rows = f.rows;
    is = f.is;
    each_once = f.each_once;
    follower = λ h. let p = f.follower h in record { scanned = p.scanned; none_remaining = p.none_remaining };
    in_order = ⊎_elim
        (λ (h : IsPastRows rules.is_match (shown rules rule t k)). inl (record { scanned = h.scanned; none_remaining = h.none_remaining }))
        (λ (h : k.position ≡ k.opened). inr h)
        f.in_order;
    from_opening = f.from_opening;
    within = f.within;
    marks = f.marks;
  }

  -- taking an item changes nothing of what fits
  pub take_fits : (t : Tree K) (commits : List (Write K)) (k : OpenCursor K A) (unread items : List (Item K)) → Fits rules.is_match commits (shown rules rule t k) items
      → Fits rules.is_match commits (shown rules rule t (record k { unread = unread })) items
  take_fits t commits k unread items f = f

  -- a step of the tree after which a scan has the same still to find
  pub same_fits : {same_key : K → K → Bool} {same_atom : A → A → Bool} → IsLawful rules same_key same_atom → (t t' : Tree K) (commits : List (Write K)) (k : OpenCursor K A) (items : List (Item K))
      → Same (to_find (wants rules rule k) k.opened t' k.stack) (to_find (wants rules rule k) k.opened t k.stack)
      → Fits rules.is_match commits (shown rules rule t k) items → Fits rules.is_match commits (shown rules rule t' k) items
  same_fits lawful t t' commits k items s f =
      fits_arranged rules.is_match commits (shown rules rule t k) items f (is_scanning k.stack) _ (λ h. h.scanned)
      (IsPermutation-append_right k.pending _ _ (IsPermutation-sym _ _ (rows_arranged rules rule lawful _ _ s)))

  -- a commit changes nothing of what fits
  pub commit_fits : (t : Tree K) (commits : List (Write K)) (write : Write K) (k : OpenCursor K A) (items : List (Item K))
      → Fits rules.is_match commits (shown rules rule t k) items → Fits rules.is_match (commits ++ write ∷ []) (shown rules rule t k) items
  commit_fits t commits write k items f = fits_push rules.is_match commits (shown rules rule t k) items f write _ (IsPermutation-refl _)

  -- nothing given fits a new cursor with a snapshot,
  pub open_fits : {same_key : K → K → Bool} {same_atom : A → A → Bool} → IsLawful rules same_key same_atom → (t : Tree K) (commits : List (Write K)) (k : OpenCursor K A) → k.follows ≡ false → k.opened ≡ length commits → k.position ≡ k.opened → k.pending ≡ []
      → Same (to_find (wants rules rule k) k.opened t k.stack) (snapshot (wants rules rule k) (length commits) commits)
      → Fits rules.is_match commits (shown rules rule t k) []
  open_fits lawful t commits k w o p n s =
      let q = wants rules rule k in
      let all : IsPermutation (snapshot q (length commits) commits) (to_find q k.opened t k.stack) = IsPermutation-sym _ _ (rows_arranged rules rule lawful _ _ s) in
      let first : first_rows k.follows q k.opened commits ≡ snapshot q (length commits) commits = ap (λ b. first_rows b q k.opened commits) w ∙ ap (λ m. snapshot q m commits) o in
      fits_new rules.is_match commits (shown rules rule t k) (omega (arith, o)) p
      (subst (λ l. IsPermutation l (k.pending ++ to_find q k.opened t k.stack)) (sym first)
      (subst (λ l. IsPermutation (snapshot q (length commits) commits) (l ++ to_find q k.opened t k.stack)) (sym n) all))
      (λ h. let g : true ≡ false = sym h ∙ w in absurd (cc))

  -- nor one that follows a commit
  pub follow_fits : (t : Tree K) (commits : List (Write K)) (k : OpenCursor K A) → k.follows ≡ true → k.opened ≤ length commits → k.position ≡ k.opened → k.pending ≡ [] → k.stack ≡ []
      → Fits rules.is_match commits (shown rules rule t k) []
  follow_fits t commits k w o p n e =
      let q = wants rules rule k in
      let none : k.pending ++ to_find q k.opened t k.stack ≡ [] = ap (λ l. l ++ to_find q k.opened t k.stack) n ∙ ap (to_find q k.opened t) e in
      fits_new rules.is_match commits (shown rules rule t k) o p
      (subst (λ l. IsPermutation l (k.pending ++ to_find q k.opened t k.stack)) (sym (ap (λ b. first_rows b q k.opened commits) w))
      (subst (λ l. IsPermutation [] l) (sym none) (IsPermutation-refl [])))
      (λ h. record { scanned = ap is_scanning e; none_remaining = none })

  -- so it is with a cursor as it is made
  pub new_fits : {same_key : K → K → Bool} {same_atom : A → A → Bool} → IsLawful rules same_key same_atom → (k made : OpenCursor K A) → k ≡ made → made.follows ≡ false → made.position ≡ made.opened → made.pending ≡ [] → BeginsFitting rules rule made.opened k
  new_fits lawful k made is w p n t commits e same =
      let found = subst (λ x. Same (to_find (wants rules rule x) made.opened t x.stack) (snapshot (wants rules rule x) made.opened commits)) is same in
      subst (λ x. Fits rules.is_match commits (shown rules rule t x) []) (sym is)
      (open_fits lawful t commits made w e p n (subst (λ m. Same (to_find (wants rules rule made) made.opened t made.stack) (snapshot (wants rules rule made) m commits)) e found))

  pub new_follower_fits : (k made : OpenCursor K A) → k ≡ made → made.follows ≡ true → made.position ≡ made.opened → made.pending ≡ [] → made.stack ≡ [] → FollowsFitting rules rule made.opened k
  new_follower_fits k made is w p n e t commits within =
      subst (λ x. Fits rules.is_match commits (shown rules rule t x) []) (sym is) (follow_fits t commits made w within p n e)
