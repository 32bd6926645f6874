-- A call of the store is made, and its client is told.
use Rattle.std.proofs.Common.{◌≡◌, ◌≢◌, ◌+◌, ◌<◌, ◌≤◌, ℕ, suc, Bool, true, false, List, [], ◌∷◌, ◌++◌, length, Some, None, Result, Ok, Err, ◌⊎◌, inl, inr, ⊎_elim, refl, sym, ap, ◌∙◌, arith, subst}
use Rattle.std.specs.Prelude.{nat_eq, IsPermutation, if◌then◌else◌}
use Rattle.std.specs.List.{AllByRecursion}
use Rattle.std.proofs.lemmas.List.Sorted.{IsPermutation-refl, IsPermutation-trans, IsPermutation-cons}
use Rattle.std.proofs.lemmas.List.{append-nil}
use Rattle.key_class.specs.Queries.{matches_query}
use Rattle.key_class.specs.declared.refusal.Refusal.{Refusal}
use Rattle.key_class.specs.Rules.{Rules}
use Rattle.change_list.specs.declared.write.Write.{Write}
use Rattle.change_list.specs.declared.write.Write.TheVariants.{Insert}
use Rattle.change_list.specs.declared.item.Item.{Item}
use Rattle.change_list.specs.declared.item.Item.TheVariants as item
use Rattle.change_list.specs.Listings.{IsListingFor, BeginsListingFor, without_marks}
use Rattle.change_list.specs.Cursors.{CursorState, Fits, IsPastRows}
use Rattle.change_list.proofs.Fitting.{fits_begins, fits_done}
use Rattle.store.specs.States.{StoreState, DeadRow, cursor_of, SameOrStays, Commits, Keeps, KeepsLiving, ChangesCursor, with_asking, Nexts, Wants, Answers, IsNeededBy}
use Rattle.store.specs.States as states
use Rattle.store.proofs.Cursors.{cursor_with, cursor_with_other}
use Rattle.front.specs.Told.{ClientCursor, Told, with_client_cursor, DiedAfterOpening, GivesTo, client_wants}
use Rattle.front.specs.AsTold.{IsSameCursor, AreSame, IsAsTold}

module _ {K A : Type 0} (rules : Rules K A) where
  -- a cursor that a call didn't touch still agrees with what was told
  stays_same : (commits later : List (Write K)) (x y : Result (CursorState K A) Refusal) (f : Result (ClientCursor K A) Refusal)
      → SameOrStays rules.is_match commits later x y → AreSame rules commits x f → AreSame rules later y f
  stays_same commits later (Ok before) (Ok after) (Ok f) s a = record { query = a.query ∙ sym s.query; follows = a.follows ∙ sym s.follows; opened = a.opened ∙ sym s.opened; asked = a.asked ∙ sym s.asked; fits = s.fits f.given a.fits }
  stays_same commits later (Ok before) (Ok after) (Err why) s a = absurd a
  stays_same commits later (Ok before) (Err why) f s a = absurd s
  stays_same commits later (Err why) (Ok after) f s a = absurd s
  stays_same commits later (Err why) (Err other) (Ok f) s a = absurd a
  stays_same commits later (Err why) (Err other) (Err third) s a = sym s ∙ a

  module _ (old : StoreState K A) (told : Told K A) (t : IsAsTold rules old told) where
    pub told_insert : (key : K) (tag : ℕ) (new : StoreState K A) → Commits rules.is_match old (Insert key tag) new → IsPermutation old.dead new.dead → new.finders ≡ old.finders
        → IsAsTold rules new (record told { commits = told.commits ++ Insert key tag ∷ [] })
    told_insert key tag new c d f = record {
      limit = t.limit ∙ sym c.limit;
      commits = ap (λ l. l ++ Insert key tag ∷ []) t.commits ∙ sym c.commits;
      page_limit = t.page_limit ∙ sym c.page_limit;
      cursors = λ n. stays_same old.commits new.commits (cursor_of old n) (cursor_of new n) (told.cursors n) (c.cursors n) (t.cursors n);
      open_cursors = t.open_cursors ∙ sym c.as_many;
      last = t.last ∙ sym c.last;
      dead = IsPermutation-trans _ _ _ t.dead d;
      finders = omega (arith, t.finders, f);
      pages = λ full. omega (arith, t.pages full, c.pages);
    }

    -- a commit ended the row
    pub told_end : (write : Write K) (row number : ℕ) (new : StoreState K A) → Commits rules.is_match old write new → number ≡ length old.commits + 1
        → IsPermutation ((record { row = row; died = length old.commits + 1 }) ∷ old.dead) new.dead → new.finders ≤ old.finders + 1
        → IsAsTold rules new (record told { commits = told.commits ++ write ∷ []; dead = (record { row = row; died = number }) ∷ told.dead; finders = told.finders + 1 })
    told_end write row number new c n d f = record {
      limit = t.limit ∙ sym c.limit;
      commits = ap (λ l. l ++ write ∷ []) t.commits ∙ sym c.commits;
      page_limit = t.page_limit ∙ sym c.page_limit;
      cursors = λ n. stays_same old.commits new.commits (cursor_of old n) (cursor_of new n) (told.cursors n) (c.cursors n) (t.cursors n);
      open_cursors = t.open_cursors ∙ sym c.as_many;
      last = t.last ∙ sym c.last;
      dead = rw n (IsPermutation-trans _ _ _ (IsPermutation-cons _ _ _ t.dead) d);
      finders = omega (arith, t.finders, f);
      pages = λ full. omega (arith, t.pages full, c.pages);
    }

    -- a call that was refused
    pub told_kept : (new : StoreState K A) (finders : ℕ) → Keeps rules.is_match old new → new.finders ≤ finders → IsAsTold rules new (record told { finders = finders })
    told_kept new finders c f = record {
      limit = t.limit ∙ sym c.limit;
      commits = t.commits ∙ sym c.commits;
      page_limit = t.page_limit ∙ sym c.page_limit;
      cursors = λ n. stays_same old.commits new.commits (cursor_of old n) (cursor_of new n) (told.cursors n) (c.cursors n) (t.cursors n);
      open_cursors = t.open_cursors ∙ sym c.as_many;
      last = t.last ∙ sym c.last;
      dead = IsPermutation-trans _ _ _ t.dead c.dead;
      finders = f;
      pages = λ full. omega (arith, t.pages full, c.pages);
    }

    -- a call was refused because the pages are full
    pub told_full : (new : StoreState K A) → Keeps rules.is_match old new → new.finders ≤ told.finders → new.pages_left < 2 → IsAsTold rules new (record told { pages_full = true })
    told_full new c f few =
        let h = told_kept new told.finders c f in
        record { limit = h.limit; commits = h.commits; page_limit = h.page_limit; cursors = h.cursors; open_cursors = h.open_cursors; last = h.last; dead = h.dead; finders = h.finders; pages = λ full. few }

    -- a sweep left these dead rows
    pub told_swept : (new : StoreState K A) → KeepsLiving rules.is_match old new → IsAsTold rules new (record told { dead = new.dead })
    told_swept new c = record {
      limit = t.limit ∙ sym c.limit;
      commits = t.commits ∙ sym c.commits;
      page_limit = t.page_limit ∙ sym c.page_limit;
      cursors = λ n. stays_same old.commits new.commits (cursor_of old n) (cursor_of new n) (told.cursors n) (c.cursors n) (t.cursors n);
      open_cursors = t.open_cursors ∙ sym c.as_many;
      last = t.last ∙ sym c.last;
      dead = IsPermutation-refl new.dead;
      finders = omega (arith, t.finders, c.finders);
      pages = λ full. omega (arith, t.pages full, c.pages);
    }

    pub needed_told : (d : DeadRow) → IsNeededBy old d → DiedAfterOpening told d
    needed_told d n = go (told.cursors n.serial) refl (subst (λ x. AreSame rules old.commits x (told.cursors n.serial)) n.is_open (t.cursors n.serial))
      where
        go : (f : Result (ClientCursor K A) Refusal) → told.cursors n.serial ≡ f → AreSame rules old.commits (Ok n.cursor) f → DiedAfterOpening told d
        go (Ok f) e a = record { serial = n.serial; cursor = f; is_open = e; has_rows = a.follows ∙ no_follower n.cursor.follows refl a.fits; opened = omega (arith, a.opened, n.opened) }
          where
            no_follower : (b : Bool) → n.cursor.follows ≡ b → Fits rules.is_match old.commits n.cursor f.given → n.cursor.follows ≡ false
            no_follower false w fits = w
            no_follower true w fits = absurd (let z : true ≡ false = sym n.scanning ∙ (fits.follower w).scanned in cc)
        go (Err why) e a = absurd a

    pub each_needed : (ds : List DeadRow) → AllByRecursion (IsNeededBy old) ds → AllByRecursion (DiedAfterOpening told) ds
    each_needed [] h = tt
    each_needed (d ∷ ds) h = (needed_told d h.0, each_needed ds h.1)

    -- the client's picture of the cursor with a serial
    pub record IsToldAs (c : ℕ) (k : CursorState K A) : Type 0 where
      pub f : ClientCursor K A
      pub is : told.cursors c ≡ Ok f
      pub same : IsSameCursor rules old.commits k f

    pub told_cursor : (c : ℕ) (k : CursorState K A) → cursor_of old c ≡ Ok k → IsToldAs c k
    told_cursor c k h = go (told.cursors c) refl (subst (λ x. AreSame rules old.commits x (told.cursors c)) h (t.cursors c))
      where
        go : (f : Result (ClientCursor K A) Refusal) → told.cursors c ≡ f → AreSame rules old.commits (Ok k) f → IsToldAs c k
        go (Ok f) e a = record { f = f; is = e; same = a }
        go (Err why) e a = absurd a

    pub told_refusal : (c : ℕ) (why : Refusal) → cursor_of old c ≡ Err why → told.cursors c ≡ Err why
    told_refusal c why h = go (told.cursors c) refl (subst (λ x. AreSame rules old.commits x (told.cursors c)) h (t.cursors c))
      where
        go : (f : Result (ClientCursor K A) Refusal) → told.cursors c ≡ f → AreSame rules old.commits (Err why) f → told.cursors c ≡ Err why
        go (Ok f) e a = absurd a
        go (Err other) e a = e ∙ ap Err (sym a)

    -- one cursor changed, and the client was told how it is now
    changed : (c : ℕ) (before after : CursorState K A) (f : ClientCursor K A) → cursor_of old c ≡ Ok before → after.serial ≡ before.serial → IsSameCursor rules old.commits after f
        → (d : ℕ) → AreSame rules old.commits (cursor_of (states.with_open_cursor old after) d) (with_client_cursor told.cursors c (Ok f) d)
    changed c before after f o s a d = go (nat_eq d c) refl
      where
        go : (b : Bool) → nat_eq d c ≡ b → AreSame rules old.commits (cursor_of (states.with_open_cursor old after) d) (if b then Ok f else told.cursors d)
        go true e =
            let n : d ≡ c = search (arith, e) in
            let w : cursor_of (states.with_open_cursor old after) d ≡ Ok after = ap (cursor_of (states.with_open_cursor old after)) n ∙ cursor_with old c before after o s in
            subst (λ x. AreSame rules old.commits x (Ok f)) (sym w) a
        go false e =
            let n : c ≢ d = search (arith, e) in
            subst (λ x. AreSame rules old.commits x (told.cursors d)) (sym (cursor_with_other old c d before after o s n)) (t.cursors d)

    pub told_changed : (c : ℕ) (before after : CursorState K A) (f : ClientCursor K A) (new : StoreState K A) → cursor_of old c ≡ Ok before → after.serial ≡ before.serial → IsSameCursor rules old.commits after f
        → new ≡ states.with_open_cursor old after → IsAsTold rules new (record told { cursors = with_client_cursor told.cursors c (Ok f) })
    told_changed c before after f new o s a e = subst (λ (n : StoreState K A). IsAsTold rules n (record told { cursors = with_client_cursor told.cursors c (Ok f) })) (sym e) (record {
      limit = t.limit;
      commits = t.commits;
      page_limit = t.page_limit;
      cursors = changed c before after f o s a;
      open_cursors = t.open_cursors ∙ sym (as_many old.cursors after);
      last = t.last;
      dead = t.dead;
      finders = t.finders;
      pages = t.pages;
    })
      where
        as_many : (ks : List (CursorState K A)) (k : CursorState K A) → length (states.put_cursor k ks) ≡ length ks
        as_many [] k = refl
        as_many (x ∷ ks) k = step (nat_eq x.serial k.serial) (as_many ks k)
          where
            step : (b : Bool) → length (states.put_cursor k ks) ≡ length ks → length (if b then k ∷ ks else x ∷ states.put_cursor k ks) ≡ length (x ∷ ks)
            step true r = refl
            step false r = ap suc r

    -- one cursor got on, but its client was told nothing
    pub told_unchanged : (c : ℕ) (before after : CursorState K A) (f : ClientCursor K A) (new : StoreState K A) → cursor_of old c ≡ Ok before → after.serial ≡ before.serial → IsSameCursor rules old.commits after f
        → told.cursors c ≡ Ok f → new ≡ states.with_open_cursor old after → IsAsTold rules new told
    told_unchanged c before after f new o s a i e =
        let h = told_changed c before after f new o s a e in
        record { limit = h.limit; commits = h.commits; page_limit = h.page_limit; cursors = λ d. back d (nat_eq d c) refl (h.cursors d); open_cursors = h.open_cursors; last = h.last; dead = h.dead; finders = h.finders; pages = h.pages }
      where
        back : (d : ℕ) (b : Bool) → nat_eq d c ≡ b → AreSame rules new.commits (cursor_of new d) (if nat_eq d c then Ok f else told.cursors d) → AreSame rules new.commits (cursor_of new d) (told.cursors d)
        back d true e h =
            let n : d ≡ c = search (arith, e) in
            let k : (if nat_eq d c then Ok f else told.cursors d) ≡ told.cursors d = rw e (sym (ap told.cursors n ∙ i)) in
            subst (λ x. AreSame rules new.commits (cursor_of new d) x) k h
        back d false e h = subst (λ x. AreSame rules new.commits (cursor_of new d) x) (rw e refl) h

    -- a cursor that got on, and its client, which was given these items
    same_after : (k after : CursorState K A) (f : ClientCursor K A) (items : List (Item K)) → after.query ≡ k.query → after.follows ≡ k.follows → after.opened ≡ k.opened → IsSameCursor rules old.commits k f → Fits rules.is_match old.commits after items
        → IsSameCursor rules old.commits after (record f { given = items; asked = after.asked })
    same_after k after f items q w o a fits = record { query = a.query ∙ sym q; follows = a.follows ∙ sym w; opened = a.opened ∙ sym o; asked = refl; fits = fits }

    -- a listing of the cursor is a listing for the client
    module _ (k after : CursorState K A) (f : ClientCursor K A) (a : IsSameCursor rules old.commits k f) (q : after.query ≡ k.query) (w : after.follows ≡ k.follows) (o : after.opened ≡ k.opened) where
      client_begins : (items : List (Item K)) → Fits rules.is_match old.commits after items → BeginsListingFor f.follows (client_wants rules f) f.opened (length told.commits) told.commits (without_marks items)
      client_begins items fits =
          let e : after.query ≡ f.query = q ∙ sym a.query in
          let b : after.follows ≡ f.follows = w ∙ sym a.follows in
          let p : after.opened ≡ f.opened = o ∙ sym a.opened in
          rw t.commits (subst (λ n. BeginsListingFor f.follows (matches_query rules.is_match f.query) n (length old.commits) old.commits (without_marks items)) p
          (subst (λ x. BeginsListingFor f.follows (matches_query rules.is_match x) after.opened (length old.commits) old.commits (without_marks items)) e
          (subst (λ x. BeginsListingFor x (matches_query rules.is_match after.query) after.opened (length old.commits) old.commits (without_marks items)) b (fits_begins rules.is_match old.commits after items fits))))

      client_listing : (n : ℕ) (items : List (Item K)) → IsListingFor after.follows (matches_query rules.is_match after.query) after.opened n old.commits items → IsListingFor f.follows (client_wants rules f) f.opened n told.commits items
      client_listing n items l =
          let e : after.query ≡ f.query = q ∙ sym a.query in
          let b : after.follows ≡ f.follows = w ∙ sym a.follows in
          let p : after.opened ≡ f.opened = o ∙ sym a.opened in
          rw t.commits (subst (λ m. IsListingFor f.follows (matches_query rules.is_match f.query) m n old.commits items) p
          (subst (λ x. IsListingFor f.follows (matches_query rules.is_match x) after.opened n old.commits items) e
          (subst (λ x. IsListingFor x (matches_query rules.is_match after.query) after.opened n old.commits items) b l)))

    gives_to : (k after : CursorState K A) (f : ClientCursor K A) (given : Item K) → IsSameCursor rules old.commits k f → after.query ≡ k.query → after.follows ≡ k.follows → after.opened ≡ k.opened
        → Answers rules.is_match old.commits k (Some given) after → Fits rules.is_match old.commits after (f.given ++ given ∷ []) → GivesTo rules told.commits f given after.asked
    gives_to k after f (item.Mark n) a q b o w fits =
        (a.asked ∙ w.0, w.1 ∙ ap length (sym t.commits), w.2, client_listing k after f a q b o n (without_marks f.given) (fits.marks f.given [] n refl))
    gives_to k after f (item.Row row) a q b o w fits = w ∙ sym a.asked
    gives_to k after f (item.Inserted row) a q b o w fits = w ∙ sym a.asked
    gives_to k after f (item.Deleted n row) a q b o w fits = w ∙ sym a.asked
    gives_to k after f (item.Moved row ended) a q b o w fits = w ∙ sym a.asked

    -- what the client of a cursor is told with an item
    pub record IsGiven (c : ℕ) (given : Item K) (new : StoreState K A) : Type 0 where
      pub f : ClientCursor K A
      pub asked : Bool
      pub is : told.cursors c ≡ Ok f
      pub gives : GivesTo rules told.commits f given asked
      pub begins : BeginsListingFor f.follows (client_wants rules f) f.opened (length told.commits) told.commits (without_marks (f.given ++ given ∷ []))
      pub after : IsAsTold rules new (record told { cursors = with_client_cursor told.cursors c (Ok (record f { given = f.given ++ given ∷ []; asked = asked })) })

    pub told_given : (c : ℕ) (given : Item K) (new : StoreState K A) → Nexts rules.is_match old c (Some given) new → IsGiven c given new
    told_given c given new n =
        let k = told_cursor c n.before n.is_open in
        let fits = n.gives.fits k.f.given k.same.fits in
        record {
          f = k.f;
          asked = n.after.asked;
          is = k.is;
          gives = gives_to n.before n.after k.f given k.same n.gives.query n.gives.follows n.gives.opened n.gives.answer fits;
          begins = client_begins n.before n.after k.f k.same n.gives.query n.gives.follows n.gives.opened (k.f.given ++ given ∷ []) fits;
          after = told_changed c n.before n.after (record k.f { given = k.f.given ++ given ∷ []; asked = n.after.asked }) new n.is_open n.gives.serial
              (same_after n.before n.after k.f (k.f.given ++ given ∷ []) n.gives.query n.gives.follows n.gives.opened k.same fits) n.is;
        }

    -- what the client is told if nothing is left to give
    pub record IsEmptied (c : ℕ) (new : StoreState K A) : Type 0 where
      pub f : ClientCursor K A
      pub is : told.cursors c ≡ Ok f
      pub unasked : f.asked ≡ false
      pub listing : IsListingFor f.follows (client_wants rules f) f.opened (length told.commits) told.commits (without_marks f.given)
      pub after : IsAsTold rules new told

    pub told_empty : (c : ℕ) (new : StoreState K A) → Nexts rules.is_match old c None new → IsEmptied c new
    told_empty c new n =
        let k = told_cursor c n.before n.is_open in
        let fits : Fits rules.is_match old.commits n.after k.f.given = subst (λ l. Fits rules.is_match old.commits n.after l) (append-nil k.f.given) (n.gives.fits k.f.given k.same.fits) in
        let d = n.gives.answer.1 in
        let l = fits_done rules.is_match old.commits n.after k.f.given fits d.past_rows d.at_end in
        record {
          f = k.f;
          is = k.is;
          unasked = k.same.asked ∙ sym n.gives.answer.0 ∙ d.unasked;
          listing = subst (λ m. IsListingFor k.f.follows (client_wants rules k.f) k.f.opened m told.commits (without_marks k.f.given)) (ap length (sym t.commits)) (client_listing n.before n.after k.f k.same n.gives.query n.gives.follows n.gives.opened (length old.commits) (without_marks k.f.given) l);
          after = told_unchanged c n.before n.after k.f new n.is_open n.gives.serial
              (record { query = k.same.query ∙ sym n.gives.query; follows = k.same.follows ∙ sym n.gives.follows; opened = k.same.opened ∙ sym n.gives.opened; asked = k.same.asked ∙ sym n.gives.answer.0; fits = fits }) k.is n.is;
        }

    -- a cursor got no memory
    pub told_wanting : (c : ℕ) (new : StoreState K A) → Wants rules.is_match old c new → ((f : ClientCursor K A) × (told.cursors c ≡ Ok f)) × IsAsTold rules new told
    told_wanting c new n =
        let k = told_cursor c n.before n.is_open in (
          (k.f, k.is),
          told_unchanged c n.before n.after k.f new n.is_open n.strives.serial
              (record { query = k.same.query ∙ sym n.strives.query; follows = k.same.follows ∙ sym n.strives.follows; opened = k.same.opened ∙ sym n.strives.opened; asked = k.same.asked ∙ sym n.strives.asked; fits = n.strives.fits k.f.given k.same.fits }) k.is n.is,
        )

    pub told_asked : (c : ℕ) (new : StoreState K A) → ChangesCursor with_asking old c new
        → (f : ClientCursor K A) × (told.cursors c ≡ Ok f) × IsAsTold rules new (record told { cursors = with_client_cursor told.cursors c (Ok (record f { asked = true })) })
    told_asked c new n =
        let k = told_cursor c n.before n.is_open in
        let fits : Fits rules.is_match old.commits (with_asking n.before) k.f.given = record { rows = k.same.fits.rows; is = k.same.fits.is; each_once = k.same.fits.each_once; follower = λ h. let p = k.same.fits.follower h in record { scanned = p.scanned; none_remaining = p.none_remaining }; in_order = order k.same.fits.in_order; from_opening = k.same.fits.from_opening; within = k.same.fits.within; marks = k.same.fits.marks } in (
          k.f,
          k.is,
          told_changed c n.before (with_asking n.before) (record k.f { asked = true }) new n.is_open refl
              (record { query = k.same.query; follows = k.same.follows; opened = k.same.opened; asked = refl; fits = fits }) n.is,
        )
      where
        order : {k : CursorState K A} → (IsPastRows rules.is_match k) ⊎ (k.position ≡ k.opened) → (IsPastRows rules.is_match (with_asking k)) ⊎ (k.position ≡ k.opened)
        order {k} h = ⊎_elim (λ (p : IsPastRows rules.is_match k). inl (record { scanned = p.scanned; none_remaining = p.none_remaining })) (λ (p : k.position ≡ k.opened). inr p) h
