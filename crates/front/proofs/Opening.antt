-- A cursor is opened or closed, and its client is told.
use Rattle.std.proofs.Common.{◌≡◌, ◌≢◌, ◌+◌, ◌-◌, ◌<◌, ◌≤◌, ℕ, Bool, true, false, not, cond, ◌||◌, List, [], ◌∷◌, ◌++◌, length, filter, Option, Some, None, Ok, Err, refl, sym, ap, ◌∙◌, arith, subst, length-append}
use Rattle.std.specs.Prelude.{nat_eq, nat_lt, IsPermutation, if◌then◌else◌}
use Rattle.key_class.specs.Queries.{Query}
use Rattle.key_class.specs.declared.refusal.Refusal.TheVariants as refusal
use Rattle.key_class.specs.Rules.{Rules}
use Rattle.change_list.specs.Cursors.{CursorState, Fits}
use Rattle.store.specs.States.{StoreState, cursor_of, open_or_closed, find_cursor, IsOpened, Closes, without_cursor}
use Rattle.store.proofs.Cursors.{found_as}
use Rattle.front.specs.Told.{ClientCursor, Told, client_cursor, with_client_cursor}
use Rattle.front.specs.AsTold.{AreSame, IsSameCursor, IsAsTold}
use Rattle.front.proofs.Telling.{told_cursor}

given_later : (last d : ℕ) → d ≢ last + 1 → nat_lt (last + 1) d ≡ nat_lt last d
given_later last d n = go (nat_lt last d) refl
  where
    go : (b : Bool) → nat_lt last d ≡ b → nat_lt (last + 1) d ≡ b
    go true e = let l : last < d = search (arith, e) in search (arith, l, n)
    go false e = let l : d ≤ last = search (arith, e) in search (arith, l)

module _ {K A : Type 0} where
  found_before : (d : ℕ) (ks : List (CursorState K A)) (k : CursorState K A) → nat_eq k.serial d ≡ false → find_cursor d (ks ++ k ∷ []) ≡ find_cursor d ks
  found_before d [] k e = rw e refl
  found_before d (x ∷ ks) k e = ap (λ o. cond (nat_eq x.serial d) (Some x) o) (found_before d ks k e)

  opened_other : (old new : StoreState K A) (k : CursorState K A) (c d : ℕ) → c ≡ old.last + 1 → k.serial ≡ c → new ≡ record old { last = c; cursors = old.cursors ++ k ∷ [] } → d ≢ c → cursor_of new d ≡ cursor_of old d
  opened_other old new k c d s n e o =
      let w : d ≢ old.last + 1 = λ p. o (p ∙ sym s) in
      let l : nat_lt c d ≡ nat_lt old.last d = ap (λ m. nat_lt m d) s ∙ given_later old.last d w in
      let f : nat_eq k.serial d ≡ false = search (arith, n, o) in
      ap (λ (x : StoreState K A). cursor_of x d) e
      ∙ ap (λ b. if nat_eq d 0 || b then Err refusal.NoSuchCursor else open_or_closed (find_cursor d (old.cursors ++ k ∷ []))) l
      ∙ ap (λ x. if nat_eq d 0 || nat_lt old.last d then Err refusal.NoSuchCursor else open_or_closed x) (found_before d old.cursors k f)

  closed_none : (c : ℕ) (ks : List (CursorState K A)) → find_cursor c (filter (λ (k : CursorState K A). not (nat_eq k.serial c)) ks) ≡ None
  closed_none c [] = refl
  closed_none c (k ∷ ks) = go (nat_eq k.serial c) refl (closed_none c ks)
    where
      go : (b : Bool) → nat_eq k.serial c ≡ b → find_cursor c (filter (λ (k : CursorState K A). not (nat_eq k.serial c)) ks) ≡ None → find_cursor c (filter (λ (k : CursorState K A). not (nat_eq k.serial c)) (k ∷ ks)) ≡ None
      go true e r = rw e r
      go false e r = rw (e, e) r

  closed_other : (c d : ℕ) (ks : List (CursorState K A)) → c ≢ d → find_cursor d (filter (λ (k : CursorState K A). not (nat_eq k.serial c)) ks) ≡ find_cursor d ks
  closed_other c d [] n = refl
  closed_other c d (k ∷ ks) n = go (nat_eq k.serial c) refl (closed_other c d ks n)
    where
      go : (b : Bool) → nat_eq k.serial c ≡ b → find_cursor d (filter (λ (k : CursorState K A). not (nat_eq k.serial c)) ks) ≡ find_cursor d ks
          → find_cursor d (filter (λ (k : CursorState K A). not (nat_eq k.serial c)) (k ∷ ks)) ≡ find_cursor d (k ∷ ks)
      go true e r = let f : nat_eq k.serial d ≡ false = search (arith, e, n) in rw (e, f) r
      go false e r = rw e (ap (λ o. cond (nat_eq k.serial d) (Some k) o) r)

  module _ (rules : Rules K A) (old : StoreState K A) (told : Told K A) (t : IsAsTold rules old told) where
    -- the client's new cursor agrees with the store's, which follows a commit or has a snapshot
    pub record IsBegun (from : Option ℕ) (follows : Bool) (opened : ℕ) : Type 0 where
      pub follows_is : (query : Query A) → (client_cursor told query from).follows ≡ follows
      pub opened_is : (query : Query A) → (client_cursor told query from).opened ≡ opened

    pub begun_now : IsBegun None false (length old.commits)
    begun_now = record { follows_is = λ query. refl; opened_is = λ query. ap length t.commits }

    pub begun_behind : (commit : ℕ) → IsBegun (Some commit) true commit
    begun_behind commit = record { follows_is = λ query. refl; opened_is = λ query. refl }

    pub told_opened : (query : Query A) (from : Option ℕ) (follows : Bool) (opened c : ℕ) (new : StoreState K A) → IsBegun from follows opened → IsOpened rules.is_match old query follows opened c new
        → IsAsTold rules new (record told {
          cursors = with_client_cursor told.cursors c (Ok (client_cursor told query from));
          open_cursors = told.open_cursors + 1;
          last = c;
        })
    told_opened query from follows opened c new begun o = record {
      limit = t.limit ∙ sym (ap (λ (s : StoreState K A). s.limit) o.after);
      commits = t.commits ∙ sym commits;
      page_limit = t.page_limit ∙ sym (ap (λ (s : StoreState K A). s.page_limit) o.after);
      cursors = λ d. go d (nat_eq d c) refl;
      open_cursors = omega (arith, t.open_cursors, ap (λ (s : StoreState K A). length s.cursors) o.after, length-append old.cursors (o.cursor ∷ []));
      last = sym (ap (λ (s : StoreState K A). s.last) o.after);
      dead = subst (λ (s : StoreState K A). IsPermutation told.dead s.dead) (sym o.after) t.dead;
      finders = omega (arith, t.finders, ap (λ (s : StoreState K A). s.finders) o.after);
      pages = λ full. omega (arith, t.pages full, ap (λ (s : StoreState K A). s.pages_left) o.after);
    }
      where
        commits : new.commits ≡ old.commits
        commits = ap (λ (s : StoreState K A). s.commits) o.after

        f : ClientCursor K A
        f = client_cursor told query from

        asks : (from : Option ℕ) → (client_cursor told query from).query ≡ query
        asks None = refl
        asks (Some commit) = refl

        unasked : (from : Option ℕ) → (client_cursor told query from).asked ≡ false
        unasked None = refl
        unasked (Some commit) = refl

        nothing : (from : Option ℕ) → (client_cursor told query from).given ≡ []
        nothing None = refl
        nothing (Some commit) = refl

        same : IsSameCursor rules old.commits o.cursor f
        same = record {
          query = asks from ∙ sym o.query;
          follows = begun.follows_is query ∙ sym o.follows_is;
          opened = begun.opened_is query ∙ sym o.opened_is;
          asked = unasked from ∙ sym o.unasked;
          fits = subst (λ l. Fits rules.is_match old.commits o.cursor l) (sym (nothing from)) o.fits;
        }

        go : (d : ℕ) (b : Bool) → nat_eq d c ≡ b → AreSame rules new.commits (cursor_of new d) (if b then Ok f else told.cursors d)
        go d true e =
            let n : d ≡ c = search (arith, e) in
            let w : cursor_of new d ≡ Ok o.cursor = ap (cursor_of new) n ∙ o.is_open in
            rw commits (subst (λ x. AreSame rules old.commits x (Ok f)) (sym w) same)
        go d false e =
            let n : d ≢ c = search (arith, e) in
            rw commits (subst (λ x. AreSame rules old.commits x (told.cursors d)) (sym (opened_other old new o.cursor c d o.serial o.number o.after n)) (t.cursors d))

    pub told_closed : (c : ℕ) (new : StoreState K A) → Closes old c new
        → (f : ClientCursor K A) × (told.cursors c ≡ Ok f) × IsAsTold rules new (record told { cursors = with_client_cursor told.cursors c (Err refusal.CursorClosed); open_cursors = told.open_cursors - 1 })
    told_closed c new h =
        let k = told_cursor rules old told t c h.cursor h.was_open in (
          k.f,
          k.is,
          record {
            limit = t.limit ∙ sym (ap (λ (s : StoreState K A). s.limit) h.is);
            commits = t.commits ∙ sym (ap (λ (s : StoreState K A). s.commits) h.is);
            page_limit = t.page_limit ∙ sym (ap (λ (s : StoreState K A). s.page_limit) h.is);
            cursors = λ d. subst (λ (s : StoreState K A). AreSame rules s.commits (cursor_of s d) (with_client_cursor told.cursors c (Err refusal.CursorClosed) d)) (sym h.is) (go d (nat_eq d c) refl);
            open_cursors = omega (arith, t.open_cursors, h.one_less);
            last = t.last ∙ sym (ap (λ (s : StoreState K A). s.last) h.is);
            dead = subst (λ (s : StoreState K A). IsPermutation told.dead s.dead) (sym h.is) t.dead;
            finders = omega (arith, t.finders, ap (λ (s : StoreState K A). s.finders) h.is);
            pages = λ full. omega (arith, t.pages full, ap (λ (s : StoreState K A). s.pages_left) h.is);
          },
        )
      where
        go : (d : ℕ) (b : Bool) → nat_eq d c ≡ b → AreSame rules old.commits (cursor_of (without_cursor old c) d) (if b then Err refusal.CursorClosed else told.cursors d)
        go d true e =
            let n : d ≡ c = search (arith, e) in
            let f = found_as old c h.cursor h.was_open in
            let w : cursor_of (without_cursor old c) c ≡ Err refusal.CursorClosed = rw (f.given, closed_none) refl in
            subst (λ x. AreSame rules old.commits x (Err refusal.CursorClosed)) (sym (ap (cursor_of (without_cursor old c)) n ∙ w)) refl
        go d false e =
            let n : c ≢ d = search (arith, e) in
            let w : cursor_of (without_cursor old c) d ≡ cursor_of old d = ap (λ x. if nat_eq d 0 || nat_lt old.last d then Err refusal.NoSuchCursor else open_or_closed x) (closed_other c d old.cursors n) in
            subst (λ x. AreSame rules old.commits x (told.cursors d)) (sym w) (t.cursors d)
