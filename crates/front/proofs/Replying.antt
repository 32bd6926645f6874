-- Replies of the store's calls that commit, open and sweep.
use Rattle.std.proofs.Common.{◌≡◌, ◌≢◌, ◌+◌, ◌-◌, ◌<◌, ◌≤◌, ℕ, Bool, true, false, not, List, [], ◌∷◌, ◌++◌, length, filter, Option, Some, None, Result, Ok, Err, ◌⊎◌, inl, inr, ⊎_elim, refl, sym, ap, ◌∙◌, arith, subst, length-append}
use Rattle.std.specs.Prelude.{◌↔◌, nat_lt, IsPermutation}
use Rattle.std.proofs.lemmas.List.Sorted.{IsPermutation-trans, IsPermutation-append_comm, IsPermutation-append_right, IsPermutation-filter_both, length_permutation}
use Rattle.key_class.specs.Queries.{Query, depth_of}
use Rattle.key_class.specs.declared.refusal.Refusal.{Refusal}
use Rattle.key_class.specs.declared.refusal.Refusal.TheVariants as refusal
use Rattle.key_class.specs.Rules.{Rules}
use Rattle.change_list.specs.declared.write.Write.TheVariants as write
use Rattle.change_list.specs.declared.item.Item.{Item}
use Rattle.change_list.specs.declared.write.Status.{Status}
use Rattle.change_list.specs.declared.write.Status.TheVariants.{NeverIssued, Live, Dead}
use Rattle.change_list.specs.Changes.{status_of}
use Rattle.store.specs.States.{StoreState, DeadRow, Commits, Keeps, IsOpened, IsBadOpening, IsFromFuture, HasNoFollowerFor, RefusesFollower, IsFullOf, MayRefuseDelete, MayRefuseMove, SweepsStore, SweepsStorePart, is_dead_needed, Nexts, RefusesNext, ChangesCursor, with_asking, Closes}
use Rattle.query_text.specs.Tokens.{Placed}
use Rattle.query_text.specs.ClassTexts.{Texts}
use Rattle.query_text.specs.Grammar.{RefusesTokens, IsParseRefusal}
use Rattle.front.specs.declared.answer.Answer.{Answer}
use Rattle.front.specs.declared.answer.Answer.TheVariants as answer
use Rattle.front.specs.Told.{Told, with_client_cursor, IsFullAsTold, HasNoCursorLeft, MayLackPages, IsBadRoom, IsAhead, MayBegin, RefusesToEnd, RepliesInsert, RepliesDelete, RepliesMove, RepliesOpen, RepliesNext, RepliesMark, RepliesSweep, RepliesClose}
use Rattle.front.specs.AsTold.{IsAsTold}
use Rattle.front.specs.Sessions.{WithQuery}
use Rattle.front.proofs.Telling.{told_insert, told_end, told_kept, told_full, told_swept, told_given, told_empty, told_wanting, told_asked, told_refusal, each_needed}
use Rattle.front.proofs.Opening.{IsBegun, begun_now, begun_behind, told_opened, told_closed}

not_less : (a b : ℕ) → (a < b → ⊥) → b ≤ a
not_less a b h = go (nat_lt a b) refl
  where
    go : (c : Bool) → nat_lt a b ≡ c → b ≤ a
    go true e = absurd (h (search (arith, e)))
    go false e = search (arith, e)

module _ {K A : Type 0} (rules : Rules K A) (old new : StoreState K A) (told : Told K A) (t : IsAsTold rules old told) where
  full_told : (old.limit ≤ length old.commits) ↔ IsFullAsTold told
  full_told = (λ h. omega (arith, h, t.limit, ap length t.commits), λ h. omega (arith, h, t.limit, ap length t.commits))

  pub insert_committed : (key : K) (tag n : ℕ) (r : Result ℕ Refusal) → r ≡ Ok n → n ≡ length old.commits + 1 → ((r ≡ Err refusal.CommitsFull) ↔ (old.limit ≤ length old.commits))
      → Commits rules.is_match old (write.Insert key tag) new → IsPermutation old.dead new.dead → new.finders ≡ old.finders
      → (after : Told K A) × RepliesInsert key tag (answer.Committed n) told after × IsAsTold rules new after
  insert_committed key tag n r e m f c d w = (
    record told { commits = told.commits ++ write.Insert key tag ∷ [] },
    (λ h. let x : r ≡ Err refusal.CommitsFull = f.1 (full_told.1 h) in let y : Ok n ≡ Err refusal.CommitsFull = sym e ∙ x in absurd (cc), omega (arith, m, ap length t.commits), refl),
    told_insert rules old told t key tag new c d w,
  )

  pub insert_refused : (key : K) (tag : ℕ) (why : Refusal) (r : Result ℕ Refusal) → r ≡ Err why → ((r ≡ Err refusal.CommitsFull) ↔ (old.limit ≤ length old.commits))
      → (why ≡ refusal.OutOfMemory) ⊎ (why ≡ refusal.CommitsFull) ⊎ ((why ≡ refusal.PagesFull) × (new.pages_left < 2)) → Keeps rules.is_match old new → new.finders ≡ old.finders
      → new.page_limit ≤ new.pages_left + length new.commits + 1 → (after : Told K A) × RepliesInsert key tag (answer.Refused why) told after × IsAsTold rules new after
  insert_refused key tag why r e f w k n few = says why e w
    where
      full : Told K A
      full = record told { pages_full = true }

      finders : new.finders ≤ told.finders
      finders = omega (arith, t.finders, n)

      kept : IsAsTold rules new told
      kept = told_kept rules old told t new told.finders k finders

      not_full : (x : Refusal) → r ≡ Err x → (x ≡ refusal.CommitsFull → ⊥) → IsFullAsTold told → ⊥
      not_full x p d h = let y : r ≡ Err refusal.CommitsFull = f.1 (full_told.1 h) in let z : Err x ≡ Err refusal.CommitsFull = sym p ∙ y in d (cc)

      lacking : new.pages_left < 2 → MayLackPages told
      lacking less = omega (arith, less, few, k.page_limit, t.page_limit, ap length k.commits, ap length t.commits)

      says : (x : Refusal) → r ≡ Err x → (x ≡ refusal.OutOfMemory) ⊎ (x ≡ refusal.CommitsFull) ⊎ ((x ≡ refusal.PagesFull) × (new.pages_left < 2))
          → (after : Told K A) × RepliesInsert key tag (answer.Refused x) told after × IsAsTold rules new after
      says x p (inl a) = (told, subst (λ y. RepliesInsert key tag (answer.Refused y) told told) (sym a) (not_full refusal.OutOfMemory (p ∙ ap Err a) (λ q. cc), refl), kept)
      says x p (inr (inl a)) = (told, subst (λ y. RepliesInsert key tag (answer.Refused y) told told) (sym a) (full_told.0 (f.0 (p ∙ ap Err a)), refl), kept)
      says x p (inr (inr a)) = (
        full,
        subst (λ y. RepliesInsert key tag (answer.Refused y) told full) (sym a.0) (not_full refusal.PagesFull (p ∙ ap Err a.0) (λ q. cc), lacking a.1, refl),
        told_full rules old told t new k finders a.1,
      )

  -- the clauses about why a row isn't ended
  pub record EndRefusals (row : ℕ) (r : Result ℕ Refusal) : Type 0 where
    pub never : (r ≡ Err refusal.NoSuchRow) ↔ (status_of old.commits row ≡ NeverIssued)
    pub already : (r ≡ Err refusal.AlreadyDeleted) ↔ (status_of old.commits row ≡ Dead)
    pub full : (r ≡ Err refusal.CommitsFull) ↔ ((status_of old.commits row ≡ Live) × (old.limit ≤ length old.commits))

  -- if the refusal isn't because of its row, the row is live
  lives : (row : ℕ) (r : Result ℕ Refusal) → EndRefusals row r → (r ≡ Err refusal.NoSuchRow → ⊥) → (r ≡ Err refusal.AlreadyDeleted → ⊥) → status_of told.commits row ≡ Live
  lives row r d n a = ap (λ l. status_of l row) t.commits ∙ go (status_of old.commits row) refl
    where
      go : (s : Status) → status_of old.commits row ≡ s → status_of old.commits row ≡ Live
      go NeverIssued e = absurd (n (d.never.1 e))
      go Dead e = absurd (a (d.already.1 e))
      go Live e = e

  room_left : (row : ℕ) (r : Result ℕ Refusal) → EndRefusals row r → status_of told.commits row ≡ Live → (r ≡ Err refusal.CommitsFull → ⊥) → IsFullAsTold told → ⊥
  room_left row r d l n h = n (d.full.1 (ap (λ c. status_of c row) (sym t.commits) ∙ l, full_told.1 h))

  -- a row that was ended was live, and there was room for a commit
  may_end : (row n : ℕ) (r : Result ℕ Refusal) → r ≡ Ok n → EndRefusals row r → (status_of told.commits row ≡ Live) × (IsFullAsTold told → ⊥)
  may_end row n r e d =
      let l = lives row r d (λ x. let y : Ok n ≡ Err refusal.NoSuchRow = sym e ∙ x in cc) (λ x. let y : Ok n ≡ Err refusal.AlreadyDeleted = sym e ∙ x in cc) in
      (l, room_left row r d l (λ x. let y : Ok n ≡ Err refusal.CommitsFull = sym e ∙ x in cc))

  pub delete_committed : (row n : ℕ) (r : Result ℕ Refusal) → r ≡ Ok n → n ≡ length old.commits + 1 → EndRefusals row r → Commits rules.is_match old (write.Delete row) new
      → IsPermutation ((record { row = row; died = length old.commits + 1 }) ∷ old.dead) new.dead → new.finders ≤ old.finders + 1
      → (after : Told K A) × RepliesDelete row (answer.Committed n) told after × IsAsTold rules new after
  delete_committed row n r e m d c p w =
      let may = may_end row n r e d in (
        record told { commits = told.commits ++ write.Delete row ∷ []; dead = (record { row = row; died = n }) ∷ told.dead; finders = told.finders + 1 },
        (may.0, may.1, omega (arith, m, ap length t.commits), refl),
        told_end rules old told t (write.Delete row) row n new c m p w,
      )

  pub move_committed : (row : ℕ) (key : K) (n : ℕ) (r : Result ℕ Refusal) → r ≡ Ok n → n ≡ length old.commits + 1 → EndRefusals row r → Commits rules.is_match old (write.Move row key) new
      → IsPermutation ((record { row = row; died = length old.commits + 1 }) ∷ old.dead) new.dead → new.finders ≤ old.finders + 1
      → (after : Told K A) × RepliesMove row key (answer.Committed n) told after × IsAsTold rules new after
  move_committed row key n r e m d c p w =
      let may = may_end row n r e d in (
        record told { commits = told.commits ++ write.Move row key ∷ []; dead = (record { row = row; died = n }) ∷ told.dead; finders = told.finders + 1 },
        (may.0, may.1, omega (arith, m, ap length t.commits), refl),
        told_end rules old told t (write.Move row key) row n new c m p w,
      )

  module _ (row : ℕ) (why : Refusal) (r : Result ℕ Refusal) (e : r ≡ Err why) (d : EndRefusals row r) where
    other : (x y : Refusal) → why ≡ x → (x ≡ y → ⊥) → r ≡ Err y → ⊥
    other x y a q s = let z : Err why ≡ Err y = sym e ∙ s in let f : why ≡ y = cc in q (sym a ∙ f)

    -- refused for a reason other than its row: the row is live, and there was room for a commit
    may_else : (x : Refusal) → why ≡ x → (x ≡ refusal.NoSuchRow → ⊥) → (x ≡ refusal.AlreadyDeleted → ⊥) → (x ≡ refusal.CommitsFull → ⊥) → (status_of told.commits row ≡ Live) × (IsFullAsTold told → ⊥)
    may_else x a never already full = let l = lives row r d (other x refusal.NoSuchRow a never) (other x refusal.AlreadyDeleted a already) in (l, room_left row r d l (other x refusal.CommitsFull a full))

    pub end_refused : MayRefuseDelete old why → Keeps rules.is_match old new → (why ≢ refusal.OutOfMemory → new.finders ≡ old.finders) → new.finders ≤ old.finders + 1
        → (after : Told K A) × RefusesToEnd row why told after × IsAsTold rules new after
    end_refused w k u n = says w
      where
        -- such a refusal uses up no finder
        alike : (x : Refusal) → why ≡ x → (x ≡ refusal.OutOfMemory → ⊥) → RefusesToEnd row x told told → (after : Told K A) × RefusesToEnd row why told after × IsAsTold rules new after
        alike x a q said = (told, subst (λ y. RefusesToEnd row y told told) (sym a) said, told_kept rules old told t new told.finders k (omega (arith, t.finders, u (λ z. q (sym a ∙ z)))))

        says : MayRefuseDelete old why → (after : Told K A) × RefusesToEnd row why told after × IsAsTold rules new after
        says (inl a) = alike refusal.NoSuchRow a (λ z. cc) (ap (λ l. status_of l row) t.commits ∙ d.never.0 (e ∙ ap Err a), refl)
        says (inr (inl a)) = alike refusal.AlreadyDeleted a (λ z. cc) (ap (λ l. status_of l row) t.commits ∙ d.already.0 (e ∙ ap Err a), refl)
        says (inr (inr (inl a))) = let h = d.full.0 (e ∙ ap Err a) in alike refusal.CommitsFull a (λ z. cc) (ap (λ l. status_of l row) t.commits ∙ h.0, full_told.0 h.1, refl)
        says (inr (inr (inr (inl a)))) =
            let may = may_else refusal.OutOfMemory a (λ z. cc) (λ z. cc) (λ z. cc) in (
              record told { finders = told.finders + 1 },
              subst (λ y. RefusesToEnd row y told (record told { finders = told.finders + 1 })) (sym a) (may.0, may.1, refl),
              told_kept rules old told t new (told.finders + 1) k (omega (arith, t.finders, n)),
            )
        says (inr (inr (inr (inr a)))) =
            let may = may_else refusal.FindersFull a.0 (λ z. cc) (λ z. cc) (λ z. cc) in
            alike refusal.FindersFull a.0 (λ z. cc) (may.0, may.1, omega (arith, t.finders, a.1), refl)

    pub move_refused : (key : K) → MayRefuseMove old new why → Keeps rules.is_match old new → (why ≢ refusal.OutOfMemory → new.finders ≡ old.finders) → new.finders ≤ old.finders + 1
        → new.page_limit ≤ new.pages_left + length new.commits + 1 → (after : Told K A) × RepliesMove row key (answer.Refused why) told after × IsAsTold rules new after
    move_refused key (inl w) k u n few = let said = end_refused w k u n in (said.0, inl said.1, said.2)
    move_refused key (inr w) k u n few =
        let may = may_else refusal.PagesFull w.0 (λ z. cc) (λ z. cc) (λ z. cc) in
        let finders : new.finders ≤ told.finders = omega (arith, t.finders, u (λ z. let f : refusal.PagesFull ≡ refusal.OutOfMemory = sym w.0 ∙ z in cc)) in (
          record told { pages_full = true },
          inr (w.0, may.0, may.1, omega (arith, w.1, few, k.page_limit, t.page_limit, ap length k.commits, ap length t.commits), refl),
          told_full rules old told t new k finders w.1,
        )

  -- the clauses about why an opening is refused, for a query that is not too deep
  bad_room : (query : Query A) (room : ℕ) → depth_of query ≤ 32 → IsBadOpening query room ↔ IsBadRoom room
  bad_room query room s = (
    λ h. ⊎_elim (λ (a : room ≡ 0). inl a) (λ (b : (4096 < room) ⊎ (32 < depth_of query)). ⊎_elim (λ (x : 4096 < room). inr x) (λ (x : 32 < depth_of query). absurd (omega (arith, s, x))) b) h,
    λ h. ⊎_elim (λ (a : room ≡ 0). inl a) (λ (x : 4096 < room). inr (inl x)) h,
  )

  none_left : IsFullOf old ↔ HasNoCursorLeft told
  none_left = (
    λ h. ⊎_elim (λ (a : 256 ≤ length old.cursors). inl (omega (arith, a, t.open_cursors))) (λ (b : 4294967295 ≤ old.last). inr (omega (arith, b, t.last))) h,
    λ h. ⊎_elim (λ (a : 256 ≤ told.open_cursors). inl (omega (arith, a, t.open_cursors))) (λ (b : 4294967295 ≤ told.last). inr (omega (arith, b, t.last))) h,
  )

  -- when opening a cursor is refused, by what was told: first for the room, then for the commit to follow, if any
  record IsRefusedBy (room : ℕ) (from : Option ℕ) (query : Query A) (r : Result ℕ Refusal) : Type 0 where
    pub shallow : depth_of query ≤ 32
    pub bad : (r ≡ Err refusal.BadConfig) ↔ IsBadOpening query room
    pub future : (r ≡ Err refusal.FromFuture) ↔ ((¬ IsBadOpening query room) × IsAhead told from)
    pub full : (r ≡ Err refusal.CursorsFull) ↔ ((¬ IsBadOpening query room) × (¬ IsAhead told from) × IsFullOf old)

  module _ (room : ℕ) (from : Option ℕ) (query : Query A) (r : Result ℕ Refusal) (by : IsRefusedBy room from query r) where
    -- if the answer is none of these refusals, the cursor may begin, and a serial was left
    may_begin : (r ≡ Err refusal.BadConfig → ⊥) → (r ≡ Err refusal.FromFuture → ⊥) → MayBegin told room from
    may_begin b f =
        let good : IsBadOpening query room → ⊥ = λ h. b (by.bad.1 h) in
        record { room_is_good = λ h. good ((bad_room query room by.shallow).1 h); is_there = λ h. f (by.future.1 (good, h)) }

    is_left : (r ≡ Err refusal.BadConfig → ⊥) → (r ≡ Err refusal.FromFuture → ⊥) → (r ≡ Err refusal.CursorsFull → ⊥) → HasNoCursorLeft told → ⊥
    is_left b f c h = c (by.full.1 (λ g. b (by.bad.1 g), (may_begin b f).is_there, none_left.1 h))

    opens_at : (follows : Bool) (opened c : ℕ) → r ≡ Ok c → IsBegun rules old told t from follows opened → IsOpened rules.is_match old query follows opened c new
        → (after : Told K A) × RepliesOpen room from query (answer.Opened c) told after × IsAsTold rules new after
    opens_at follows opened c e begun o =
        let b : r ≡ Err refusal.BadConfig → ⊥ = λ x. (let y : Ok c ≡ Err refusal.BadConfig = sym e ∙ x in cc) in
        let f : r ≡ Err refusal.FromFuture → ⊥ = λ x. (let y : Ok c ≡ Err refusal.FromFuture = sym e ∙ x in cc) in
        let n : r ≡ Err refusal.CursorsFull → ⊥ = λ x. (let y : Ok c ≡ Err refusal.CursorsFull = sym e ∙ x in cc) in (
          record told { cursors = _; open_cursors = told.open_cursors + 1; last = c },
          (may_begin b f, is_left b f n, omega (arith, o.serial, t.last), refl),
          told_opened rules old told t query from follows opened c new begun o,
        )

    refuses_opening : (why : Refusal) → r ≡ Err why → (why ≡ refusal.FromFuture) ⊎ (why ≡ refusal.BadConfig) ⊎ (why ≡ refusal.CursorsFull) ⊎ (why ≡ refusal.OutOfMemory) → new ≡ old
        → (after : Told K A) × RepliesOpen room from query (answer.Refused why) told after × IsAsTold rules new after
    refuses_opening why e w n = (told, says why e w, subst (λ (x : StoreState K A). IsAsTold rules x told) (sym n) t)
      where
        says : (x : Refusal) → r ≡ Err x → (x ≡ refusal.FromFuture) ⊎ (x ≡ refusal.BadConfig) ⊎ (x ≡ refusal.CursorsFull) ⊎ (x ≡ refusal.OutOfMemory) → RepliesOpen room from query (answer.Refused x) told told
        says x p (inl a) =
            let h = by.future.0 (p ∙ ap Err a) in
            subst (λ y. RepliesOpen room from query (answer.Refused y) told told) (sym a) (λ g. h.0 ((bad_room query room by.shallow).1 g), h.1, refl)
        says x p (inr (inl a)) = subst (λ y. RepliesOpen room from query (answer.Refused y) told told) (sym a) ((bad_room query room by.shallow).0 (by.bad.0 (p ∙ ap Err a)), refl)
        says x p (inr (inr (inl a))) =
            let h = by.full.0 (p ∙ ap Err a) in
            subst (λ y. RepliesOpen room from query (answer.Refused y) told told) (sym a)
            (record { room_is_good = λ g. h.0 ((bad_room query room by.shallow).1 g); is_there = h.1 }, none_left.0 h.2, refl)
        says x p (inr (inr (inr a))) =
            let q : r ≡ Err refusal.OutOfMemory = p ∙ ap Err a in
            let b : r ≡ Err refusal.BadConfig → ⊥ = λ x. (let y : Err refusal.OutOfMemory ≡ Err refusal.BadConfig = sym q ∙ x in cc) in
            let f : r ≡ Err refusal.FromFuture → ⊥ = λ x. (let y : Err refusal.OutOfMemory ≡ Err refusal.FromFuture = sym q ∙ x in cc) in
            let c : r ≡ Err refusal.CursorsFull → ⊥ = λ x. (let y : Err refusal.OutOfMemory ≡ Err refusal.CursorsFull = sym q ∙ x in cc) in
            subst (λ y. RepliesOpen room from query (answer.Refused y) told told) (sym a) (may_begin b f, is_left b f c, refl)

  -- at the present commits
  by_now : (room : ℕ) (query : Query A) (r : Result ℕ Refusal) → depth_of query ≤ 32 → ((r ≡ Err refusal.BadConfig) ↔ IsBadOpening query room)
      → ((r ≡ Err refusal.CursorsFull) ↔ ((¬ IsBadOpening query room) × IsFullOf old)) → (r ≡ Err refusal.FromFuture → ⊥) → IsRefusedBy room None query r
  by_now room query r s b f n = record {
    shallow = s;
    bad = b;
    future = (λ e. absurd (n e), λ h. absurd h.1);
    full = (λ e. let h = f.0 e in (h.0, λ a. a, h.1), λ h. f.1 (h.0, h.2));
  }

  pub opens : (room c : ℕ) (query : Query A) (r : Result ℕ Refusal) → r ≡ Ok c → depth_of query ≤ 32 → ((r ≡ Err refusal.BadConfig) ↔ IsBadOpening query room)
      → ((r ≡ Err refusal.CursorsFull) ↔ ((¬ IsBadOpening query room) × IsFullOf old)) → IsOpened rules.is_match old query false (length old.commits) c new
      → (after : Told K A) × RepliesOpen room None query (answer.Opened c) told after × IsAsTold rules new after
  opens room c query r e s b f o =
      opens_at room None query r (by_now room query r s b f (λ x. (let y : Ok c ≡ Err refusal.FromFuture = sym e ∙ x in cc))) false (length old.commits) c e (begun_now rules old told t) o

  pub open_refused : (room : ℕ) (query : Query A) (why : Refusal) (r : Result ℕ Refusal) → r ≡ Err why → depth_of query ≤ 32 → ((r ≡ Err refusal.BadConfig) ↔ IsBadOpening query room)
      → ((r ≡ Err refusal.CursorsFull) ↔ ((¬ IsBadOpening query room) × IsFullOf old)) → (why ≡ refusal.BadConfig) ⊎ (why ≡ refusal.CursorsFull) ⊎ (why ≡ refusal.OutOfMemory) → new ≡ old
      → (after : Told K A) × RepliesOpen room None query (answer.Refused why) told after × IsAsTold rules new after
  open_refused room query why r e s b f w n =
      refuses_opening room None query r (by_now room query r s b f (λ x. never why w (let y : Err why ≡ Err refusal.FromFuture = sym e ∙ x in cc))) why e (inr w) n
    where
      never : (x : Refusal) → (x ≡ refusal.BadConfig) ⊎ (x ≡ refusal.CursorsFull) ⊎ (x ≡ refusal.OutOfMemory) → x ≡ refusal.FromFuture → ⊥
      never x (inl a) h = let z : refusal.BadConfig ≡ refusal.FromFuture = sym a ∙ h in cc
      never x (inr (inl a)) h = let z : refusal.CursorsFull ≡ refusal.FromFuture = sym a ∙ h in cc
      never x (inr (inr a)) h = let z : refusal.OutOfMemory ≡ refusal.FromFuture = sym a ∙ h in cc

  -- after a commit
  by_commit : (room commit : ℕ) (query : Query A) (r : Result ℕ Refusal) → depth_of query ≤ 32 → ((r ≡ Err refusal.BadConfig) ↔ IsBadOpening query room)
      → ((r ≡ Err refusal.FromFuture) ↔ IsFromFuture old query room commit) → ((r ≡ Err refusal.CursorsFull) ↔ HasNoFollowerFor old query room commit) → IsRefusedBy room (Some commit) query r
  by_commit room commit query r s b f c =
      let many : length told.commits ≡ length old.commits = ap length t.commits in
      record {
        shallow = s;
        bad = b;
        future = (λ e. let h = f.0 e in (h.0, omega (arith, h.1, many)), λ h. f.1 (h.0, omega (arith, h.1, many)));
        full = (λ e. let h = c.0 e in (h.0, λ a. omega (arith, a, h.1, many), h.2), λ h. c.1 (h.0, there h.1 many, h.2));
      }
    where
      there : ((length told.commits < commit) → ⊥) → length told.commits ≡ length old.commits → commit ≤ length old.commits
      there h many = subst (λ n. commit ≤ n) many (not_less (length told.commits) commit h)

  pub follows : (room commit c : ℕ) (query : Query A) (r : Result ℕ Refusal) → r ≡ Ok c → depth_of query ≤ 32 → ((r ≡ Err refusal.BadConfig) ↔ IsBadOpening query room)
      → ((r ≡ Err refusal.FromFuture) ↔ IsFromFuture old query room commit) → ((r ≡ Err refusal.CursorsFull) ↔ HasNoFollowerFor old query room commit) → IsOpened rules.is_match old query true commit c new
      → (after : Told K A) × RepliesOpen room (Some commit) query (answer.Opened c) told after × IsAsTold rules new after
  follows room commit c query r e s b f n o = opens_at room (Some commit) query r (by_commit room commit query r s b f n) true commit c e (begun_behind rules old told t commit) o

  pub follow_refused : (room commit : ℕ) (query : Query A) (why : Refusal) (r : Result ℕ Refusal) → r ≡ Err why → depth_of query ≤ 32 → ((r ≡ Err refusal.BadConfig) ↔ IsBadOpening query room)
      → ((r ≡ Err refusal.FromFuture) ↔ IsFromFuture old query room commit) → ((r ≡ Err refusal.CursorsFull) ↔ HasNoFollowerFor old query room commit) → RefusesFollower why → new ≡ old
      → (after : Told K A) × RepliesOpen room (Some commit) query (answer.Refused why) told after × IsAsTold rules new after
  follow_refused room commit query why r e s b f n w same = refuses_opening room (Some commit) query r (by_commit room commit query r s b f n) why e w same

  pub swept : (n : ℕ) → SweepsStore rules.is_match old n new → (after : Told K A) × RepliesSweep (answer.Swept n) told after × IsAsTold rules new after
  swept n s =
      let gone = filter (λ (d : DeadRow). not (is_dead_needed old d)) old.dead in
      let both : IsPermutation old.dead (gone ++ filter (is_dead_needed old) old.dead) =
      IsPermutation-trans _ _ _ (IsPermutation-filter_both (is_dead_needed old) (λ (d : DeadRow). not (is_dead_needed old d)) (λ d. refl) old.dead) (IsPermutation-append_comm (filter (is_dead_needed old) old.dead) gone) in
      let parted : IsPermutation told.dead (gone ++ new.dead) = IsPermutation-trans _ _ _ t.dead (IsPermutation-trans _ _ _ both (IsPermutation-append_right gone _ _ s.left)) in
      let many : n ≡ length gone = omega (arith, s.counted, length_permutation _ _ t.dead, length_permutation _ _ parted, length-append gone new.dead) in
      (record told { dead = new.dead }, (gone, new.dead, parted, many, each_needed rules old told t new.dead s.needed, refl), told_swept rules old told t new s.rest)

  pub swept_some : SweepsStorePart rules.is_match old new → (after : Told K A) × RepliesSweep (answer.Refused refusal.OutOfMemory) told after × IsAsTold rules new after
  swept_some s = (record told { dead = new.dead }, (s.gone, new.dead, IsPermutation-trans _ _ _ t.dead s.parted, refl), told_swept rules old told t new s.rest)

  pub next_given : (c : ℕ) (given : Item K) → Nexts rules.is_match old c (Some given) new → (after : Told K A) × RepliesNext rules c (answer.Given given) told after × IsAsTold rules new after
  next_given c given n =
      let k = told_given rules old told t c given new n in
      (record told { cursors = with_client_cursor told.cursors c (Ok (record k.f { given = k.f.given ++ given ∷ []; asked = k.asked })) }, (k.f, k.asked, k.is, k.gives, k.begins, refl), k.after)

  pub next_empty : (c : ℕ) → Nexts rules.is_match old c None new → (after : Told K A) × RepliesNext rules c answer.Empty told after × IsAsTold rules new after
  next_empty c n = let k = told_empty rules old told t c new n in (told, (k.f, k.is, k.unasked, k.listing, refl), k.after)

  pub next_refused : (c : ℕ) (why : Refusal) → RefusesNext rules.is_match old c why new → (after : Told K A) × RepliesNext rules c (answer.Refused why) told after × IsAsTold rules new after
  next_refused c why (inl p) = (told, (inl (told_refusal rules old told t c why p.0), refl), subst (λ (x : StoreState K A). IsAsTold rules x told) (sym p.1) t)
  next_refused c why (inr p) = let w = told_wanting rules old told t c new p.1 in (told, (inr (p.0, w.0.0, w.0.1), refl), w.1)

  pub mark_asked : (c : ℕ) → ChangesCursor with_asking old c new → (after : Told K A) × RepliesMark c answer.Asked told after × IsAsTold rules new after
  mark_asked c n =
      let k = told_asked rules old told t c new n in
      (record told { cursors = with_client_cursor told.cursors c (Ok (record k.0 { asked = true })) }, (k.0, k.1, refl), k.2)

  pub closes : (c : ℕ) → Closes old c new → (after : Told K A) × RepliesClose c answer.Closed told after × IsAsTold rules new after
  closes c n =
      let k = told_closed rules old told t c new n in
      (record told { cursors = with_client_cursor told.cursors c (Err refusal.CursorClosed); open_cursors = told.open_cursors - 1 }, (k.0, k.1, refl), k.2)

-- a query whose text is refused, or for which memory ran out
pub refused_query : {K A : Type 0} (texts : Texts K A) (rules : Rules K A) (old : StoreState K A) (told : Told K A) → IsAsTold rules old told → (len : ℕ) (ts : List Placed) (replies : Query A → Answer K → Told K A → Told K A → Type 0) (why : Refusal) → IsParseRefusal why
    → ((place : ℕ) → why ≡ refusal.QueryText place → RefusesTokens texts len ts place) → (after : Told K A) × WithQuery texts len ts replies (answer.Refused why) told after × IsAsTold rules old after
refused_query texts rules old told t len ts replies why (inl memory) refuses = (told, inr (inr (ap answer.Refused memory, refl)), t)
refused_query texts rules old told t len ts replies why (inr at) refuses = (told, inr (inl (at.0, refuses at.0 at.1, ap answer.Refused at.1, refl)), t)
