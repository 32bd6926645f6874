-- The numbered commits of a list, and of a list that gains one.
use Rattle.std.proofs.Common.{◌≡◌, ◌+◌, ◌-◌, ◌<◌, ℕ, zero, suc, Bool, true, false, ◌||◌, List, [], ◌∷◌, ◌++◌, length, Some, ◌⊎◌, inl, inr, refl, sym, ap, ◌∙◌, arith}
use Rattle.std.specs.Prelude.{nat_eq, slice_get}
use Rattle.change_list.proofs.Lists.{slice_get_before, slice_get_end, slice_get_push}
use Rattle.change_list.proofs.Pushing.{list_any-push}
use Rattle.change_list.proofs.Tracking.{commit_within, live_commit, live_made, live_within}
use Rattle.change_list.specs.Changes.{EndsRow, commit_at, ends, is_ended, makes, status_of}
use Rattle.change_list.specs.declared.write.Status.TheVariants.{Live}
use Rattle.change_list.specs.declared.write.Write.{Write}

pub or_right_false : (b c : Bool) → (b || c) ≡ false → c ≡ false
or_right_false true c h = cc
or_right_false false c h = h

pub or_left_false : (b c : Bool) → (b || c) ≡ false → b ≡ false
or_left_false true c h = cc
or_left_false false c h = refl

pub or_false : (b c : Bool) → b ≡ false → c ≡ false → (b || c) ≡ false
or_false true c h k = h
or_false false c h k = k

or_true_right : (b c : Bool) → c ≡ true → (b || c) ≡ true
or_true_right true c h = refl
or_true_right false c h = h

or_true_left : (b c : Bool) → b ≡ true → (b || c) ≡ true
or_true_left true c h = refl
or_true_left false c h = cc

above_zero : (n : ℕ) → 0 < n → nat_eq n 0 ≡ false
above_zero n h = search (arith, h)

module _ {K : Type 0} where
  -- the commit at a place has the place's number and one more
  pub commit_from : (commits : List (Write K)) (n : ℕ) (w : Write K) → 0 < n → slice_get commits (n - 1) ≡ Some w → commit_at commits n ≡ Some w
  commit_from commits n w l h = rw (above_zero n l) h

  pub commit_is : (commits : List (Write K)) (n : ℕ) (w : Write K) → commit_at commits n ≡ Some w → slice_get commits (n - 1) ≡ Some w
  commit_is commits n w c = let z = above_zero n (commit_within commits n w c).0 in rw z at c

  pub commit_push : (commits : List (Write K)) (x : Write K) (n : ℕ) (w : Write K) → commit_at commits n ≡ Some w → commit_at (commits ++ x ∷ []) n ≡ Some w
  commit_push commits x n w c =
      let l = commit_within commits n w c in
      commit_from (commits ++ x ∷ []) n w l.0 (slice_get_before commits (x ∷ []) (n - 1) (omega (arith, l.0, l.1)) ∙ commit_is commits n w c)

  pub commit_last : (commits : List (Write K)) (x : Write K) → commit_at (commits ++ x ∷ []) (length commits + 1) ≡ Some x
  commit_last commits x =
      let e : length commits + 1 - 1 ≡ length commits = omega arith in
      commit_from (commits ++ x ∷ []) (length commits + 1) x (omega arith) (ap (slice_get (commits ++ x ∷ [])) e ∙ slice_get_end commits x)

  -- a commit of the longer list is one of the shorter, or the last
  pub commit_pushed : (commits : List (Write K)) (x : Write K) (n : ℕ) (w : Write K) → commit_at (commits ++ x ∷ []) n ≡ Some w → (commit_at commits n ≡ Some w) ⊎ ((n ≡ length commits + 1) × (x ≡ w))
  commit_pushed commits x n w c =
      let l = commit_within (commits ++ x ∷ []) n w c in
      elim (slice_get_push commits x w (n - 1) (commit_is (commits ++ x ∷ []) n w c)) [
        | inl p ↦ inl (commit_from commits n w l.0 p.0)
        | inr p ↦ inr (omega (arith, p.0, l.0), p.1)
      ]

  pub ended_push : (commits : List (Write K)) (x : Write K) (row : ℕ) → is_ended (commits ++ x ∷ []) row ≡ (is_ended commits row || ends row x)
  ended_push commits x row = list_any-push (ends row) commits x

  ended_at : (commits : List (Write K)) (row i : ℕ) (w : Write K) → slice_get commits i ≡ Some w → ends row w ≡ true → is_ended commits row ≡ true
  ended_at [] row i w h e = absurd (cc)
  ended_at (c ∷ commits) row zero w h e =
      let same : c ≡ w = cc in
      or_true_left (ends row c) (is_ended commits row) (ap (ends row) same ∙ e)
  ended_at (c ∷ commits) row (suc i) w h e = or_true_right (ends row c) (is_ended commits row) (ended_at commits row i w h e)

  -- a row that a commit ends is ended
  pub ended_by : (commits : List (Write K)) (row n : ℕ) → EndsRow commits n row → is_ended commits row ≡ true
  ended_by commits row n c = ended_at commits row (n - 1) c.write (commit_is commits n c.write c.is) c.ending

  -- and so it is behind a further commit
  pub ends_push : (commits : List (Write K)) (x : Write K) (n row : ℕ) → EndsRow commits n row → EndsRow (commits ++ x ∷ []) n row
  ends_push commits x n row c = record { write = c.write; is = commit_push commits x n c.write c.is; ending = c.ending }

  -- what is live after a commit was live before it, or that commit makes it
  pub live_pushed : (commits : List (Write K)) (x : Write K) (n : ℕ) → status_of (commits ++ x ∷ []) n ≡ Live → (status_of commits n ≡ Live) ⊎ ((n ≡ length commits + 1) × (makes x ≡ true))
  live_pushed commits x n h =
      let l = live_commit (commits ++ x ∷ []) n h in
      elim (commit_pushed commits x n l.write l.is) [
        | inl c ↦ inl (live_made commits n l.write c l.makes_it (or_left_false (is_ended commits n) (ends n x) (sym (ended_push commits x n) ∙ l.kept)))
        | inr e ↦ inr (e.0, ap makes e.1 ∙ l.makes_it)
      ]

-- nothing was live before the first commit
pub none_live : (K : Type 0) (n : ℕ) → status_of {K = K} [] n ≡ Live → ⊥
none_live K n h = let w = live_within {K = K} [] n h in omega (arith, w.0, w.1)
