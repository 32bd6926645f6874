-- Lists whose members have serials that rise.
use Rattle.std.proofs.Common.{◌≡◌, ◌≢◌, ◌<◌, ◌≤◌, ℕ, suc, zero, Bool, true, false, not, cond, List, [], ◌∷◌, ◌++◌, length, take, drop, Some, None, refl, sym, ap, ◌∙◌, arith, subst, All}
use Rattle.std.specs.Prelude.{nat_eq, slice_get, slice_set, if◌then◌else◌}
use Rattle.std.proofs.lemmas.List.Elements.{All-head, All-tail, All-nil, All-cons, All-append}
use Rattle.world.specs.Serials.{member, put, without, Rise}

module _ {X : Type 0} (serial : X → ℕ) where
  pub rise_within : (above last : ℕ) (xs : List X) → Rise serial above last xs → above ≤ last
  rise_within above last [] r = r
  rise_within above last (x ∷ xs) r = omega (arith, r.0, rise_within (serial x) last xs r.1)

  pub rise_weaker : (above below last : ℕ) (xs : List X) → below ≤ above → Rise serial above last xs → Rise serial below last xs
  rise_weaker above below last [] l r = omega (arith, l, r)
  rise_weaker above below last (x ∷ xs) l r = (omega (arith, l, r.0), r.1)

  pub rise_push : (above last : ℕ) (xs : List X) (x : X) → last < serial x → Rise serial above last xs → Rise serial above (serial x) (xs ++ x ∷ [])
  rise_push above last [] x l r = (omega (arith, l, r), omega arith)
  rise_push above last (y ∷ xs) x l r = (r.0, rise_push (serial y) last xs x l r.1)

  pub rise_without : (c above last : ℕ) (xs : List X) → Rise serial above last xs → Rise serial above last (without serial c xs)
  rise_without c above last [] r = r
  rise_without c above last (x ∷ xs) r = go (not (nat_eq (serial x) c)) (rise_without c (serial x) last xs r.1)
    where
      go : (b : Bool) → Rise serial (serial x) last (without serial c xs) → Rise serial above last (cond b (x ∷ without serial c xs) (without serial c xs))
      go true s = (r.0, s)
      go false s = rise_weaker (serial x) above last (without serial c xs) (omega (arith, r.0)) s

  pub rise_put : (x : X) (above last : ℕ) (xs : List X) → Rise serial above last xs → Rise serial above last (put serial x xs)
  rise_put x above last [] r = r
  rise_put x above last (y ∷ xs) r = go (nat_eq (serial y) (serial x)) refl (rise_put x (serial y) last xs r.1)
    where
      go : (b : Bool) → nat_eq (serial y) (serial x) ≡ b → Rise serial (serial y) last (put serial x xs) → Rise serial above last (if b then x ∷ xs else y ∷ put serial x xs)
      go true e s = let f : serial y ≡ serial x = search (arith, e) in (omega (arith, r.0, f), subst (λ n. Rise serial n last xs) f r.1)
      go false e s = (r.0, s)

  -- the member that is found has the serial, and it lies within the bounds
  pub member_serial : (c : ℕ) (xs : List X) (x : X) → member serial c xs ≡ Some x → serial x ≡ c
  member_serial c [] x h = absurd (cc)
  member_serial c (y ∷ xs) x h = go (nat_eq (serial y) c) refl (member_serial c xs x) h
    where
      go : (b : Bool) → nat_eq (serial y) c ≡ b → (member serial c xs ≡ Some x → serial x ≡ c) → (if b then Some y else member serial c xs) ≡ Some x → serial x ≡ c
      go true e s f = let g : y ≡ x = cc in let i : serial y ≡ c = search (arith, e) in ap serial (sym g) ∙ i
      go false e s f = s f

  pub member_within : (c above last : ℕ) (xs : List X) (x : X) → Rise serial above last xs → member serial c xs ≡ Some x → (above < c) × (c ≤ last)
  member_within c above last [] x r h = absurd (cc)
  member_within c above last (y ∷ xs) x r h = go (nat_eq (serial y) c) refl (member_within c (serial y) last xs x r.1) h
    where
      go : (b : Bool) → nat_eq (serial y) c ≡ b → (member serial c xs ≡ Some x → (serial y < c) × (c ≤ last)) → (if b then Some y else member serial c xs) ≡ Some x → (above < c) × (c ≤ last)
      go true e s f = let i : serial y ≡ c = search (arith, e) in (omega (arith, r.0, i), omega (arith, i, rise_within (serial y) last xs r.1))
      go false e s f = (omega (arith, r.0, (s f).0), (s f).1)

  -- it has a place
  pub member_place : (c : ℕ) (xs : List X) (x : X) → member serial c xs ≡ Some x → (i : ℕ) × (slice_get xs i ≡ Some x)
  member_place c [] x h = absurd (cc)
  member_place c (y ∷ xs) x h = go (nat_eq (serial y) c) (λ f. member_place c xs x f) h
    where
      go : (b : Bool) → (member serial c xs ≡ Some x → (i : ℕ) × (slice_get xs i ≡ Some x)) → (if b then Some y else member serial c xs) ≡ Some x → (i : ℕ) × (slice_get (y ∷ xs) i ≡ Some x)
      go true s f = (0, f)
      go false s f = (suc (s f).0, (s f).1)

  pub member_all : (P : X → Type 0) (c : ℕ) (xs : List X) (x : X) → member serial c xs ≡ Some x → All P xs → P x
  member_all P c [] x h a = absurd (cc)
  member_all P c (y ∷ xs) x h a = go (nat_eq (serial y) c) (λ f. member_all P c xs x f (All-tail P y xs a)) h
    where
      go : (b : Bool) → (member serial c xs ≡ Some x → P x) → (if b then Some y else member serial c xs) ≡ Some x → P x
      go true s f = let g : y ≡ x = cc in subst P g (All-head P y xs a)
      go false s f = s f

  pub all_put : (P : X → Type 0) (x : X) (xs : List X) → P x → All P xs → All P (put serial x xs)
  all_put P x [] p a = a
  all_put P x (y ∷ xs) p a = go (nat_eq (serial y) (serial x)) (all_put P x xs p (All-tail P y xs a))
    where
      go : (b : Bool) → All P (put serial x xs) → All P (if b then x ∷ xs else y ∷ put serial x xs)
      go true s = All-cons P x xs p (All-tail P y xs a)
      go false s = All-cons P y (put serial x xs) (All-head P y xs a) s

  pub all_without : (P : X → Type 0) (c : ℕ) (xs : List X) → All P xs → All P (without serial c xs)
  all_without P c [] a = a
  all_without P c (y ∷ xs) a = go (not (nat_eq (serial y) c)) (all_without P c xs (All-tail P y xs a))
    where
      go : (b : Bool) → All P (without serial c xs) → All P (cond b (y ∷ without serial c xs) (without serial c xs))
      go true s = All-cons P y (without serial c xs) (All-head P y xs a) s
      go false s = s

  pub all_push : (P : X → Type 0) (x : X) (xs : List X) → P x → All P xs → All P (xs ++ x ∷ [])
  all_push P x xs p a = All-append P xs (x ∷ []) a (All-cons P x [] p (All-nil P))

  pub length_put : (x : X) (xs : List X) → length (put serial x xs) ≡ length xs
  length_put x [] = refl
  length_put x (y ∷ xs) = go (nat_eq (serial y) (serial x)) (length_put x xs)
    where
      go : (b : Bool) → length (put serial x xs) ≡ length xs → length (if b then x ∷ xs else y ∷ put serial x xs) ≡ suc (length xs)
      go true s = refl
      go false s = ap suc s

  pub length_without : (c : ℕ) (xs : List X) → length (without serial c xs) ≤ length xs
  length_without c [] = omega arith
  length_without c (y ∷ xs) = go (not (nat_eq (serial y) c)) (length_without c xs)
    where
      go : (b : Bool) → length (without serial c xs) ≤ length xs → length (cond b (y ∷ without serial c xs) (without serial c xs)) ≤ suc (length xs)
      go true s = omega (arith, s)
      go false s = omega (arith, s)

  -- what is found after a member was put, taken out or added
  pub put_same : (c : ℕ) (x y : X) (xs : List X) → serial x ≡ c → member serial c xs ≡ Some y → member serial c (put serial x xs) ≡ Some x
  put_same c x y [] e h = absurd (cc)
  put_same c x y (z ∷ xs) e h = go (nat_eq (serial z) c) refl (put_same c x y xs e) h
    where
      go : (b : Bool) → nat_eq (serial z) c ≡ b → (member serial c xs ≡ Some y → member serial c (put serial x xs) ≡ Some x) → (if b then Some z else member serial c xs) ≡ Some y
          → member serial c (if nat_eq (serial z) (serial x) then x ∷ xs else z ∷ put serial x xs) ≡ Some x
      go true d s f = let t : nat_eq (serial x) c ≡ true = search (arith, e) in rw (e, d) (rw t refl)
      go false d s f = rw (e, d) (rw d (s f))

  pub put_other : (c : ℕ) (x : X) (xs : List X) → c ≢ serial x → member serial c (put serial x xs) ≡ member serial c xs
  put_other c x [] n = refl
  put_other c x (z ∷ xs) n = go (nat_eq (serial z) (serial x)) refl (put_other c x xs n)
    where
      go : (b : Bool) → nat_eq (serial z) (serial x) ≡ b → member serial c (put serial x xs) ≡ member serial c xs
          → member serial c (if b then x ∷ xs else z ∷ put serial x xs) ≡ member serial c (z ∷ xs)
      go true d s =
          let f : nat_eq (serial z) c ≡ false = search (arith, d, n) in
          let g : nat_eq (serial x) c ≡ false = search (arith, n) in
          rw (f, g) refl
      go false d s = ap (λ m. if nat_eq (serial z) c then Some z else m) s

  pub without_same : (c : ℕ) (xs : List X) → member serial c (without serial c xs) ≡ None
  without_same c [] = refl
  without_same c (y ∷ xs) = go (nat_eq (serial y) c) refl (without_same c xs)
    where
      go : (b : Bool) → nat_eq (serial y) c ≡ b → member serial c (without serial c xs) ≡ None → member serial c (cond (not b) (y ∷ without serial c xs) (without serial c xs)) ≡ None
      go true e s = s
      go false e s = rw e s

  pub without_other : (c d : ℕ) (xs : List X) → d ≢ c → member serial d (without serial c xs) ≡ member serial d xs
  without_other c d [] n = refl
  without_other c d (y ∷ xs) n = go (nat_eq (serial y) c) refl (without_other c d xs n)
    where
      go : (b : Bool) → nat_eq (serial y) c ≡ b → member serial d (without serial c xs) ≡ member serial d xs
          → member serial d (cond (not b) (y ∷ without serial c xs) (without serial c xs)) ≡ member serial d (y ∷ xs)
      go true e s = let f : nat_eq (serial y) d ≡ false = search (arith, e, n) in rw f s
      go false e s = ap (λ m. if nat_eq (serial y) d then Some y else m) s

  pub push_same : (c above last : ℕ) (x : X) (xs : List X) → serial x ≡ c → last < c → Rise serial above last xs → member serial c (xs ++ x ∷ []) ≡ Some x
  push_same c above last x [] e l r = let t : nat_eq (serial x) c ≡ true = search (arith, e) in rw t refl
  push_same c above last x (y ∷ xs) e l r =
      let w = rise_within (serial y) last xs r.1 in
      let t : nat_eq (serial y) c ≡ false = search (arith, w, l) in
      rw t (push_same c (serial y) last x xs e l r.1)

  pub push_other : (c : ℕ) (x : X) (xs : List X) → c ≢ serial x → member serial c (xs ++ x ∷ []) ≡ member serial c xs
  push_other c x [] n = let t : nat_eq (serial x) c ≡ false = search (arith, n) in rw t refl
  push_other c x (y ∷ xs) n = ap (λ m. if nat_eq (serial y) c then Some y else m) (push_other c x xs n)

  -- behind a serial all members have others
  pub without_none : (c last : ℕ) (xs : List X) → Rise serial c last xs → without serial c xs ≡ xs
  without_none c last [] r = refl
  without_none c last (y ∷ xs) r =
      let d : nat_eq (serial y) c ≡ false = search (arith, r.0) in
      rw d (ap (λ l. y ∷ l) (without_none c last xs (rise_weaker (serial y) c last xs (omega (arith, r.0)) r.1)))

  pub member_none : (c above last : ℕ) (xs : List X) → c ≤ above → Rise serial above last xs → member serial c xs ≡ None
  member_none c above last [] l r = refl
  member_none c above last (y ∷ xs) l r =
      let d : nat_eq (serial y) c ≡ false = search (arith, r.0, l) in
      rw d (member_none c (serial y) last xs (omega (arith, r.0, l)) r.1)

  -- a member by its place
  pub member_at : (c above last i : ℕ) (xs : List X) (x : X) → Rise serial above last xs → slice_get xs i ≡ Some x → serial x ≡ c → member serial c xs ≡ Some x
  member_at c above last i [] x r h e = absurd (cc)
  member_at c above last zero (y ∷ xs) x r h e = let f : y ≡ x = cc in let t : nat_eq (serial y) c ≡ true = search (arith, ap serial f, e) in rw t h
  member_at c above last (suc i) (y ∷ xs) x r h e =
      let m = member_at c (serial y) last i xs x r.1 h e in
      let w = member_within c (serial y) last xs x r.1 m in
      let t : nat_eq (serial y) c ≡ false = search (arith, w.0) in
      rw t m

  pub put_at : (c above last i : ℕ) (xs : List X) (x y : X) → Rise serial above last xs → slice_get xs i ≡ Some x → serial x ≡ c → serial y ≡ c → put serial y xs ≡ slice_set xs i y
  put_at c above last i [] x y r h e f = absurd (cc)
  put_at c above last zero (z ∷ xs) x y r h e f = let g : z ≡ x = cc in let t : nat_eq (serial z) (serial y) ≡ true = search (arith, ap serial g, e, f) in rw t refl
  put_at c above last (suc i) (z ∷ xs) x y r h e f =
      let m = member_at c (serial z) last i xs x r.1 h e in
      let w = member_within c (serial z) last xs x r.1 m in
      let t : nat_eq (serial z) (serial y) ≡ false = search (arith, w.0, f) in
      rw t (ap (λ l. z ∷ l) (put_at c (serial z) last i xs x y r.1 h e f))

  pub without_at : (c above last i : ℕ) (xs : List X) (x : X) → Rise serial above last xs → slice_get xs i ≡ Some x → serial x ≡ c → without serial c xs ≡ take i xs ++ drop (suc i) xs
  without_at c above last i [] x r h e = absurd (cc)
  without_at c above last zero (y ∷ xs) x r h e =
      let f : y ≡ x = cc in
      let s : serial y ≡ c = ap serial f ∙ e in
      let t : nat_eq (serial y) c ≡ true = search (arith, s) in
      rw t (without_none c last xs (subst (λ n. Rise serial n last xs) s r.1))
  without_at c above last (suc i) (y ∷ xs) x r h e =
      let m = member_at c (serial y) last i xs x r.1 h e in
      let w = member_within c (serial y) last xs x r.1 m in
      let t : nat_eq (serial y) c ≡ false = search (arith, w.0) in
      rw t (ap (λ l. y ∷ l) (without_at c (serial y) last i xs x r.1 h e))

  -- the member at a place, and none where it would have to stand between two neighbours
  pub member_searched : (c above last : ℕ) (xs : List X) (place : ℕ) → Rise serial above last xs
      → ((i : ℕ) (x : X) → i < place → slice_get xs i ≡ Some x → serial x < c) → ((i : ℕ) (x : X) → place ≤ i → slice_get xs i ≡ Some x → c < serial x) → member serial c xs ≡ None
  member_searched c above last [] place r low high = refl
  member_searched c above last (y ∷ xs) zero r low high =
      let d : nat_eq (serial y) c ≡ false = search (arith, high 0 y (omega arith) refl) in
      rw d (member_searched c (serial y) last xs zero r.1 (λ i x l h. absurd (omega (arith, l))) (λ i x l h. high (suc i) x (omega arith) h))
  member_searched c above last (y ∷ xs) (suc place) r low high =
      let d : nat_eq (serial y) c ≡ false = search (arith, low 0 y (omega arith) refl) in
      rw d (member_searched c (serial y) last xs place r.1 (λ i x l h. low (suc i) x (omega (arith, l)) h) (λ i x l h. high (suc i) x (omega (arith, l)) h))

  -- serials rise along the places
  pub rise_places : (above last i j : ℕ) (xs : List X) (x y : X) → Rise serial above last xs → i ≤ j → slice_get xs i ≡ Some x → slice_get xs j ≡ Some y → serial x ≤ serial y
  rise_places above last i j [] x y r l e f = absurd (cc)
  rise_places above last zero zero (z ∷ xs) x y r l e f = let g : x ≡ y = cc in omega (arith, ap serial g)
  rise_places above last zero (suc j) (z ∷ xs) x y r l e f =
      let g : z ≡ x = cc in
      let b = rise_above (serial z) last j xs y r.1 f in
      omega (arith, b, ap serial g)
    where
      rise_above : (above last j : ℕ) (xs : List X) (y : X) → Rise serial above last xs → slice_get xs j ≡ Some y → above < serial y
      rise_above above last j [] y r f = absurd (cc)
      rise_above above last zero (z ∷ xs) y r f = let g : z ≡ y = cc in omega (arith, r.0, ap serial g)
      rise_above above last (suc j) (z ∷ xs) y r f = omega (arith, r.0, rise_above (serial z) last j xs y r.1 f)
  rise_places above last (suc i) zero (z ∷ xs) x y r l e f = absurd (omega (arith, l))
  rise_places above last (suc i) (suc j) (z ∷ xs) x y r l e f = rise_places (serial z) last i j xs x y r.1 (omega (arith, l)) e f
