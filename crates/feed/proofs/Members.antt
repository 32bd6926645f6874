-- Members of lists.
use Rattle.std.proofs.Common.{◌≡◌, ◌≢◌, ◌<◌, ℕ, zero, suc, Bool, true, false, cond, List, [], ◌∷◌, length, map, filter, Some, refl, sym, ap, ◌∙◌, arith, get_or}
use Rattle.std.specs.Prelude.{Contains, nat_eq}
use Rattle.std.specs.BTreeMap.{is_at}
use Rattle.std.specs.BTreeSet.{insert_key}
use Rattle.std.specs.Ordering.{is_eq, match_ordering, nat_cmp}
use Rattle.std.specs.Set.{remove_key}
use Rattle.std.specs.declared.cmp.Ordering.{Ordering}
use Rattle.std.specs.declared.cmp.Ordering.TheVariants.{Less, Equal, Greater}
use Rattle.std.specs.List.{find, list_any}
use Rattle.feed.proofs.Listening.{at_serial}

module _ {X : Type 0} where
  pub contains_head : (x y : X) (xs : List X) → x ≡ y → Contains (x ∷ xs) y
  contains_head x y xs e = (0, omega arith, e)

  pub contains_tail : (x y : X) (xs : List X) → Contains xs y → Contains (x ∷ xs) y
  contains_tail x y xs c = (suc c.0, omega (arith, c.1), c.2)

  -- the first element, or one of the others
  pub contains_cases : {P : Type 0} (x y : X) (xs : List X) → Contains (x ∷ xs) y → (x ≡ y → P) → (Contains xs y → P) → P
  contains_cases {P} x y xs c first rest = by_place c.0 c.1 c.2
    where
      by_place : (k : ℕ) → k < length (x ∷ xs) → get_or (x ∷ xs) k y ≡ y → P
      by_place zero l e = first e
      by_place (suc k) l e = rest (k, omega (arith, l), e)

  pub contains_filter : (p : X → Bool) (xs : List X) (y : X) → p y ≡ true → Contains xs y → Contains (filter p xs) y
  contains_filter p [] y h c = absurd (omega (arith, c.1))
  contains_filter p (x ∷ xs) y h c = contains_cases x y xs c (λ e. here (p x) (ap p e ∙ h) e) (λ t. further (p x) (contains_filter p xs y h t))
    where
      here : (b : Bool) → b ≡ true → x ≡ y → Contains (cond b (x ∷ filter p xs) (filter p xs)) y
      here true t e = contains_head x y (filter p xs) e
      here false t e = absurd (cc)

      further : (b : Bool) → Contains (filter p xs) y → Contains (cond b (x ∷ filter p xs) (filter p xs)) y
      further true t = contains_tail x y (filter p xs) t
      further false t = t

  pub contains_found : (p : X → Bool) (xs : List X) (y : X) → find p xs ≡ Some y → Contains xs y
  contains_found p [] y h = absurd (cc)
  contains_found p (x ∷ xs) y h = by_test (p x) (λ e. contains_found p xs y e) h
    where
      by_test : (b : Bool) → (find p xs ≡ Some y → Contains xs y) → cond b (Some x) (find p xs) ≡ Some y → Contains (x ∷ xs) y
      by_test true rest e = let s : x ≡ y = cc in contains_head x y xs s
      by_test false rest e = contains_tail x y xs (rest e)

  -- some element passes the test
  pub some_passes : (p : X → Bool) (xs : List X) → list_any p xs ≡ true → (x : X) × Contains xs x × (p x ≡ true)
  some_passes p [] h = absurd (cc)
  some_passes p (x ∷ xs) h = by_test (p x) refl (λ t. some_passes p xs t) h
    where
      by_test : (b : Bool) → p x ≡ b → (list_any p xs ≡ true → (y : X) × Contains xs y × (p y ≡ true)) → list_any p (x ∷ xs) ≡ true → (y : X) × Contains (x ∷ xs) y × (p y ≡ true)
      by_test true e rest h = (x, contains_head x x xs refl, e)
      by_test false e rest h = let t : list_any p xs ≡ true = rw e at h in let r = rest t in (r.0, contains_tail x r.0 xs r.1, r.2)

module _ {X Y : Type 0} where
  pub contains_map : (f : X → Y) (xs : List X) (y : X) → Contains xs y → Contains (map f xs) (f y)
  contains_map f [] y c = absurd (omega (arith, c.1))
  contains_map f (x ∷ xs) y c = contains_cases x y xs c (λ e. contains_head (f x) (f y) (map f xs) (ap f e)) (λ t. contains_tail (f x) (f y) (map f xs) (contains_map f xs y t))

-- the others stay when one is removed
pub removed_stays : (gone other : ℕ) (ks : List ℕ) → other ≢ gone → Contains ks other → Contains (remove_key (is_at (nat_cmp gone)) ks) other
removed_stays gone other [] apart c = absurd (omega (arith, c.1))
removed_stays gone other (k ∷ ks) apart c = contains_cases k other ks c (λ e. here (nat_eq k gone) refl e) (λ t. further (is_at (nat_cmp gone) k) t (removed_stays gone other ks apart t))
  where
    here : (b : Bool) → nat_eq k gone ≡ b → k ≡ other → Contains (remove_key (is_at (nat_cmp gone)) (k ∷ ks)) other
    here true e same = let one : k ≡ gone = search (arith, e) in absurd (apart (sym same ∙ one))
    here false e same =
        let away : is_at (nat_cmp gone) k ≡ false = at_serial gone k ∙ e in
        rw away (contains_head k other (remove_key (is_at (nat_cmp gone)) ks) same)

    further : (b : Bool) → Contains ks other → Contains (remove_key (is_at (nat_cmp gone)) ks) other → Contains (cond b ks (k ∷ remove_key (is_at (nat_cmp gone)) ks)) other
    further true t rest = t
    further false t rest = contains_tail k other (remove_key (is_at (nat_cmp gone)) ks) rest

-- one that is inserted is there, and the others stay
pub inserted_here : (k : ℕ) (ks : List ℕ) → Contains (insert_key nat_cmp ks k) k
inserted_here k [] = contains_head k k [] refl
inserted_here k (x ∷ xs) = by_order (nat_cmp k x) (nat_eq x k) refl (at_serial k x) (inserted_here k xs)
  where
    by_order : (o : Ordering) (b : Bool) → nat_eq x k ≡ b → is_eq o ≡ b → Contains (insert_key nat_cmp xs k) k → Contains (match_ordering o (k ∷ x ∷ xs) (x ∷ xs) (x ∷ insert_key nat_cmp xs k)) k
    by_order Less b e f rest = contains_head k k (x ∷ xs) refl
    by_order Equal true e f rest = let same : x ≡ k = search (arith, e) in contains_head x k xs same
    by_order Equal false e f rest = absurd (cc)
    by_order Greater b e f rest = contains_tail x k (insert_key nat_cmp xs k) rest

pub inserted_stays : (k other : ℕ) (ks : List ℕ) → Contains ks other → Contains (insert_key nat_cmp ks k) other
inserted_stays k other [] c = absurd (omega (arith, c.1))
inserted_stays k other (x ∷ xs) c = by_order (nat_cmp k x) (contains_cases x other xs c (λ e. contains_head x other (insert_key nat_cmp xs k) e) (λ t. contains_tail x other (insert_key nat_cmp xs k) (inserted_stays k other xs t)))
  where
    by_order : (o : Ordering) → Contains (x ∷ insert_key nat_cmp xs k) other → Contains (match_ordering o (k ∷ x ∷ xs) (x ∷ xs) (x ∷ insert_key nat_cmp xs k)) other
    by_order Less rest = contains_tail k other (x ∷ xs) c
    by_order Equal rest = c
    by_order Greater rest = rest
