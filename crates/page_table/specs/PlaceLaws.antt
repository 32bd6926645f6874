-- Why places with another page in one of them are the list of pages with that page, which each kind of places has to
-- show.
use Rattle.std.proofs.Common.{◌≡◌, ◌⊎◌, inl, inr, ℕ, zero, suc, ◌+◌, ◌*◌, ◌/◌, ◌%◌, ◌<◌, List, [], ◌∷◌, ◌++◌, length, set, get_or, All, refl, sym, subst, ap, ◌∙◌, arith}
use Rattle.std.proofs.lemmas.List.{length-append, length-set, get_or-set_same, get_or-set_other, get_or_default, get_or-append-add, get_or_append_left}
use Rattle.std.proofs.lemmas.List.Elements.{All-head, All-tail}
use Rattle.std.proofs.lemmas.Nat.{div-add-mod'}
use Rattle.std.proofs.Math.Nat.{div-lt_iff_lt-mul, mod-lt, suc-mul}
use Rattle.page_table.specs.Chunks.{ArePlaces, Becomes, alone, joined, put_in}

module _ {X : Type 0} where
  pub set_before : (xs ys : List X) (i : ℕ) (x : X) → i < length xs → set (xs ++ ys) i x ≡ set xs i x ++ ys
  set_before [] ys i x h = absurd (omega (arith, h))
  set_before (y ∷ xs) ys zero x h = refl
  set_before (y ∷ xs) ys (suc i) x h = ap (λ l. y ∷ l) (set_before xs ys i x (omega (arith, h)))

  pub set_behind : (xs ys : List X) (i : ℕ) (x : X) → set (xs ++ ys) (length xs + i) x ≡ xs ++ set ys i x
  set_behind [] ys i x = ap (λ n. set ys n x) (let e : 0 + i ≡ i = omega arith in e)
  set_behind (y ∷ xs) ys i x =
      ap (λ n. set (y ∷ xs ++ ys) n x) (let e : length (y ∷ xs) + i ≡ suc (length xs + i) = omega arith in e)
      ∙ ap (λ l. y ∷ l) (set_behind xs ys i x)

-- what was read is put back
module _ {X : Type 0} where
  pub put_same : (xs : List X) (i : ℕ) (x : X) → x ≡ get_or xs i x → set xs i x ≡ xs
  put_same [] i x e = refl
  put_same (y ∷ xs) zero x e = ap (λ z. z ∷ xs) e
  put_same (y ∷ xs) (suc i) x e = ap (λ l. y ∷ l) (put_same xs i x e)

-- any two numbers are equal or not
pub is_or_not : (q p : ℕ) → (q ≡ p) ⊎ ((q ≡ p) → ⊥)
is_or_not q p = grind arith

positive : (i m size : ℕ) → i < m * size → 0 < size
positive i m zero l = absurd (omega (arith, l))
positive i m (suc s) l = omega arith

module _ {P : Type 0} where
  pub page_put : (old : P) (i : ℕ) (page : P) → Unit {0} → i < 1 → alone page ≡ set (alone old) i page
  page_put old zero page full l = refl
  page_put old (suc i) page full l = absurd (omega (arith, l))

  pub page_stays : (no_page old : P) (i : ℕ) (page : P) → Unit {0} → i < 1 → page ≡ get_or (alone old) i no_page → page ≡ old
  page_stays no_page old zero page full l e = e
  page_stays no_page old (suc i) page full l e = absurd (omega (arith, l))

  module _ {X : Type 0} (pages : X → List P) (size : ℕ) where
    abbrev pub Sized : List X → Type 0
    Sized xs = All (λ x. length (pages x) ≡ size) xs

    pub head_size : (x : X) (xs : List X) → Sized (x ∷ xs) → length (pages x) ≡ size
    head_size x xs all = All-head (λ y. length (pages y) ≡ size) x xs all

    pub tail_sizes : (x : X) (xs : List X) → Sized (x ∷ xs) → Sized xs
    tail_sizes x xs all = All-tail (λ y. length (pages y) ≡ size) x xs all

    pub joined_length : (xs : List X) → Sized xs → length (joined pages xs) ≡ length xs * size
    joined_length [] all = let e : 0 ≡ 0 * size = omega arith in e
    joined_length (x ∷ xs) all =
        let rest = joined_length xs (tail_sizes x xs all) in
        omega (arith, length-append (pages x) (joined pages xs), head_size x xs all, rest, suc-mul (length xs) size)

    -- the position of a page in the place after q places
    pub moved : (x : X) (q r : ℕ) → length (pages x) ≡ size → suc q * size + r ≡ length (pages x) + (q * size + r)
    moved x q r e = omega (arith, suc-mul q size, e)

    pub at_first : (r : ℕ) → zero * size + r ≡ r
    at_first r = omega arith

    joined_at : (xs : List X) → Sized xs → (q r : ℕ) (x : X) → q < length xs → r < size → x ≡ get_or xs q x → (d : P) → get_or (joined pages xs) (q * size + r) d ≡ get_or (pages x) r d
    joined_at [] all q r x l h e d = absurd (omega (arith, l))
    joined_at (y ∷ xs) all zero r x l h e d =
        ap (λ n. get_or (pages y ++ joined pages xs) n d) (at_first r)
        ∙ get_or_append_left (pages y) (joined pages xs) d r (omega (arith, h, head_size y xs all))
        ∙ ap (λ z. get_or (pages z) r d) (sym e)
    joined_at (y ∷ xs) all (suc q) r x l h e d =
        ap (λ n. get_or (pages y ++ joined pages xs) n d) (moved y q r (head_size y xs all))
        ∙ get_or-append-add (pages y) (joined pages xs) (q * size + r) d
        ∙ joined_at xs (tail_sizes y xs all) q r x (omega (arith, l)) h e d

    -- changing one page of a place
    joined_one : (xs : List X) → Sized xs → (q r : ℕ) (x new : X) → q < length xs → r < size → x ≡ get_or xs q x → (p : P)
        → pages new ≡ set (pages x) r p → joined pages (set xs q new) ≡ set (joined pages xs) (q * size + r) p
    joined_one [] all q r x new l h e p n = absurd (omega (arith, l))
    joined_one (y ∷ xs) all zero r x new l h e p n =
        ap (λ ps. ps ++ joined pages xs) (n ∙ ap (λ z. set (pages z) r p) e)
        ∙ sym (set_before (pages y) (joined pages xs) r p (omega (arith, h, head_size y xs all)))
        ∙ ap (λ m. set (pages y ++ joined pages xs) m p) (sym (at_first r))
    joined_one (y ∷ xs) all (suc q) r x new l h e p n =
        ap (λ ps. pages y ++ ps) (joined_one xs (tail_sizes y xs all) q r x new (omega (arith, l)) h e p n)
        ∙ sym (set_behind (pages y) (joined pages xs) (q * size + r) p)
        ∙ ap (λ m. set (pages y ++ joined pages xs) m p) (sym (moved y q r (head_size y xs all)))

  -- n places, and the number of a page in them
  module _ {X : Type 0} {pages : X → List P} {is_full : X → Type 0} {size n : ℕ} {xs : List X} (are : ArePlaces pages is_full size n xs) {i : ℕ} (l : i < length (joined pages xs)) where
    below : i < length xs * size
    below = omega (arith, l, joined_length pages size xs are.sizes)

    pub size_there : 0 < size
    size_there = positive i (length xs) size below

    pub place_there : i / size < length xs
    place_there = (div-lt_iff_lt-mul {k = size} {x = i} {y = length xs} size_there).1 below

    pub page_there : i % size < size
    page_there = mod-lt i {m = size} size_there

    pub sum_is : (i / size) * size + i % size ≡ i
    sum_is = div-add-mod' i size

    module _ (x : X) (e : x ≡ get_or xs (i / size) x) where
      pub place_full : is_full x
      place_full = subst is_full (sym e) (are.each (i / size) x place_there)

      pub place_size : length (pages x) ≡ size
      place_size = ap (λ z. length (pages z)) e ∙ are.sizes (i / size) x place_there

      pub page_within : i % size < length (pages x)
      page_within = omega (arith, page_there, place_size)

      pub page_is : (d : P) → get_or (pages x) (i % size) d ≡ get_or (joined pages xs) i d
      page_is d =
          sym (joined_at pages size xs are.sizes (i / size) (i % size) x place_there page_there e d)
          ∙ ap (λ k. get_or (joined pages xs) k d) sum_is

      -- the place gets other pages
      pub set_places : (new : X) → is_full new → length (pages new) ≡ size → ArePlaces pages is_full size n (set xs (i / size) new)
      set_places new full long = record {
        count = length-set xs (i / size) new ∙ are.count;
        each = λ k d h. elim (is_or_not k (i / size)) [
          | inl f ↦ subst is_full (sym (ap (λ j. get_or (set xs (i / size) new) j d) f ∙ get_or-set_same xs (i / size) new d place_there)) full
          | inr f ↦ subst is_full (sym (get_or-set_other xs (i / size) k new d f)) (are.each k d (omega (arith, h, length-set xs (i / size) new)))
        ];
        sizes = λ k d h. elim (is_or_not k (i / size)) [
          | inl f ↦ ap (λ z. length (pages z)) (ap (λ j. get_or (set xs (i / size) new) j d) f ∙ get_or-set_same xs (i / size) new d place_there) ∙ long
          | inr f ↦ ap (λ z. length (pages z)) (get_or-set_other xs (i / size) k new d f) ∙ are.sizes k d (omega (arith, h, length-set xs (i / size) new))
        ];
      }

      -- the place gets another page
      module _ (new : X) (p : P) (becomes : Becomes pages is_full new (set (pages x) (i % size) p)) where
        pub put_places : ArePlaces pages is_full size n (set xs (i / size) new)
        put_places = set_places new becomes.full (ap length becomes.pages ∙ length-set (pages x) (i % size) p ∙ place_size)

        pub put_pages : joined pages (set xs (i / size) new) ≡ set (joined pages xs) i p
        put_pages =
            joined_one pages size xs are.sizes (i / size) (i % size) x new place_there page_there e p becomes.pages
            ∙ ap (λ k. set (joined pages xs) k p) sum_is

  -- another page in a place, when places say how they change
  module _ {X : Type 0} (pages : X → List P) (is_full : X → Type 0) (none : X) (put : X → ℕ → P → X) (size : ℕ)
      (put_pages_law : (x : X) (i : ℕ) (p : P) → is_full x → i < length (pages x) → pages (put x i p) ≡ set (pages x) i p)
      (put_full_law : (x : X) (i : ℕ) (p : P) → is_full x → i < length (pages x) → is_full (put x i p)) where
    module _ (n : ℕ) (xs : List X) (are : ArePlaces pages is_full size n xs) (i : ℕ) (l : i < length (joined pages xs)) where
      pub put_becomes : (p : P) → Becomes (joined pages) (ArePlaces pages is_full size n) (put_in put none size xs i p) (set (joined pages xs) i p)
      put_becomes p =
          let place = get_or xs (i / size) none in
          let read : place ≡ get_or xs (i / size) place = get_or_default xs (i / size) none place (place_there are l) in
          let full = place_full are l place read in
          let within = page_within are l place read in
          let becomes : Becomes pages is_full (put place (i % size) p) (set (pages place) (i % size) p) =
          record { full = put_full_law place (i % size) p full within; pages = put_pages_law place (i % size) p full within } in
          record {
            full = put_places are l place read (put place (i % size) p) p becomes;
            pages = put_pages are l place read (put place (i % size) p) p becomes;
          }

      -- a place with another page is put back
      pub put_back : (x : X) → x ≡ get_or xs (i / size) x → (p : P) → set xs (i / size) (put x (i % size) p) ≡ put_in put none size xs i p
      put_back x e p = ap (λ z. set xs (i / size) (put z (i % size) p)) (e ∙ get_or_default xs (i / size) x none (place_there are l))

      -- the same page is put back
      pub put_stays : (no_page : P) → ((x : X) (j : ℕ) (p : P) → is_full x → j < length (pages x) → p ≡ get_or (pages x) j no_page → put x j p ≡ x)
          → (p : P) → p ≡ get_or (joined pages xs) i no_page → put_in put none size xs i p ≡ xs
      put_stays no_page law p e =
          let place = get_or xs (i / size) none in
          let read : place ≡ get_or xs (i / size) place = get_or_default xs (i / size) none place (place_there are l) in
          ap (λ z. set xs (i / size) z) (law place (i % size) p (place_full are l place read) (page_within are l place read) (e ∙ sym (page_is are l place read no_page)))
          ∙ put_same xs (i / size) place read
