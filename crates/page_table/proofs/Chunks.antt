-- Several pages in places, as one list.
use Rattle.std.proofs.Common.{◌≡◌, ◌≢◌, ℕ, zero, suc, ◌+◌, ◌*◌, ◌/◌, ◌%◌, ◌<◌, ◌≤◌, List, [], ◌∷◌, ◌++◌, All, length, set, get_or, refl, sym, subst, ap, ap₂, ◌∙◌, arith}
use Rattle.std.specs.Prelude.{Result, Ok, Err, OnOk, OnErr}
use Rattle.std.proofs.lemmas.List.{length-append, length-set, set_comm, get_or-set_other, get_or-append-add, get_or_append_left}
use Rattle.std.proofs.lemmas.List.Concat.{flat_map-append}
use Rattle.std.proofs.lemmas.List.Elements.{All-append}
use Rattle.std.proofs.lemmas.Nat.{le-div}
use Rattle.std.proofs.Math.Nat.{div-lt_iff_lt-mul, div-mul-le_self}
use Rattle.page_table.specs.Chunks.{ArePlaces, Becomes, both_changed, joined, three_changed}
use Rattle.page_table.specs.PlaceLaws.{Sized, at_first, head_size, joined_length, moved, page_is, page_there, place_size, place_there, put_pages, put_places, set_before, set_behind, set_places, size_there, sum_is, tail_sizes}

-- what follows from two outcomes of one result
pub on_ok_both : {A E : Type 0} {P Q R : Type 0} (r : Result A E) → (P → Q → R) → OnOk r P → OnOk r Q → OnOk r R
on_ok_both (Ok x) f p q = f p q
on_ok_both (Err e) f p q = tt

pub on_err_both : {A E : Type 0} {P Q R : Type 0} (r : Result A E) → (P → Q → R) → OnErr r P → OnErr r Q → OnErr r R
on_err_both (Ok x) f p q = tt
on_err_both (Err e) f p q = f p q

module _ {X : Type 0} where
  -- an element of either part of a list
  pub both_parts : (xs front back : List X) (a b : ℕ) (x y : X) → xs ≡ front ++ back → length front ≡ b → a < b → b < length xs → set front a x ++ set back 0 y ≡ set (set xs b y) a x
  both_parts xs front back a b x y e f l m =
      sym (set_before front (set back 0 y) a x (omega (arith, l, f)))
      ∙ ap (λ zs. set zs a x) (sym (set_behind front back 0 y) ∙ ap₂ (λ zs n. set zs n y) (sym e) (let g : length front + 0 ≡ b = omega (arith, f) in g))

  pub in_front : (xs front back : List X) (a b : ℕ) (x : X) → xs ≡ front ++ back → length front ≡ b → a < b → x ≡ get_or front a x → x ≡ get_or xs a x
  in_front xs front back a b x e f l r = r ∙ sym (get_or_append_left front back x a (omega (arith, l, f))) ∙ ap (λ zs. get_or zs a x) (sym e)

  pub at_back : (xs front back : List X) (b : ℕ) (x : X) → xs ≡ front ++ back → length front ≡ b → x ≡ get_or back 0 x → x ≡ get_or xs b x
  at_back xs front back b x e f r =
      r ∙ sym (get_or-append-add front back 0 x) ∙ ap₂ (λ zs n. get_or zs n x) (sym e) (let g : length front + 0 ≡ b = omega (arith, f) in g)

  -- which of several elements is put first
  pub first_last : (xs : List X) (i j k : ℕ) (x y z : X) → i ≢ j → set (set (set xs i x) j y) k z ≡ set (set (set xs j y) i x) k z
  first_last xs i j k x y z h = ap (λ l. set l k z) (set_comm xs i j x y h)

  pub last_between : (xs : List X) (i j k : ℕ) (x y z : X) → j ≢ k → set (set (set xs i x) j y) k z ≡ set (set (set xs i x) k z) j y
  last_between xs i j k x y z h = set_comm (set xs i x) j k y z h

  pub last_first : (xs : List X) (i j k : ℕ) (x y z : X) → i ≢ k → j ≢ k → set (set (set xs j y) i x) k z ≡ set (set (set xs k z) j y) i x
  last_first xs i j k x y z h l = set_comm (set xs j y) i k x z h ∙ ap (λ zs. set zs i x) (set_comm xs j k y z l)

  -- a part of a list, and the rest
  All-front : (P : X → Type 0) (front back : List X) → All P (front ++ back) → All P front
  All-front P front back all k d l =
      let whole : P (get_or (front ++ back) k d) = all k d (omega (arith, l, length-append front back)) in
      subst P (get_or_append_left front back d k l) whole

  All-back : (P : X → Type 0) (front back : List X) → All P (front ++ back) → All P back
  All-back P front back all k d l =
      let whole : P (get_or (front ++ back) (length front + k) d) = all (length front + k) d (omega (arith, l, length-append front back)) in
      subst P (get_or-append-add front back k d) whole

module _ {P : Type 0} where
  module _ {X : Type 0} (pages : X → List P) (size : ℕ) where
    -- two pages of one place
    joined_two : (xs : List X) → Sized pages size xs → (q r s : ℕ) (x new : X) → q < length xs → r < size → s < size → x ≡ get_or xs q x → (p t : P)
        → pages new ≡ set (set (pages x) s t) r p → joined pages (set xs q new) ≡ set (set (joined pages xs) (q * size + s) t) (q * size + r) p
    joined_two [] all q r s x new l h i e p t n = absurd (omega (arith, l))
    joined_two (y ∷ xs) all zero r s x new l h i e p t n =
        let long = head_size pages size y xs all in
        let rest = joined pages xs in
        ap (λ ps. ps ++ rest) (n ∙ ap (λ z. set (set (pages z) s t) r p) e)
        ∙ sym (set_before (set (pages y) s t) rest r p (omega (arith, h, long, length-set (pages y) s t)))
        ∙ ap (λ ps. set ps r p) (sym (set_before (pages y) rest s t (omega (arith, i, long))))
        ∙ ap₂ (λ m k. set (set (pages y ++ rest) k t) m p) (sym (at_first pages size r)) (sym (at_first pages size s))
    joined_two (y ∷ xs) all (suc q) r s x new l h i e p t n =
        let long = head_size pages size y xs all in
        let rest = joined pages xs in
        ap (λ ps. pages y ++ ps) (joined_two xs (tail_sizes pages size y xs all) q r s x new (omega (arith, l)) h i e p t n)
        ∙ sym (set_behind (pages y) (set rest (q * size + s) t) (q * size + r) p)
        ∙ ap (λ ps. set ps (length (pages y) + (q * size + r)) p) (sym (set_behind (pages y) rest (q * size + s) t))
        ∙ ap₂ (λ m k. set (set (pages y ++ rest) k t) m p) (sym (moved pages size y q r long)) (sym (moved pages size y q s long))

    -- three pages of one place
    joined_three : (xs : List X) → Sized pages size xs → (q r s w : ℕ) (x new : X) → q < length xs → r < size → s < size → w < size → x ≡ get_or xs q x → (p t v : P)
        → pages new ≡ set (set (set (pages x) w v) s t) r p → joined pages (set xs q new) ≡ set (set (set (joined pages xs) (q * size + w) v) (q * size + s) t) (q * size + r) p
    joined_three [] all q r s w x new l h i j e p t v n = absurd (omega (arith, l))
    joined_three (y ∷ xs) all zero r s w x new l h i j e p t v n =
        let long = head_size pages size y xs all in
        let rest = joined pages xs in
        let first = set (pages y) w v in
        let two = set first s t in
        ap (λ ps. ps ++ rest) (n ∙ ap (λ z. set (set (set (pages z) w v) s t) r p) e)
        ∙ sym (set_before two rest r p (omega (arith, h, long, length-set (pages y) w v, length-set first s t)))
        ∙ ap (λ ps. set ps r p) (sym (set_before first rest s t (omega (arith, i, long, length-set (pages y) w v))))
        ∙ ap (λ ps. set (set ps s t) r p) (sym (set_before (pages y) rest w v (omega (arith, j, long))))
        ∙ ap₂ (λ m k. set (set (set (pages y ++ rest) w v) k t) m p) (sym (at_first pages size r)) (sym (at_first pages size s))
        ∙ ap (λ k. set (set (set (pages y ++ rest) k v) (zero * size + s) t) (zero * size + r) p) (sym (at_first pages size w))
    joined_three (y ∷ xs) all (suc q) r s w x new l h i j e p t v n =
        let long = head_size pages size y xs all in
        let rest = joined pages xs in
        let first = set rest (q * size + w) v in
        let far : ℕ → ℕ = λ k. length (pages y) + (q * size + k) in
        ap (λ ps. pages y ++ ps) (joined_three xs (tail_sizes pages size y xs all) q r s w x new (omega (arith, l)) h i j e p t v n)
        ∙ sym (set_behind (pages y) (set first (q * size + s) t) (q * size + r) p)
        ∙ ap (λ ps. set ps (far r) p) (sym (set_behind (pages y) first (q * size + s) t))
        ∙ ap (λ ps. set (set ps (far s) t) (far r) p) (sym (set_behind (pages y) rest (q * size + w) v))
        ∙ ap₂ (λ m k. set (set (set (pages y ++ rest) (far w) v) k t) m p) (sym (moved pages size y q r long)) (sym (moved pages size y q s long))
        ∙ ap (λ k. set (set (set (pages y ++ rest) k v) (suc q * size + s) t) (suc q * size + r) p) (sym (moved pages size y q w long))

  module _ (no_page : P) where
    -- two pages
    module _ {X : Type 0} {pages : X → List P} {is_full : X → Type 0} {size n : ℕ} {xs : List X} (are : ArePlaces pages is_full size n xs)
        (up low : P → P → P) {upper lower : ℕ} (lu : upper < length (joined pages xs)) (ll : lower < length (joined pages xs)) where
      abbrev BothBecome : List X → Type 0
      BothBecome new = Becomes (joined pages) (ArePlaces pages is_full size n) new (both_changed no_page up low upper lower (joined pages xs))

      abbrev after_both : P → P → List P
      after_both a b = set (set (joined pages xs) lower (low a b)) upper (up a b)

      -- in one place
      pub both_within : upper / size ≡ lower / size → (x new : X) → x ≡ get_or xs (upper / size) x → Becomes pages is_full new (both_changed no_page up low (upper % size) (lower % size) (pages x)) → BothBecome (set xs (upper / size) new)
      both_within same x new e becomes =
          let f : x ≡ get_or xs (lower / size) x = e ∙ ap (λ q. get_or xs q x) same in
          let a = get_or (pages x) (upper % size) no_page in
          let b = get_or (pages x) (lower % size) no_page in
          let t = low a b in
          let p = up a b in
          let long : length (pages new) ≡ size =
          ap length becomes.pages ∙ length-set (set (pages x) (lower % size) t) (upper % size) p ∙ length-set (pages x) (lower % size) t ∙ place_size are lu x e in
          record {
            full = set_places are lu x e new becomes.full long;
            pages =
                joined_two pages size xs are.sizes (upper / size) (upper % size) (lower % size) x new
                (place_there are lu) (page_there are lu) (page_there are ll) e p t becomes.pages
                ∙ ap₂ (λ k m. set (set (joined pages xs) k t) m p) (ap (λ q. q * size + lower % size) same ∙ sum_is are ll) (sum_is are lu)
                ∙ ap₂ after_both (page_is are lu x e no_page) (page_is are ll x f no_page);
          }

      -- in two places
      pub both_apart : upper / size ≢ lower / size → (x y new_x new_y : X) → x ≡ get_or xs (upper / size) x → y ≡ get_or xs (lower / size) y →
          Becomes pages is_full new_x (set (pages x) (upper % size) (up (get_or (pages x) (upper % size) no_page) (get_or (pages y) (lower % size) no_page))) →
          Becomes pages is_full new_y (set (pages y) (lower % size) (low (get_or (pages x) (upper % size) no_page) (get_or (pages y) (lower % size) no_page))) →
          BothBecome (set (set xs (lower / size) new_y) (upper / size) new_x)
      both_apart apart x y new_x new_y ex ey bx by =
          let a = get_or (pages x) (upper % size) no_page in
          let b = get_or (pages y) (lower % size) no_page in
          let t = low a b in
          let p = up a b in
          let zs = set xs (lower / size) new_y in
          let zs_are : ArePlaces pages is_full size n zs = put_places are ll y ey new_y t by in
          let zs_pages : joined pages zs ≡ set (joined pages xs) lower t = put_pages are ll y ey new_y t by in
          let lz : upper < length (joined pages zs) = omega (arith, lu, ap length zs_pages, length-set (joined pages xs) lower t) in
          let ez : x ≡ get_or zs (upper / size) x = ex ∙ sym (get_or-set_other xs (lower / size) (upper / size) new_y x apart) in
          record {
            full = put_places zs_are lz x ez new_x p bx;
            pages =
                put_pages zs_are lz x ez new_x p bx
                ∙ ap (λ ps. set ps upper p) zs_pages
                ∙ ap₂ after_both (page_is are lu x ex no_page) (page_is are ll y ey no_page);
          }

      -- what both are read as
      pub both_read : {A : Type 0} (f : P → P → A) (x y : X) → x ≡ get_or xs (upper / size) x → y ≡ get_or xs (lower / size) y
          → f (get_or (pages x) (upper % size) no_page) (get_or (pages y) (lower % size) no_page) ≡ f (get_or (joined pages xs) upper no_page) (get_or (joined pages xs) lower no_page)
      both_read f x y ex ey = ap₂ f (page_is are lu x ex no_page) (page_is are ll y ey no_page)

    -- three pages, of which the one beside the others stands behind them
    module _ {X : Type 0} {pages : X → List P} {is_full : X → Type 0} {size n : ℕ} {xs : List X} (are : ArePlaces pages is_full size n xs)
        (up low by : P → P → P → P) {upper lower beside : ℕ} (hu : upper ≤ beside) (hl : lower ≤ beside) (lb : beside < length (joined pages xs)) where
      abbrev ThreeBecome : List X → Type 0
      ThreeBecome new = Becomes (joined pages) (ArePlaces pages is_full size n) new (three_changed no_page up low by upper lower beside (joined pages xs))

      pub upper_there : upper < length (joined pages xs)
      upper_there = omega (arith, hu, lb)

      pub lower_there : lower < length (joined pages xs)
      lower_there = omega (arith, hl, lb)

      abbrev after_three : P → P → P → List P
      after_three a b c = set (set (set (joined pages xs) lower (low a b c)) upper (up a b c)) beside (by a b c)

      -- in one place
      pub three_within : upper / size ≡ beside / size → lower / size ≡ beside / size → (x new : X) → x ≡ get_or xs (beside / size) x
          → Becomes pages is_full new (three_changed no_page up low by (upper % size) (lower % size) (beside % size) (pages x)) → ThreeBecome (set xs (beside / size) new)
      three_within same_u same_l x new e becomes =
          let eu : x ≡ get_or xs (upper / size) x = e ∙ sym (ap (λ q. get_or xs q x) same_u) in
          let el : x ≡ get_or xs (lower / size) x = e ∙ sym (ap (λ q. get_or xs q x) same_l) in
          let a = get_or (pages x) (upper % size) no_page in
          let b = get_or (pages x) (lower % size) no_page in
          let c = get_or (pages x) (beside % size) no_page in
          let one = set (pages x) (lower % size) (low a b c) in
          let two = set one (upper % size) (up a b c) in
          let long : length (pages new) ≡ size =
          ap length becomes.pages ∙ length-set two (beside % size) (by a b c) ∙ length-set one (upper % size) (up a b c) ∙ length-set (pages x) (lower % size) (low a b c) ∙ place_size are lb x e in
          record {
            full = set_places are lb x e new becomes.full long;
            pages =
                joined_three pages size xs are.sizes (beside / size) (beside % size) (upper % size) (lower % size) x new
                (place_there are lb) (page_there are lb) (page_there are upper_there) (page_there are lower_there) e (by a b c) (up a b c) (low a b c) becomes.pages
                ∙ ap₂ (λ k m. set (set (set (joined pages xs) k (low a b c)) m (up a b c)) (beside / size * size + beside % size) (by a b c))
                (ap (λ q. q * size + lower % size) (sym same_l) ∙ sum_is are lower_there) (ap (λ q. q * size + upper % size) (sym same_u) ∙ sum_is are upper_there)
                ∙ ap (λ m. set (set (set (joined pages xs) lower (low a b c)) upper (up a b c)) m (by a b c)) (sum_is are lb)
                ∙ ap₂ (λ p q. after_three p q c) (page_is are upper_there x eu no_page) (page_is are lower_there x el no_page)
                ∙ ap (after_three (get_or (joined pages xs) upper no_page) (get_or (joined pages xs) lower no_page)) (page_is are lb x e no_page);
          }

    -- two of three pages in one place, and the lower one apart
    pub pair_becomes : {X : Type 0} {pages : X → List P} {is_full : X → Type 0} {size n : ℕ} {xs : List X} (are : ArePlaces pages is_full size n xs)
        (up low by : P → P → P → P) {upper lower beside : ℕ}
        (lu : upper < length (joined pages xs)) (ll : lower < length (joined pages xs)) (lb : beside < length (joined pages xs))
        → upper / size ≡ beside / size → beside / size ≢ lower / size → (x y new_x new_y : X) → x ≡ get_or xs (beside / size) x → y ≡ get_or xs (lower / size) y
        → Becomes pages is_full new_x (both_changed no_page (λ c a. by a (get_or (pages y) (lower % size) no_page) c) (λ c a. up a (get_or (pages y) (lower % size) no_page) c) (beside % size) (upper % size) (pages x))
        → Becomes pages is_full new_y (set (pages y) (lower % size) (low (get_or (pages x) (upper % size) no_page) (get_or (pages y) (lower % size) no_page) (get_or (pages x) (beside % size) no_page)))
        → Becomes (joined pages) (ArePlaces pages is_full size n) (set (set xs (lower / size) new_y) (beside / size) new_x) (three_changed no_page up low by upper lower beside (joined pages xs))
    pair_becomes {pages = pages} {is_full = is_full} {size = size} {n = n} {xs = xs} are up low by {upper = upper} {lower = lower} {beside = beside} lu ll lb same apart x y new_x new_y ex ey by_x by_y =
        let all = joined pages xs in
        let page = get_or (pages y) (lower % size) no_page in
        let new = low (get_or (pages x) (upper % size) no_page) page (get_or (pages x) (beside % size) no_page) in
        let zs = set xs (lower / size) new_y in
        let zs_are : ArePlaces pages is_full size n zs = put_places are ll y ey new_y new by_y in
        let zs_pages : joined pages zs ≡ set all lower new = put_pages are ll y ey new_y new by_y in
        let mu : upper < length (joined pages zs) = omega (arith, lu, ap length zs_pages, length-set all lower new) in
        let mb : beside < length (joined pages zs) = omega (arith, lb, ap length zs_pages, length-set all lower new) in
        let ez : x ≡ get_or zs (beside / size) x = ex ∙ sym (get_or-set_other xs (lower / size) (beside / size) new_y x apart) in
        let became = both_within zs_are (λ c a. by a page c) (λ c a. up a page c) mb mu (sym same) x new_x ez by_x in
        let fu : upper ≢ lower = λ f. apart (sym same ∙ ap (λ i. i / size) f) in
        let fb : beside ≢ lower = λ f. apart (ap (λ i. i / size) f) in
        let eu : x ≡ get_or xs (upper / size) x = ex ∙ sym (ap (λ q. get_or xs q x) same) in
        let a = get_or all upper no_page in
        let c = get_or all beside no_page in
        let value : new ≡ low a page c = ap₂ (λ p q. low p page q) (page_is are lu x eu no_page) (page_is are lb x ex no_page) in
        record {
          full = became.full;
          pages =
              became.pages
              ∙ ap (both_changed no_page (λ r p. by p page r) (λ r p. up p page r) beside upper) zs_pages
              ∙ ap₂ (λ p r. set (set (set all lower new) upper (up p page r)) beside (by p page r)) (get_or-set_other all lower upper new no_page fu) (get_or-set_other all lower beside new no_page fb)
              ∙ ap (λ w. set (set (set all lower w) upper (up a page c)) beside (by a page c)) value
              ∙ ap (λ q. set (set (set all lower (low a q c)) upper (up a q c)) beside (by a q c)) (page_is are ll y ey no_page);
        }

    -- and where the upper one is apart
    pub other_pair_becomes : {X : Type 0} {pages : X → List P} {is_full : X → Type 0} {size n : ℕ} {xs : List X} (are : ArePlaces pages is_full size n xs)
        (up low by : P → P → P → P) {upper lower beside : ℕ}
        (lu : upper < length (joined pages xs)) (ll : lower < length (joined pages xs)) (lb : beside < length (joined pages xs))
        → lower / size ≡ beside / size → beside / size ≢ upper / size → (x y new_x new_y : X) → x ≡ get_or xs (beside / size) x → y ≡ get_or xs (upper / size) y
        → Becomes pages is_full new_x (both_changed no_page (λ c b. by (get_or (pages y) (upper % size) no_page) b c) (λ c b. low (get_or (pages y) (upper % size) no_page) b c) (beside % size) (lower % size) (pages x))
        → Becomes pages is_full new_y (set (pages y) (upper % size) (up (get_or (pages y) (upper % size) no_page) (get_or (pages x) (lower % size) no_page) (get_or (pages x) (beside % size) no_page)))
        → Becomes (joined pages) (ArePlaces pages is_full size n) (set (set xs (upper / size) new_y) (beside / size) new_x) (three_changed no_page up low by upper lower beside (joined pages xs))
    other_pair_becomes {pages = pages} {size = size} {xs = xs} are up low by {upper = upper} {lower = lower} {beside = beside} lu ll lb same apart x y new_x new_y ex ey by_x by_y =
        let became = pair_becomes are (λ b a c. low a b c) (λ b a c. up a b c) (λ b a c. by a b c) {upper = lower} {lower = upper} {beside = beside} ll lu lb same apart x y new_x new_y ex ey by_x by_y in
        let f : upper ≢ lower = λ g. apart (sym same ∙ sym (ap (λ i. i / size) g)) in
        record { full = became.full; pages = became.pages ∙ first_last (joined pages xs) upper lower beside _ _ _ f }

    -- places of which the front is changed
    pub front_places : {X : Type 0} {pages : X → List P} {is_full : X → Type 0} {size n : ℕ} {xs : List X} (front back : List X) → ArePlaces pages is_full size n xs → xs ≡ front ++ back → ArePlaces pages is_full size (length front) front
    front_places {pages = pages} {is_full = is_full} {size = size} front back are e = record {
      count = refl;
      each = All-front is_full front back (subst (All is_full) e are.each);
      sizes = All-front (λ x. length (pages x) ≡ size) front back (subst (All (λ x. length (pages x) ≡ size)) e are.sizes);
    }

    pub in_front_pages : {X : Type 0} {pages : X → List P} {is_full : X → Type 0} {size n : ℕ} {xs : List X} (front back : List X) (are : ArePlaces pages is_full size n xs) → xs ≡ front ++ back
        → {beside : ℕ} → beside < length (joined pages xs) → length front ≡ beside / size → {i : ℕ} → i ≤ beside → i / size ≢ beside / size → i < length (joined pages front)
    in_front_pages {pages = pages} {size = size} front back are e {beside = beside} lb f {i = i} h apart =
        let some = size_there are lb in
        let less : i / size < length front = let l = le-div (i / size) beside size some (omega (arith, h, div-mul-le_self i size)) in omega (arith, l, apart, f) in
        let there : i < length front * size = (div-lt_iff_lt-mul {k = size} {x = i} {y = length front} some).0 less in
        omega (arith, there, joined_length pages size front (front_places front back are e).sizes)

    -- three pages, of which the one beside the others is in the place behind theirs
    pub split_becomes : {X : Type 0} {pages : X → List P} {is_full : X → Type 0} {size n : ℕ} {xs : List X} (front back : List X) (are : ArePlaces pages is_full size n xs) (e : xs ≡ front ++ back)
        (up low by : P → P → P → P) {upper lower beside : ℕ} (lb : beside < length (joined pages xs)) → length front ≡ beside / size
        → (lu : upper < length (joined pages front)) (ll : lower < length (joined pages front)) (z new_z : X) → z ≡ get_or xs (beside / size) z
        → (page new : P) → page ≡ get_or (pages z) (beside % size) no_page → Becomes pages is_full new_z (set (pages z) (beside % size) new)
        → (after : List X) → Becomes (joined pages) (ArePlaces pages is_full size (length front)) after (both_changed no_page (λ a b. up a b page) (λ a b. low a b page) upper lower (joined pages front))
        → new ≡ by (get_or (joined pages front) upper no_page) (get_or (joined pages front) lower no_page) page
        → Becomes (joined pages) (ArePlaces pages is_full size n) (after ++ set back 0 new_z) (three_changed no_page up low by upper lower beside (joined pages xs))
    split_becomes {X = X} {pages = pages} {is_full = is_full} {size = size} {n = n} {xs = xs} front back are e up low by {upper = upper} {lower = lower} {beside = beside} lb f lu ll z new_z ez page new ep bz after becomes en =
        let Sizes : X → Type 0 = λ x. length (pages x) ≡ size in
        let all = joined pages xs in
        let ahead = joined pages front in
        let parts : ahead ++ joined pages back ≡ all = sym (flat_map-append pages front back) ∙ sym (ap (joined pages) e) in
        let mid = after ++ back in
        let a = get_or ahead upper no_page in
        let b = get_or ahead lower no_page in
        let below = low a b page in
        let above = up a b page in
        let at_a : a ≡ get_or all upper no_page = sym (get_or_append_left ahead (joined pages back) no_page upper lu) ∙ ap (λ ps. get_or ps upper no_page) parts in
        let at_b : b ≡ get_or all lower no_page = sym (get_or_append_left ahead (joined pages back) no_page lower ll) ∙ ap (λ ps. get_or ps lower no_page) parts in
        let mid_are : ArePlaces pages is_full size n mid = record {
          count = length-append after back ∙ ap (λ k. k + length back) becomes.full.count ∙ sym (length-append front back) ∙ sym (ap length e) ∙ are.count;
          each = All-append is_full after back becomes.full.each (All-back is_full front back (subst (All is_full) e are.each));
          sizes = All-append Sizes after back becomes.full.sizes (All-back Sizes front back (subst (All Sizes) e are.sizes));
        } in
        let mid_pages : joined pages mid ≡ set (set all lower below) upper above =
        flat_map-append pages after back
        ∙ ap (λ ps. ps ++ joined pages back) becomes.pages
        ∙ sym (set_before (set ahead lower below) (joined pages back) upper above (omega (arith, lu, length-set ahead lower below)))
        ∙ ap (λ ps. set ps upper above) (sym (set_before ahead (joined pages back) lower below ll) ∙ ap (λ ps. set ps lower below) parts) in
        let mb : beside < length (joined pages mid) = omega (arith, lb, ap length mid_pages, length-set (set all lower below) upper above, length-set all lower below) in
        let zero_on : length after + 0 ≡ beside / size = omega (arith, becomes.full.count, f) in
        let same_on : length front + 0 ≡ beside / size = omega (arith, f) in
        let em : z ≡ get_or mid (beside / size) z =
        ez ∙ ap₂ (λ zs k. get_or zs k z) e (sym same_on) ∙ get_or-append-add front back 0 z ∙ sym (get_or-append-add after back 0 z) ∙ ap (λ k. get_or mid k z) zero_on in
        let back_again : after ++ set back 0 new_z ≡ set mid (beside / size) new_z = sym (set_behind after back 0 new_z) ∙ ap (λ k. set mid k new_z) zero_on in
        let value : new ≡ by a b page = en in
        let put : List X → Type 0 = λ zs. Becomes (joined pages) (ArePlaces pages is_full size n) zs (three_changed no_page up low by upper lower beside all) in
        subst put (sym back_again) (record {
          full = put_places mid_are mb z em new_z new bz;
          pages =
              put_pages mid_are mb z em new_z new bz
              ∙ ap₂ (λ ps w. set ps beside w) mid_pages value
              ∙ ap₂ (λ p q. set (set (set all lower (low p q page)) upper (up p q page)) beside (by p q page)) at_a at_b
              ∙ ap (λ r. set (set (set all lower (low (get_or all upper no_page) (get_or all lower no_page) r)) upper (up (get_or all upper no_page) (get_or all lower no_page) r)) beside (by (get_or all upper no_page) (get_or all lower no_page) r)) (ep ∙ page_is are lb z ez no_page);
        })
