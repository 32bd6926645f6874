-- Values by their blocks of eight.
use Rattle.std.proofs.Common.{◌≡◌, ◌∙◌, ◌≤◌, ◌<◌, ◌+◌, ◌-◌, ◌*◌, ◌/◌, ◌%◌, ◌^◌, ℕ, zero, suc, Bool, List, [], ◌∷◌, ◌++◌, length, take, drop, set, get_or, map, refl, sym, ap, ap₂, arith, lt_of_lt_of_le}
use Rattle.std.specs.Prelude.{cond, replicate, slice_get, Some}
use Rattle.std.proofs.lemmas.List.{append-nil, drop_more, get_or-take, get_or-append-add, get_or_append_left, length-append, length-drop, length-map, length-take-le, take-append-drop, take_more_set}
use Rattle.std.proofs.lemmas.Option.{get_or_from_slice_get, slice_get_within, slice_get-get_or}
use Rattle.std.proofs.lemmas.Grind.{flat_map-append}
use Rattle.std.proofs.lemmas.Simd.{mask_l-lt}
use Rattle.std.proofs.Math.Nat.{pow-le-pow_right}
use Rattle.std.proofs.Math.Seq.{take-append-add, take-length, take-set-lt}
use Rattle.key_class.specs.Bits.{bits_of}
use Rattle.blocks.specs.Values.{AreBlocksFor, IsBlockOf, values_of}

-- the place of a value, by its block
parts : (i : ℕ) → i / 8 * 8 + i % 8 ≡ i
parts i = omega arith

set_before : {X : Type 0} (xs ys : List X) (i : ℕ) (x : X) → i < length xs → set (xs ++ ys) i x ≡ set xs i x ++ ys
set_before [] ys i x h = absurd (omega (arith, h))
set_before (y ∷ xs) ys zero x h = refl
set_before (y ∷ xs) ys (suc i) x h = ap (λ l. y ∷ l) (set_before xs ys i x (omega (arith, h)))

set_behind : {X : Type 0} (xs ys : List X) (i : ℕ) (x : X) → set (xs ++ ys) (length xs + i) x ≡ xs ++ set ys i x
set_behind [] ys i x = ap (λ n. set ys n x) (let e : 0 + i ≡ i = omega arith in e)
set_behind (y ∷ xs) ys i x =
    ap (λ n. set (y ∷ xs ++ ys) n x) (let e : length (y ∷ xs) + i ≡ suc (length xs + i) = omega arith in e)
    ∙ ap (λ l. y ∷ l) (set_behind xs ys i x)

take_shorter : {X : Type 0} (m n : ℕ) (xs : List X) → m ≤ n → take m (take n xs) ≡ take m xs
take_shorter zero n xs h = refl
take_shorter (suc m) zero xs h = absurd (omega (arith, h))
take_shorter (suc m) (suc n) [] h = refl
take_shorter (suc m) (suc n) (x ∷ xs) h = ap (λ l. x ∷ l) (take_shorter m n xs (omega (arith, h)))

take_none : {X : Type 0} (n : ℕ) → take {A = X} n [] ≡ []
take_none zero = refl
take_none (suc n) = refl

-- the bits of a list are those of its beginning, and of the rest behind them
bits_append : {X : Type 0} (p : X → Bool) (xs ys : List X) → bits_of p (xs ++ ys) ≡ bits_of p xs + 2 ^ length xs * bits_of p ys
bits_append p [] ys = omega arith
bits_append p (x ∷ xs) ys =
    ap (λ n. cond (p x) 1 0 + 2 * n) (bits_append p xs ys)
    ∙ step (cond (p x) 1 0) (bits_of p xs) (2 ^ length xs) (bits_of p ys)
    ∙ ap (λ n. cond (p x) 1 0 + 2 * bits_of p xs + n * bits_of p ys) (double (length xs))
  where
    step : (b m p n : ℕ) → b + 2 * (m + p * n) ≡ b + 2 * m + (2 * p) * n
    step b m p n = grind arith

    double : (n : ℕ) → 2 * 2 ^ n ≡ 2 ^ suc n
    double n = grind arith

pub bits_below : {X : Type 0} (p : X → Bool) (xs : List X) (n : ℕ) → length xs ≡ n → bits_of p xs < 2 ^ n
bits_below p xs n e = let b = mask_l-lt (map p xs) in let l : length (map p xs) ≡ n = length-map xs p ∙ e in lt_of_lt_of_le b (pow-le-pow_right (omega arith) (omega (arith, l)))

rest_of : (a b n : ℕ) → a < n → (a + n * b) % n ≡ a
rest_of a b n h = grind arith

-- the bits of a beginning
pub bits_of_first : {X : Type 0} (p : X → Bool) (n : ℕ) (xs : List X) → n ≤ length xs → bits_of p xs % 2 ^ n ≡ bits_of p (take n xs)
bits_of_first p n xs h =
    let l : length (take n xs) ≡ n = length-take-le n xs h in
    ap (λ ys. bits_of p ys % 2 ^ n) (sym (take-append-drop n xs))
    ∙ ap (λ m. m % 2 ^ n) (bits_append p (take n xs) (drop n xs) ∙ ap (λ k. bits_of p (take n xs) + 2 ^ k * bits_of p (drop n xs)) l)
    ∙ rest_of (bits_of p (take n xs)) (bits_of p (drop n xs)) (2 ^ n) (bits_below p (take n xs) n l)

module _ {B X : Type 0} (items : B → List X) (eight : (b : B) → length (items b) ≡ 8) where
  pub all_length : (bs : List B) → length (values_of items bs) ≡ 8 * length bs
  all_length [] = omega arith
  all_length (b ∷ bs) = omega (arith, length-append (items b) (values_of items bs), eight b, all_length bs)

  pub first_length : (n : ℕ) (bs : List B) → AreBlocksFor n (length bs) → length (take n (values_of items bs)) ≡ n
  first_length n bs are = length-take-le n (values_of items bs) (omega (arith, all_length bs, are.enough))

  pub value_at : (bs : List B) (q r : ℕ) (b : B) → q < length bs → r < 8 → b ≡ get_or bs q b → (d : X) → get_or (values_of items bs) (q * 8 + r) d ≡ get_or (items b) r d
  value_at [] q r b l h e d = absurd (omega (arith, l))
  value_at (c ∷ bs) zero r b l h e d =
      ap (λ n. get_or (items c ++ values_of items bs) n d) (let z : 0 * 8 + r ≡ r = omega arith in z)
      ∙ get_or_append_left (items c) (values_of items bs) d r (omega (arith, h, eight c))
      ∙ ap (λ z. get_or (items z) r d) (sym e)
  value_at (c ∷ bs) (suc q) r b l h e d =
      ap (λ n. get_or (items c ++ values_of items bs) n d) (let z : suc q * 8 + r ≡ length (items c) + (q * 8 + r) = omega (arith, eight c) in z)
      ∙ get_or-append-add (items c) (values_of items bs) (q * 8 + r) d
      ∙ value_at bs q r b (omega (arith, l)) h e d

  value_put : (bs : List B) (q r : ℕ) (b new : B) (x : X) → q < length bs → r < 8 → b ≡ get_or bs q b → items new ≡ set (items b) r x → values_of items (set bs q new) ≡ set (values_of items bs) (q * 8 + r) x
  value_put [] q r b new x l h e s = absurd (omega (arith, l))
  value_put (c ∷ bs) zero r b new x l h e s =
      ap (λ vs. vs ++ values_of items bs) (s ∙ ap (λ z. set (items z) r x) e)
      ∙ sym (set_before (items c) (values_of items bs) r x (omega (arith, h, eight c)))
      ∙ ap (λ n. set (items c ++ values_of items bs) n x) (let z : r ≡ 0 * 8 + r = omega arith in z)
  value_put (c ∷ bs) (suc q) r b new x l h e s =
      ap (λ vs. items c ++ vs) (value_put bs q r b new x (omega (arith, l)) h e s)
      ∙ sym (set_behind (items c) (values_of items bs) (q * 8 + r) x)
      ∙ ap (λ n. set (items c ++ values_of items bs) n x) (let z : length (items c) + (q * 8 + r) ≡ suc q * 8 + r = omega (arith, eight c) in z)

  first_blocks : (k : ℕ) (bs : List B) → values_of items (take k bs) ≡ take (8 * k) (values_of items bs)
  first_blocks zero bs = refl
  first_blocks (suc k) [] = sym (take_none (8 * suc k))
  first_blocks (suc k) (b ∷ bs) =
      ap (λ vs. items b ++ vs) (first_blocks k bs)
      ∙ sym (take-append-add (items b) (values_of items bs) (8 * k))
      ∙ ap (λ n. take n (items b ++ values_of items bs)) (let z : length (items b) + 8 * k ≡ 8 * suc k = omega (arith, eight b) in z)

  module _ (bs : List B) (n : ℕ) (are : AreBlocksFor n (length bs)) where
    abbrev values : List X
    values = values_of items bs

    -- a value that is read
    pub got : (i : ℕ) (b : B) (x : X) → i < n → b ≡ get_or bs (i / 8) b → slice_get (items b) (i % 8) ≡ Some x → slice_get (take n values) i ≡ Some x
    got i b x l e s =
        slice_get-get_or (take n values) i x (omega (arith, first_length n bs are, l))
        ∙ ap Some (get_or-take n values i x l
        ∙ ap (λ m. get_or values m x) (sym (parts i))
        ∙ value_at bs (i / 8) (i % 8) b (omega (arith, are.enough, l)) (omega arith) e x
        ∙ get_or_from_slice_get (items b) (i % 8) x x s)

    -- a whole block
    pub block_of : (q : ℕ) (b : B) → b ≡ get_or bs q b → IsBlockOf (take n values) q (items b)
    block_of q b e i x in_block is =
        let within : i < n = omega (arith, slice_get_within (take n values) i x is, first_length n bs are) in
        let split_place : i ≡ q * 8 + i % 8 = omega (arith, in_block) in
        let room : q < length bs = omega (arith, are.enough, within, in_block) in
        let found : get_or (items b) (i % 8) x ≡ x =
        sym (value_at bs q (i % 8) b room (omega arith) e x)
        ∙ ap (λ m. get_or values m x) (sym split_place)
        ∙ sym (get_or-take n values i x within)
        ∙ get_or_from_slice_get (take n values) i x x is in
        slice_get-get_or (items b) (i % 8) x (omega (arith, eight b)) ∙ ap Some found

    -- one that is written
    pub put : (i : ℕ) (b new : B) (x : X) → i < n → b ≡ get_or bs (i / 8) b → items new ≡ set (items b) (i % 8) x → take n (values_of items (set bs (i / 8) new)) ≡ set (take n values) i x
    put i b new x l e s =
        ap (take n) (value_put bs (i / 8) (i % 8) b new x (omega (arith, are.enough, l)) (omega arith) e s ∙ ap (λ m. set values m x) (parts i))
        ∙ take-set-lt n values i x l

    -- one more in the last block
    pub pushed_into : (b new : B) (x : X) → 0 < n % 8 → b ≡ get_or bs (n / 8) b → items new ≡ set (items b) (n % 8) x → take (n + 1) (values_of items (set bs (n / 8) new)) ≡ take n values ++ x ∷ []
    pushed_into b new x some e s =
        let room : n < 8 * length bs = omega (arith, are.enough, are.needed, some) in
        ap (take (n + 1)) (value_put bs (n / 8) (n % 8) b new x (omega (arith, room)) (omega arith) e s ∙ ap (λ m. set values m x) (parts n))
        ∙ take_more_set values n x (omega (arith, all_length bs, room))

    -- one more in a block of its own
    pub pushed_behind : (new : B) (x : X) → n % 8 ≡ 0 → items new ≡ replicate 8 x → take (n + 1) (values_of items (bs ++ new ∷ [])) ≡ take n values ++ x ∷ []
    pushed_behind new x none s =
        let full : length values ≡ n = omega (arith, all_length bs, are.enough, are.needed, none) in
        ap (take (n + 1)) (flat_map-append items bs (new ∷ []) ∙ ap (λ vs. values ++ vs) (append-nil (items new) ∙ s))
        ∙ ap (λ m. take (m + 1) (values ++ replicate 8 x)) (sym full)
        ∙ take-append-add values (replicate 8 x) 1
        ∙ ap (λ vs. vs ++ x ∷ []) (sym (take-length values) ∙ ap (λ m. take m values) full)

    -- fewer
    pub cut : (m k : ℕ) → m ≤ n → m ≤ 8 * k → take m (values_of items (take k bs)) ≡ take m (take n values)
    cut m k l h = ap (take m) (first_blocks k bs) ∙ take_shorter m (8 * k) values h ∙ sym (take_shorter m n values l)

  module _ (p : X → Bool) (bs : List B) where
    abbrev pub bits_from : ℕ → ℕ
    bits_from k = bits_of p (values_of items (drop k bs))

    pub bits_fit : (k : ℕ) → length bs ≤ 8 → bits_from k < 2 ^ 64
    bits_fit k few =
        let l : length (values_of items (drop k bs)) ≤ 64 = omega (arith, all_length (drop k bs), length-drop k bs, few) in
        lt_of_lt_of_le (bits_below p (values_of items (drop k bs)) (length (values_of items (drop k bs))) refl) (pow-le-pow_right (omega arith) l)

    -- all but the first block leave room for its bits
    pub rest_fits : (k : ℕ) → 0 < k → length bs ≤ 8 → bits_from k < 2 ^ 56
    rest_fits k some few =
        let l : length (values_of items (drop k bs)) ≤ 56 = omega (arith, all_length (drop k bs), length-drop k bs, few, some) in
        lt_of_lt_of_le (bits_below p (values_of items (drop k bs)) (length (values_of items (drop k bs))) refl) (pow-le-pow_right (omega arith) l)

    pub one_back : (k : ℕ) (b : B) → 0 < k → k ≤ length bs → b ≡ get_or bs (k - 1) b → bits_from (k - 1) ≡ bits_of p (items b) + 256 * bits_from k
    one_back k b some l e =
        let more : k - 1 + 1 ≡ k = omega (arith, some) in
        ap (λ cs. bits_of p (values_of items cs)) (drop_more bs (k - 1) b (omega (arith, some, l)) ∙ ap₂ (λ c j. c ∷ drop j bs) (sym e) more)
        ∙ bits_append p (items b) (values_of items (drop k bs))
        ∙ ap (λ n. bits_of p (items b) + 2 ^ n * bits_from k) (eight b)
