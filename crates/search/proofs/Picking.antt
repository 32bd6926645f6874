-- How the bits that tell some of a list are made, and how those that they tell are taken one by one.
use Rattle.std.proofs.Common.{◌≡◌, ℕ, zero, suc, ◌+◌, ◌-◌, ◌*◌, ◌/◌, ◌%◌, ◌^◌, ◌<◌, ◌≤◌, ◌==◌, ◌&&◌, Bool, true, false, cond, List, [], ◌∷◌, ◌++◌, length, map, filter, reverse, take, drop, get_or, refl, sym, ap, ap₂, ◌∙◌, arith, subst, pow-suc, append_assoc, length-drop}
use Rattle.std.proofs.lemmas.List.{append-nil, drop-drop, get_or-drop, drop_all, drop_more, reverse-append, take_more, length-map}
use Rattle.std.proofs.lemmas.List.Elements.{filter-append}
use Rattle.std.proofs.Common.{⊎_elim}
use Rattle.std.proofs.lemmas.Bool.{cases_lt}
use Rattle.std.proofs.lemmas.Nat.{leading_top, ones_cat}
use Rattle.std.proofs.lemmas.Simd.{mask_l-lt}
use Rattle.std.specs.Prelude.{count_ones}
use lib.Count.{count_leading_zeros, count_trailing_zeros, ones, under}
use mir.Val.{bool_byte}
use lib.Pow.{pow_mono, pow_pos, shr-shr}
use Rattle.key_class.specs.Bits.{bits_of}
use Rattle.search.specs.Picks.{HasBitsFor, picked}

bit_of : (b : Bool) → bool_byte b ≡ cond b 1 0
bit_of true = refl
bit_of false = refl

halves : (n m : ℕ) → n / 2 ^ suc m ≡ n / 2 / 2 ^ m
halves n m = let e : suc m ≡ 1 + m = omega arith in ap (λ k. n / 2 ^ k) e ∙ sym (shr-shr n 1 m)

module _ {X : Type 0} where
  -- a list with one more in front
  pub more_bits : (x : X) (xs : List X) (b : Bool) (bits : ℕ) → HasBitsFor xs bits → HasBitsFor (x ∷ xs) (2 * bits + cond b 1 0)
  more_bits x xs true bits h = omega (arith, h, pow-suc 2 (length xs))
  more_bits x xs false bits h = omega (arith, h, pow-suc 2 (length xs))

  pub more_picked : (p : X → Bool) (x : X) (xs : List X) (bits : ℕ) → picked bits xs ≡ filter p xs → picked (2 * bits + cond (p x) 1 0) (x ∷ xs) ≡ filter p (x ∷ xs)
  unfolding picked
  more_picked p x xs bits h = ap₂ (λ b m. cond b (x ∷ picked m xs) (picked m xs)) (lowest (p x)) (others (p x)) ∙ ap (λ l. cond (p x) (x ∷ l) l) h
    where
      lowest : (b : Bool) → ((2 * bits + cond b 1 0) % 2 == 1) ≡ b
      lowest true = let odd : (2 * bits + 1) % 2 ≡ 1 = omega arith in ap (λ m. m == 1) odd
      lowest false = let even : (2 * bits + 0) % 2 ≡ 0 = omega arith in ap (λ m. m == 1) even

      others : (b : Bool) → (2 * bits + cond b 1 0) / 2 ≡ bits
      others true = omega arith
      others false = omega arith

  -- the first of those that are told stands at m, and the others behind it
  pub record IsFirst (xs : List X) (bits m : ℕ) : Type 0 where
    pub within : m < length xs
    pub rest : HasBitsFor (drop (suc m) xs) (bits / 2 ^ m / 2)
    pub first : (d : X) → picked bits xs ≡ get_or xs m d ∷ picked (bits / 2 ^ m / 2) (drop (suc m) xs)

  pub first_picked : (xs : List X) (bits k : ℕ) → 0 < bits → HasBitsFor xs bits → length xs ≤ k → IsFirst xs bits (count_trailing_zeros k bits)
  unfolding picked count_trailing_zeros
  first_picked [] bits k some h few = absurd (omega (arith, some, h))
  first_picked (x ∷ xs) bits zero some h few = absurd (omega (arith, few))
  first_picked (x ∷ xs) bits (suc k) some h few = go (λ l m. first_picked xs (bits / 2) k l m (omega (arith, few))) (bits % 2) refl
    where
      t : ℕ
      t = count_trailing_zeros k (bits / 2)

      half : HasBitsFor xs (bits / 2)
      half = omega (arith, h, pow-suc 2 (length xs))

      told : (r : ℕ) → bits % 2 ≡ r → picked bits (x ∷ xs) ≡ cond (r == 1) (x ∷ picked (bits / 2) xs) (picked (bits / 2) xs)
      told r e = ap (λ q. cond (q == 1) (x ∷ picked (bits / 2) xs) (picked (bits / 2) xs)) e

      go : (0 < bits / 2 → HasBitsFor xs (bits / 2) → IsFirst xs (bits / 2) t) → (r : ℕ) → bits % 2 ≡ r → IsFirst (x ∷ xs) bits (under (bits % 2) t)
      go of_rest zero e =
          let next = of_rest (omega (arith, some, e)) half in
          let same = halves bits t in
          subst (λ q. IsFirst (x ∷ xs) bits (under q t)) (sym e) (record {
            within = omega (arith, next.within);
            rest = subst (λ n. HasBitsFor (drop (suc t) xs) (n / 2)) (sym same) next.rest;
            first = λ d. told 0 e ∙ next.first d ∙ ap (λ n. get_or xs t d ∷ picked (n / 2) (drop (suc t) xs)) (sym same);
          })
      go of_rest (suc zero) e =
          let one : bits / 2 ^ 0 / 2 ≡ bits / 2 = omega arith in
          subst (λ q. IsFirst (x ∷ xs) bits (under q t)) (sym e) (record {
            within = omega arith;
            rest = subst (λ n. HasBitsFor xs n) (sym one) half;
            first = λ d. told 1 e ∙ ap (λ n. x ∷ picked n xs) (sym one);
          })
      go of_rest (suc (suc r)) e = absurd (omega (arith, e))

  -- as many bits are set as are told
  pub ones_picked : (xs : List X) (bits : ℕ) → HasBitsFor xs bits → count_ones bits ≡ length (picked bits xs)
  unfolding picked ones
  ones_picked [] bits h = let none : bits ≡ 0 = omega (arith, h) in ap count_ones none
  ones_picked (x ∷ xs) bits h =
      let split : bits ≡ bits / 2 * 2 ^ 1 + bits % 2 = omega arith in
      let low : bits % 2 < 2 ^ 1 = omega arith in
      ap count_ones split ∙ ones_cat 1 (bits / 2) (bits % 2) low
      ∙ ap (λ n. n + count_ones (bits % 2)) (ones_picked xs (bits / 2) (omega (arith, h, pow-suc 2 (length xs))))
      ∙ go (bits % 2) low
    where
      go : (r : ℕ) → r < 2 ^ 1 → length (picked (bits / 2) xs) + count_ones r ≡ length (cond (r == 1) (x ∷ picked (bits / 2) xs) (picked (bits / 2) xs))
      go zero l = omega arith
      go (suc zero) l = omega arith
      go (suc (suc r)) l = absurd (omega (arith, l))

  -- one more of a list is the first of it reversed
  reverse_more : (xs : List X) (i : ℕ) (d : X) → i < length xs → reverse (take (i + 1) xs) ≡ get_or xs i d ∷ reverse (take i xs)
  reverse_more xs i d l = ap reverse (take_more xs i d l) ∙ reverse-append (take i xs) (get_or xs i d ∷ [])

  -- the place of an element of a beginning that is reversed, and what stands behind it
  reverse_at : (m : ℕ) (xs : List X) (i : ℕ) (d : X) → m < i → i ≤ length xs → get_or (reverse (take i xs)) m d ≡ get_or xs (i - (m + 1)) d
  reverse_at m xs zero d l w = absurd (omega (arith, l))
  reverse_at zero xs (suc i) d l w =
      let e : suc i ≡ i + 1 = omega arith in
      let f : i ≡ suc i - (0 + 1) = omega arith in
      ap (λ j. get_or (reverse (take j xs)) 0 d) e ∙ ap (λ l. get_or l 0 d) (reverse_more xs i d (omega (arith, w))) ∙ ap (λ j. get_or xs j d) f
  reverse_at (suc m) xs (suc i) d l w =
      let e : suc i ≡ i + 1 = omega arith in
      let f : i - (m + 1) ≡ suc i - (suc m + 1) = omega arith in
      ap (λ j. get_or (reverse (take j xs)) (suc m) d) e ∙ ap (λ l. get_or l (suc m) d) (reverse_more xs i d (omega (arith, w))) ∙ reverse_at m xs i d (omega (arith, l)) (omega (arith, w)) ∙ ap (λ j. get_or xs j d) f

  reverse_behind : (m : ℕ) (xs : List X) (i : ℕ) → m ≤ i → i ≤ length xs → drop m (reverse (take i xs)) ≡ reverse (take (i - m) xs)
  reverse_behind zero xs i l w = let same : i ≡ i - 0 = omega arith in ap (λ j. reverse (take j xs)) same
  reverse_behind (suc m) xs zero l w = absurd (omega (arith, l))
  reverse_behind (suc m) [] (suc i) l w = absurd (omega (arith, w))
  reverse_behind (suc m) (x ∷ xs) (suc i) l w =
      let e : suc i ≡ i + 1 = omega arith in
      let f : i - m ≡ suc i - suc m = omega arith in
      ap (λ j. drop (suc m) (reverse (take j (x ∷ xs)))) e ∙ ap (drop (suc m)) (reverse_more (x ∷ xs) i x (omega (arith, w))) ∙ reverse_behind m (x ∷ xs) i (omega (arith, l)) (omega (arith, w)) ∙ ap (λ j. reverse (take j (x ∷ xs))) f

  -- a list of fewer than 64 has bits that fit a word, doubled
  pub bits_fit : (xs : List X) (bits : ℕ) → HasBitsFor xs bits → length xs < 64 → 2 * bits + 1 < 2 ^ 64
  bits_fit xs bits h few =
      let most : 2 ^ length xs ≤ 2 ^ 63 = pow_mono {i = length xs} {j = 63} (omega (arith, few)) in
      omega (arith, h, most)

  -- nothing is told of nothing
  pub no_bits : (xs : List X) → HasBitsFor xs 0
  no_bits xs = pow_pos (length xs)

  -- a list that is told from behind: nothing of it, and one more
  pub none_told : (p : X → Bool) (xs : List X) → picked 0 (drop (length xs) xs) ≡ filter p (drop (length xs) xs)
  unfolding picked
  none_told p xs = let none = drop_all (length xs) xs (omega arith) in ap (picked 0) none ∙ ap (filter p) (sym none)

  module _ (p : X → Bool) (xs : List X) (i : ℕ) (x : X) (bits b : ℕ) (test : Bool) (some : 0 < i) (within : i ≤ length xs) (is : x ≡ get_or xs (i - 1) x) (byte : b ≡ bool_byte test) (tested : test ≡ p x) where
    bit : b ≡ cond (p x) 1 0
    bit = byte ∙ bit_of test ∙ ap (λ t. cond t 1 0) tested

    one_longer : drop (i - 1) xs ≡ x ∷ drop i xs
    one_longer =
        let e : i - 1 + 1 ≡ i = omega (arith, some) in
        drop_more xs (i - 1) x (omega (arith, some, within)) ∙ ap₂ (λ y j. y ∷ drop j xs) (sym is) e

    pub bits_before : HasBitsFor (drop i xs) bits → HasBitsFor (drop (i - 1) xs) (2 * bits + b)
    bits_before h = subst (λ l. HasBitsFor l (2 * bits + b)) (sym one_longer) (subst (λ n. HasBitsFor (x ∷ drop i xs) (2 * bits + n)) (sym bit) (more_bits x (drop i xs) (p x) bits h))

    pub told_before : picked bits (drop i xs) ≡ filter p (drop i xs) → picked (2 * bits + b) (drop (i - 1) xs) ≡ filter p (drop (i - 1) xs)
    told_before told = ap₂ (λ n l. picked (2 * bits + n) l) bit one_longer ∙ more_picked p x (drop i xs) bits told ∙ ap (filter p) (sym one_longer)

  -- a bit more fits a word as well
  pub bit_fits : (xs : List X) (bits b : ℕ) (test : Bool) → b ≡ bool_byte test → HasBitsFor xs bits → length xs < 64 → 2 * bits + b < 2 ^ 64
  bit_fits xs bits b test byte h few = omega (arith, bits_fit xs bits h few, most test, byte)
    where
      most : (t : Bool) → bool_byte t ≤ 1
      most true = omega arith
      most false = omega arith

  pub none_of_none : picked {X = X} 0 [] ≡ []
  unfolding picked
  none_of_none = refl

  -- a beginning that is told from its end, and one more
  module _ (p : X → Bool) (xs : List X) (i : ℕ) (x : X) (bits b : ℕ) (test : Bool) (within : i < length xs) (is : x ≡ get_or xs i x) (byte : b ≡ bool_byte test) (tested : test ≡ p x) where
    flag : b ≡ cond (p x) 1 0
    flag = byte ∙ bit_of test ∙ ap (λ t. cond t 1 0) tested

    longer : reverse (take (i + 1) xs) ≡ x ∷ reverse (take i xs)
    longer = reverse_more xs i x within ∙ ap (λ y. y ∷ reverse (take i xs)) (sym is)

    pub bits_behind : HasBitsFor (reverse (take i xs)) bits → HasBitsFor (reverse (take (i + 1) xs)) (2 * bits + b)
    bits_behind h = subst (λ l. HasBitsFor l (2 * bits + b)) (sym longer) (subst (λ n. HasBitsFor (x ∷ reverse (take i xs)) (2 * bits + n)) (sym flag) (more_bits x (reverse (take i xs)) (p x) bits h))

    pub told_behind : picked bits (reverse (take i xs)) ≡ filter p (reverse (take i xs)) → picked (2 * bits + b) (reverse (take (i + 1) xs)) ≡ filter p (reverse (take (i + 1) xs))
    told_behind told = ap₂ (λ n l. picked (2 * bits + n) l) flag longer ∙ more_picked p x (reverse (take i xs)) bits told ∙ ap (filter p) (sym longer)

  pub none_picked : (xs : List X) → picked 0 xs ≡ []
  unfolding picked
  none_picked [] = refl
  none_picked (x ∷ xs) = none_picked xs

  -- those that bits tell of a test are those that pass it
  pub picks : (p : X → Bool) (xs : List X) → picked (bits_of p xs) xs ≡ filter p xs
  unfolding picked
  picks p [] = refl
  picks p (x ∷ xs) =
      ap₂ (λ b m. cond b (x ∷ picked m xs) (picked m xs)) (low (p x) (bits_of p xs)) (high (p x) (bits_of p xs))
      ∙ ap (λ r. cond (p x) (x ∷ r) r) (picks p xs)
    where
      low : (b : Bool) (m : ℕ) → ((cond b 1 0 + 2 * m) % 2 == 1) ≡ b
      low true m = let e : (1 + 2 * m) % 2 ≡ 1 = omega arith in ap (λ n. n == 1) e
      low false m = let e : (0 + 2 * m) % 2 ≡ 0 = omega arith in ap (λ n. n == 1) e

      high : (b : Bool) (m : ℕ) → (cond b 1 0 + 2 * m) / 2 ≡ m
      high true m = omega arith
      high false m = omega arith

  pub bits_within : (p : X → Bool) (xs : List X) → HasBitsFor xs (bits_of p xs)
  bits_within p xs = subst (λ n. bits_of p xs < 2 ^ n) (length-map xs p) (mask_l-lt (map p xs))

  -- the last of those that are told, and those before it
  pub last_set : (xs : List X) (j bits : ℕ) → j < length xs → 2 ^ j ≤ bits → bits < 2 ^ suc j → (d : X) → picked bits xs ≡ picked (bits - 2 ^ j) xs ++ get_or xs j d ∷ []
  unfolding picked
  last_set [] j bits l low high d = absurd (omega (arith, l))
  last_set (x ∷ xs) zero bits l low high d =
      let one : bits ≡ 1 = omega (arith, low, high) in
      let none : bits - 2 ^ 0 ≡ 0 = omega (arith, one) in
      ap (λ n. picked n (x ∷ xs)) one
      ∙ ap (λ r. x ∷ r) (none_picked xs)
      ∙ ap (λ r. r ++ x ∷ []) (sym (none_picked (x ∷ xs)) ∙ ap (λ n. picked n (x ∷ xs)) (sym none))
  last_set (x ∷ xs) (suc j) bits l low high d =
      let twice = pow-suc 2 j in
      let half_low : 2 ^ j ≤ bits / 2 = omega (arith, low, twice) in
      let half_high : bits / 2 < 2 ^ suc j = omega (arith, high, pow-suc 2 (suc j)) in
      let same_half : (bits - 2 ^ suc j) / 2 ≡ bits / 2 - 2 ^ j = omega (arith, low, twice) in
      let same_bit : (bits - 2 ^ suc j) % 2 ≡ bits % 2 = omega (arith, low, twice) in
      let rest = last_set xs j (bits / 2) (omega (arith, l)) half_low half_high d in
      ap (λ r. cond (bits % 2 == 1) (x ∷ r) r) rest
      ∙ front (bits % 2 == 1) (picked (bits / 2 - 2 ^ j) xs) (get_or xs j d)
      ∙ ap (λ r. r ++ get_or xs j d ∷ []) (ap₂ (λ b r. cond (b == 1) (x ∷ r) r) (sym same_bit) (ap (λ n. picked n xs) (sym same_half)))
    where
      front : (b : Bool) (r : List X) (e : X) → cond b (x ∷ (r ++ e ∷ [])) (r ++ e ∷ []) ≡ cond b (x ∷ r) r ++ e ∷ []
      front true r e = refl
      front false r e = refl

  -- the next of those that are told, from a place on
  module _ (xs : List X) (i bits : ℕ) (some : 0 < bits) (has : HasBitsFor (drop i xs) bits) (few : length xs ≤ 64) where
    abbrev m : ℕ
    m = count_trailing_zeros 64 bits

    next : IsFirst (drop i xs) bits m
    next = first_picked (drop i xs) bits 64 some has (omega (arith, few, length-drop i xs))

    behind : drop (suc m) (drop i xs) ≡ drop (i + m + 1) xs
    behind = let e : i + suc m ≡ i + m + 1 = omega arith in drop-drop (suc m) i xs ∙ ap (λ j. drop j xs) e

    pub next_within : i + m < length xs
    next_within = omega (arith, next.within, length-drop i xs)

    pub next_bits : HasBitsFor (drop (i + m + 1) xs) (bits / 2 ^ m / 2)
    next_bits = subst (λ l. HasBitsFor l (bits / 2 ^ m / 2)) behind next.rest

    pub next_told : (x : X) → x ≡ get_or xs (i + m) x → picked bits (drop i xs) ≡ x ∷ picked (bits / 2 ^ m / 2) (drop (i + m + 1) xs)
    next_told x is = next.first x ∙ ap₂ (λ y l. y ∷ picked (bits / 2 ^ m / 2) l) (get_or-drop i xs m x ∙ sym is) behind

  -- the last of those that are told
  module _ (xs : List X) (bits : ℕ) (some : 0 < bits) (has : HasBitsFor xs bits) (few : length xs ≤ 64) where
    abbrev last : ℕ
    last = 63 - count_leading_zeros 64 bits

    within_word : bits < 2 ^ 64
    within_word = let most : 2 ^ length xs ≤ 2 ^ 64 = pow_mono {i = length xs} {j = 64} few in omega (arith, has, most)

    same_last : (leading_top 64 bits some within_word).0 ≡ last
    same_last = omega (arith, (leading_top 64 bits some within_word).1)

    pub last_low : 2 ^ last ≤ bits
    last_low = subst (λ j. 2 ^ j ≤ bits) same_last (leading_top 64 bits some within_word).2

    last_high : bits < 2 ^ suc last
    last_high = subst (λ j. bits < 2 ^ suc j) same_last (leading_top 64 bits some within_word).3

    pub last_within : last < length xs
    last_within = ⊎_elim (λ l. l) (λ l. absurd (omega (arith, pow_mono {i = length xs} {j = last} l, last_low, has))) (cases_lt last (length xs))

    pub last_shifted : 1 * 2 ^ last % 2 ^ 64 ≡ 2 ^ last
    last_shifted = omega (arith, last_low, within_word)

    pub last_bits : HasBitsFor xs (bits - 2 ^ last)
    last_bits = omega (arith, has)

    pub last_told : (x : X) → x ≡ get_or xs last x → picked bits xs ≡ picked (bits - 2 ^ last) xs ++ x ∷ []
    last_told x is = last_set xs last bits last_within last_low last_high x ∙ ap (λ y. picked (bits - 2 ^ last) xs ++ y ∷ []) (sym is)

  -- what is made of one of a list that passes a test, and of those behind it
  pub kept_one : {Y : Type 0} (test : X → Bool) (f : X → Y) (old : List Y) (x : X) (rest : List X) → test x ≡ true → (old ++ f x ∷ []) ++ map f (filter test rest) ≡ old ++ map f (filter test (x ∷ rest))
  kept_one test f old x rest passes = append_assoc old (f x ∷ []) (map f (filter test rest)) ∙ ap (λ b. old ++ map f (cond b (x ∷ filter test rest) (filter test rest))) (sym passes)

  pub left_one : {Y : Type 0} (test : X → Bool) (f : X → Y) (old : List Y) (x : X) (rest : List X) → test x ≡ false → old ++ map f (filter test rest) ≡ old ++ map f (filter test (x ∷ rest))
  left_one test f old x rest fails = ap (λ b. old ++ map f (cond b (x ∷ filter test rest) (filter test rest))) (sym fails)

  -- two tests, one after the other
  pub kept_by_both : (p q : X → Bool) (xs : List X) → filter q (filter p xs) ≡ filter (λ x. q x && p x) xs
  kept_by_both p q [] = refl
  kept_by_both p q (x ∷ xs) = go (p x) (q x) refl (kept_by_both p q xs)
    where
      go : (b c : Bool) → q x ≡ c → filter q (filter p xs) ≡ filter (λ y. q y && p y) xs
          → filter q (cond b (x ∷ filter p xs) (filter p xs)) ≡ cond (c && b) (x ∷ filter (λ y. q y && p y) xs) (filter (λ y. q y && p y) xs)
      go true true e h = ap (λ d. cond d (x ∷ filter q (filter p xs)) (filter q (filter p xs))) e ∙ ap (λ l. x ∷ l) h
      go true false e h = ap (λ d. cond d (x ∷ filter q (filter p xs)) (filter q (filter p xs))) e ∙ h
      go false true e h = h
      go false false e h = h

  -- what is kept of a list reversed
  pub kept_reversed : (p : X → Bool) (xs : List X) → filter p (reverse xs) ≡ reverse (filter p xs)
  kept_reversed p [] = refl
  kept_reversed p (x ∷ xs) = ap (filter p) (reverse-append (x ∷ []) xs) ∙ filter-append p (reverse xs) (x ∷ []) ∙ ap (λ l. l ++ cond (p x) (x ∷ []) []) (kept_reversed p xs) ∙ go (p x)
    where
      go : (b : Bool) → reverse (filter p xs) ++ cond b (x ∷ []) [] ≡ reverse (cond b (x ∷ filter p xs) (filter p xs))
      go true = sym (reverse-append (x ∷ []) (filter p xs))
      go false = append-nil (reverse (filter p xs))
