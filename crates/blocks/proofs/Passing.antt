-- Where values pass a test, by the bits of their blocks.
use Rattle.std.proofs.Common.{◌≡◌, ◌∙◌, ◌≤◌, ◌<◌, ◌+◌, ◌-◌, ◌*◌, ◌/◌, ◌%◌, ◌^◌, ℕ, suc, Bool, true, false, ◌||◌, List, [], ◌∷◌, ◌++◌, length, take, get_or, map, refl, sym, ap, ap₂, arith, w64, ⊎_elim, lt_of_lt_of_le, lt_of_le_of_lt}
use Rattle.std.specs.Prelude.{cond}
use Rattle.std.specs.Int.{bit_at, trailing_zeros}
use Rattle.std.specs.List.{list_any}
use Rattle.std.proofs.lemmas.Bool.{cases_lt}
use Rattle.std.proofs.lemmas.List.{get_or_past, get_or-map, get_or-take, length-map, map-append, take-map}
use Rattle.std.proofs.lemmas.List.Folds.{list_any_at}
use Rattle.std.proofs.lemmas.Nat.{shr-shr, shr_le}
use Rattle.std.proofs.lemmas.Nat.Bits.{bit_at-trailing_zeros, bit_at-zero}
use Rattle.std.proofs.lemmas.Simd.{bit_mask_l}
use Rattle.std.proofs.Math.Nat.{pow-le-pow_right}
use Rattle.key_class.specs.Bits.{bits_of}
use Rattle.blocks.specs.Firsts.{passes_at, IsFirstFrom, NonePassFrom}
use Rattle.blocks.specs.Values.{values_of}
use Rattle.blocks.proofs.Eights.{all_length, bits_below, value_at}

-- an answer as a bit
abbrev bit : Bool → ℕ
bit b = cond b 1 0

is_no : (b : Bool) → bit b ≡ 0 → b ≡ false
is_no true e = absurd (omega (arith, e))
is_no false e = refl

is_yes : (b : Bool) → bit b ≡ 1 → b ≡ true
is_yes true e = refl
is_yes false e = absurd (omega (arith, e))

pub not_both : (b : Bool) → b ≡ true → b ≡ false → ⊥
not_both b e f = cc

module _ {X : Type 0} (p : X → Bool) where
  past : (xs : List X) (k : ℕ) → length xs ≤ k → passes_at p xs k ≡ false
  past xs k l = get_or_past (map p xs) k false (omega (arith, l, length-map xs p))

  module _ (xs : List X) (few : length xs ≤ 64) (r : ℕ) where
    abbrev left : ℕ
    left = bits_of p xs / 2 ^ r

    -- a bit behind the first r, as the answer that it tells
    bit_told : (i : ℕ) → bit_at left i ≡ bit (passes_at p xs (r + i))
    bit_told i = ap (λ n. n % 2) (shr-shr (bits_of p xs) r i) ∙ bit_mask_l (map p xs) (r + i)

    none_left : left ≡ 0 → (i : ℕ) → passes_at p xs (r + i) ≡ false
    none_left e i = is_no _ (sym (bit_told i) ∙ ap (λ n. bit_at n i) e ∙ bit_at-zero i)

    abbrev lowest : ℕ
    lowest = trailing_zeros w64 left

    lowest_left : 0 < left → (lowest < 64) × (bit_at left lowest ≡ 1) × ((i : ℕ) → i < lowest → bit_at left i ≡ 0)
    lowest_left some = bit_at-trailing_zeros w64 left some (lt_of_le_of_lt (shr_le (bits_of p xs) r) (lt_of_lt_of_le (bits_below p xs (length xs) refl) (pow-le-pow_right (omega arith) few)))

    lowest_passes : 0 < left → passes_at p xs (r + lowest) ≡ true
    lowest_passes some = is_yes _ (sym (bit_told lowest) ∙ (lowest_left some).1)

    none_below : 0 < left → (i : ℕ) → i < lowest → passes_at p xs (r + i) ≡ false
    none_below some i l = is_no _ (sym (bit_told i) ∙ (lowest_left some).2 i l)

    lowest_within : 0 < left → r + lowest < length xs
    lowest_within some = ⊎_elim (λ (l : r + lowest < length xs). l) (λ (l : length xs ≤ r + lowest). absurd (not_both _ (lowest_passes some) (past xs (r + lowest) l))) (cases_lt (r + lowest) (length xs))

    -- the lowest of the bits that are left tells of the first that passes
    pub first_by_bits : 0 < left → IsFirstFrom p xs r (r + lowest)
    first_by_bits some = record {
      behind = omega arith;
      within = lowest_within some;
      passes = lowest_passes some;
      none_before = λ k l h.
          let same : r + (k - r) ≡ k = omega (arith, l) in
          ap (passes_at p xs) (sym same) ∙ none_below some (k - r) (omega (arith, l, h));
    }

    pub none_by_bits : left ≡ 0 → NonePassFrom p xs r
    none_by_bits e k l =
        let same : r + (k - r) ≡ k = omega (arith, l) in
        ap (passes_at p xs) (sym same) ∙ none_left e (k - r)

  -- some of the first values
  module _ (xs : List X) (n from : ℕ) (within : n ≤ length xs) where
    cut : (k : ℕ) → k < n → passes_at p (take n xs) k ≡ passes_at p xs k
    cut k l = ap (λ bs. get_or bs k false) (sym (take-map p n xs)) ∙ get_or-take n (map p xs) k false l

    cut_length : length (take n xs) ≡ n → (k : ℕ) → n ≤ k → passes_at p (take n xs) k ≡ false
    cut_length e k l = past (take n xs) k (omega (arith, e, l))

    pub none_of_first : length (take n xs) ≡ n → NonePassFrom p xs from → NonePassFrom p (take n xs) from
    none_of_first e none k l = ⊎_elim (λ (b : k < n). cut k b ∙ none k l) (λ (b : n ≤ k). cut_length e k b) (cases_lt k n)

    pub first_is_behind : (place : ℕ) → length (take n xs) ≡ n → n ≤ place → IsFirstFrom p xs from place → NonePassFrom p (take n xs) from
    first_is_behind place e b first k l = ⊎_elim (λ (h : k < n). cut k h ∙ first.none_before k l (omega (arith, h, b))) (λ (h : n ≤ k). cut_length e k h) (cases_lt k n)

    pub first_of_first : (place : ℕ) → length (take n xs) ≡ n → place < n → IsFirstFrom p xs from place → IsFirstFrom p (take n xs) from place
    first_of_first place e b first = record {
      behind = first.behind;
      within = omega (arith, e, b);
      passes = cut place b ∙ first.passes;
      none_before = λ k l h. cut k (omega (arith, h, b)) ∙ first.none_before k l h;
    }

  -- one passes, if there is a first that does
  pub some_passes : (xs : List X) (from place : ℕ) → IsFirstFrom p xs from place → list_any p xs ≡ true
  some_passes [] from place first = absurd (omega (arith, first.within))
  some_passes (x ∷ xs) from place first = list_any_at p (x ∷ xs) place x first.within (sym (get_or-map p (x ∷ xs) place x false first.within) ∙ first.passes)

  pub none_passes : (xs : List X) → NonePassFrom p xs 0 → list_any p xs ≡ false
  none_passes [] none = refl
  none_passes (x ∷ xs) none = ap₂ (λ a b. a || b) (none 0 (omega arith)) (none_passes xs (λ k l. none (suc k) (omega arith)))

module _ {B X : Type 0} (items : B → List X) (eight : (b : B) → length (items b) ≡ 8) (p : X → Bool) where
  few : (b : B) → length (items b) ≤ 64
  few b = omega (arith, eight b)

  -- the answers of all values, block by block
  answers : (bs : List B) → map p (values_of items bs) ≡ values_of (λ b. map p (items b)) bs
  answers [] = refl
  answers (b ∷ bs) = map-append p (items b) (values_of items bs) ∙ ap (λ l. map p (items b) ++ l) (answers bs)

  module _ (bs : List B) where
    abbrev values : List X
    values = values_of items bs

    -- no value passes from one place to another
    abbrev pub NoneBetween : ℕ → ℕ → Type 0
    NoneBetween from to = (k : ℕ) → from ≤ k → k < to → passes_at p values k ≡ false

    pub none_at_all : (from to : ℕ) → 8 * length bs ≤ to → NoneBetween from to → NonePassFrom p values from
    none_at_all from to all none k l =
        ⊎_elim (λ (h : k < to). none k l h) (λ (h : to ≤ k). past p values k (omega (arith, all_length items eight bs, all, h))) (cases_lt k to)

    module _ (q r : ℕ) (b : B) (there : q < length bs) (small : r < 8) (is : b ≡ get_or bs q b) where
      at : (j : ℕ) → j < 8 → passes_at p values (q * 8 + j) ≡ passes_at p (items b) j
      at j l = ap (λ l. get_or l (q * 8 + j) false) (answers bs) ∙ value_at (λ b. map p (items b)) (λ b. length-map (items b) p ∙ eight b) bs q j b there l is false

      here : (k : ℕ) → q * 8 + r ≤ k → k < q * 8 + 8 → passes_at p values k ≡ passes_at p (items b) (r + (k - (q * 8 + r)))
      here k l h =
          let same : q * 8 + (r + (k - (q * 8 + r))) ≡ k = omega (arith, l) in
          ap (λ n. passes_at p values n) (sym same) ∙ at (r + (k - (q * 8 + r))) (omega (arith, l, h))

      abbrev pub told : ℕ
      told = bits_of p (items b) / 2 ^ r

      pub none_in_block : (from : ℕ) → NoneBetween from (q * 8 + r) → told ≡ 0 → NoneBetween from (q * 8 + 8)
      none_in_block from none e k l h =
          ⊎_elim (λ (w : k < q * 8 + r). none k l w)
          (λ (w : q * 8 + r ≤ k). here k w h ∙ none_left p (items b) (few b) r e (k - (q * 8 + r)))
          (cases_lt k (q * 8 + r))

      pub first_in_block : (from place : ℕ) → from ≤ q * 8 + r → NoneBetween from (q * 8 + r) → 0 < told → place ≡ q * 8 + (r + trailing_zeros w64 told) → IsFirstFrom p values from place
      first_in_block from place low none some e =
          let t = trailing_zeros w64 told in
          let small : r + t < 8 = omega (arith, lowest_within p (items b) (few b) r some, eight b) in record {
            behind = omega (arith, low, e);
            within = omega (arith, e, small, all_length items eight bs, there);
            passes = ap (λ n. passes_at p values n) e ∙ at (r + t) small ∙ lowest_passes p (items b) (few b) r some;
            none_before = λ k l h.
                ⊎_elim (λ (w : k < q * 8 + r). none k l w)
                (λ (w : q * 8 + r ≤ k). here k w (omega (arith, h, e, small)) ∙ none_below p (items b) (few b) r some (k - (q * 8 + r)) (omega (arith, h, e, w)))
                (cases_lt k (q * 8 + r));
          }
