-- Sets by the two halves of their masks.
use Rattle.std.proofs.Common.{◌≡◌, ℕ, ◌+◌, ◌*◌, ◌/◌, ◌%◌, ◌^◌, ◌-◌, ◌<◌, ◌≤◌, ◌==◌, bit_and, bit_or, count_ones, arith, ap, sym, ◌∙◌}
use Rattle.std.specs.Int.{bit_at, bit_not}
use Rattle.std.specs.Int.Bits.{or_add_and}
use Rattle.std.specs.Cmp.{both_ways}
use mir.Syntax.{w64, w128}
use Rattle.std.proofs.Common.{⊎_elim}
use Rattle.std.proofs.lemmas.Bool.{cases_lt, eqb-true, eq-eqb}
use Rattle.std.proofs.lemmas.Nat.{and_le_l, and_le_r, ones_cat, or_mod, or_shr}
use Rattle.std.proofs.lemmas.Nat.Bits.{bit_at_and, bit_at_not, bit_at_above, bit_at-zero, bit_at-lt, bit_at_cat_low, bit_at_cat_high, same_from_bits}
use Rattle.set_class.specs.declared.elements.Elements.{Elements}
use Rattle.set_class.specs.Sets.{is_cover}
use Rattle.set_class.specs.SetLaws.{within_from_cover, cover_from_within, gained}

parts : (n : ℕ) → n / 2 ^ 64 * 2 ^ 64 + n % 2 ^ 64 ≡ n
parts n = omega arith

low_bit : (n i : ℕ) → i < 64 → bit_at (n % 2 ^ 64) i ≡ bit_at n i
low_bit n i l =
    sym (bit_at_cat_low (n / 2 ^ 64) 64 (n % 2 ^ 64) i l) ∙ ap (λ m. bit_at m i) (parts n)

high_bit : (n i : ℕ) → 64 ≤ i → bit_at (n / 2 ^ 64) (i - 64) ≡ bit_at n i
high_bit n i l =
    sym (bit_at_cat_high (n / 2 ^ 64) 64 (n % 2 ^ 64) i (omega arith) l) ∙ ap (λ m. bit_at m i) (parts n)

bit_of_high : (n i : ℕ) → bit_at (n / 2 ^ 64) i ≡ bit_at n (i + 64)
bit_of_high n i =
    let e : i ≡ i + 64 - 64 = omega arith in
    ap (λ j. bit_at (n / 2 ^ 64) j) e ∙ high_bit n (i + 64) (omega arith)

none_from_bits : (n : ℕ) → ((i : ℕ) → bit_at n i ≡ 0) → n ≡ 0
none_from_bits n h = same_from_bits n 0 (λ i. h i ∙ sym (bit_at-zero i))

bits_of_none : (n i : ℕ) → n ≡ 0 → bit_at n i ≡ 0
bits_of_none n i h = ap (λ m. bit_at m i) h ∙ bit_at-zero i

-- two numbers joined are 0 where both are
abbrev joined : ℕ → ℕ → ℕ
joined x y = bit_or (bit_or 0 x) y

first_none : (x y : ℕ) → joined x y ≡ 0 → x ≡ 0
first_none x y h =
    omega (arith, h, or_add_and 0 x, and_le_l 0 x, or_add_and (bit_or 0 x) y, and_le_l (bit_or 0 x) y, and_le_r (bit_or 0 x) y)

second_none : (x y : ℕ) → joined x y ≡ 0 → y ≡ 0
second_none x y h =
    omega (arith, h, or_add_and 0 x, and_le_l 0 x, or_add_and (bit_or 0 x) y, and_le_l (bit_or 0 x) y, and_le_r (bit_or 0 x) y)

none_joined : (x y : ℕ) → x ≡ 0 → y ≡ 0 → joined x y ≡ 0
none_joined x y h k =
    omega (arith, h, k, or_add_and 0 x, or_add_and (bit_or 0 x) y)

-- each bit of a half is one of another's where none is left over
half_within : (b k i : ℕ) → b < 2 ^ 64 → k < 2 ^ 64 → bit_and k (bit_not w64 b) ≡ 0 → bit_at k i ≤ bit_at b i
half_within b k i p q h =
    ⊎_elim
    (λ (l : i < 64). omega (arith, bits_of_none _ i h, bit_at_and k (bit_not w64 b) i, bit_at_not w64 b i p l, bit_at-lt b i, bit_at-lt k i))
    (λ (l : 64 ≤ i). omega (arith, bit_at_above k 64 i q l))
    (cases_lt i 64)

nothing_left : (b k : ℕ) → b < 2 ^ 64 → k < 2 ^ 64 → ((i : ℕ) → bit_at k i ≤ bit_at b i) → bit_and k (bit_not w64 b) ≡ 0
nothing_left b k p q f =
    none_from_bits (bit_and k (bit_not w64 b)) (λ i.
    ⊎_elim
    (λ (l : i < 64). omega (arith, f i, bit_at_and k (bit_not w64 b) i, bit_at_not w64 b i p l, bit_at-lt b i, bit_at-lt k i))
    (λ (l : 64 ≤ i). omega (arith, bit_at_and k (bit_not w64 b) i, bit_at_above k 64 i q l))
    (cases_lt i 64))

abbrev left_over : ℕ → ℕ → ℕ
left_over b k = bit_and k (bit_not w64 b)

pub cover_by_halves : (b k : Elements) → b.mask < 2 ^ 128 → k.mask < 2 ^ 128 → (joined (left_over (b.mask % 2 ^ 64) (k.mask % 2 ^ 64)) (left_over (b.mask / 2 ^ 64) (k.mask / 2 ^ 64)) == 0) ≡ is_cover b k
cover_by_halves b k p q =
    let bl = b.mask % 2 ^ 64 in
    let bh = b.mask / 2 ^ 64 in
    let kl = k.mask % 2 ^ 64 in
    let kh = k.mask / 2 ^ 64 in
    let x = left_over bl kl in
    let y = left_over bh kh in
    both_ways (joined x y == 0) (is_cover b k)
    (λ h.
    let e = eqb-true (joined x y) 0 h in
    cover_from_within b k (λ i.
    ⊎_elim
    (λ (l : i < 64). omega (arith, low_bit b.mask i l, low_bit k.mask i l, half_within bl kl i (omega arith) (omega arith) (first_none x y e)))
    (λ (l : 64 ≤ i). omega (arith, high_bit b.mask i l, high_bit k.mask i l, half_within bh kh (i - 64) (omega arith) (omega arith) (second_none x y e)))
    (cases_lt i 64)))
    (λ h.
    let w = within_from_cover b k h in
    eq-eqb (joined x y) 0 (none_joined x y
    (nothing_left bl kl (omega arith) (omega arith) (λ i.
    ⊎_elim
    (λ (l : i < 64). omega (arith, low_bit b.mask i l, low_bit k.mask i l, w i))
    (λ (l : 64 ≤ i). omega (arith, bit_at_above kl 64 i (omega arith) l))
    (cases_lt i 64)))
    (nothing_left bh kh (omega arith) (omega arith) (λ i.
    omega (arith, bit_of_high b.mask i, bit_of_high k.mask i, w (i + 64))))))

pub meeting_by_halves : (a b : ℕ) → (joined (bit_and (a % 2 ^ 64) (b % 2 ^ 64)) (bit_and (a / 2 ^ 64) (b / 2 ^ 64)) == 0) ≡ (bit_and a b == 0)
meeting_by_halves a b =
    let x = bit_and (a % 2 ^ 64) (b % 2 ^ 64) in
    let y = bit_and (a / 2 ^ 64) (b / 2 ^ 64) in
    both_ways (joined x y == 0) (bit_and a b == 0)
    (λ h.
    let e = eqb-true (joined x y) 0 h in
    eq-eqb (bit_and a b) 0 (none_from_bits (bit_and a b) (λ i.
    ⊎_elim
    (λ (l : i < 64). omega (arith, bit_at_and a b i, low_bit a i l, low_bit b i l, bit_at_and (a % 2 ^ 64) (b % 2 ^ 64) i, bits_of_none x i (first_none x y e)))
    (λ (l : 64 ≤ i). omega (arith, bit_at_and a b i, high_bit a i l, high_bit b i l, bit_at_and (a / 2 ^ 64) (b / 2 ^ 64) (i - 64), bits_of_none y (i - 64) (second_none x y e)))
    (cases_lt i 64))))
    (λ h.
    let e = eqb-true (bit_and a b) 0 h in
    eq-eqb (joined x y) 0 (none_joined x y
    (none_from_bits x (λ i.
    ⊎_elim
    (λ (l : i < 64). omega (arith, bit_at_and a b i, low_bit a i l, low_bit b i l, bit_at_and (a % 2 ^ 64) (b % 2 ^ 64) i, bits_of_none (bit_and a b) i e))
    (λ (l : 64 ≤ i). omega (arith, bit_at_and (a % 2 ^ 64) (b % 2 ^ 64) i, bit_at_above (a % 2 ^ 64) 64 i (omega arith) l))
    (cases_lt i 64)))
    (none_from_bits y (λ i.
    omega (arith, bit_at_and a b (i + 64), bit_of_high a i, bit_of_high b i, bit_at_and (a / 2 ^ 64) (b / 2 ^ 64) i, bits_of_none (bit_and a b) (i + 64) e)))))

-- what a half lacks is the same whether it is told from 64 numbers or from 128
same_left_over : (b k : ℕ) → b < 2 ^ 64 → k < 2 ^ 64 → left_over b k ≡ bit_and k (bit_not w128 b)
same_left_over b k p q =
    same_from_bits (left_over b k) (bit_and k (bit_not w128 b)) (λ i.
    ⊎_elim
    (λ (l : i < 64). omega (arith, bit_at_and k (bit_not w64 b) i, bit_at_and k (bit_not w128 b) i, bit_at_not w64 b i p l, bit_at_not w128 b i (omega (arith, p)) (omega (arith, l))))
    (λ (l : 64 ≤ i). omega (arith, bit_at_and k (bit_not w64 b) i, bit_at_and k (bit_not w128 b) i, bit_at_above k 64 i q l))
    (cases_lt i 64))

half_gained : (b k : ℕ) → b < 2 ^ 64 → k < 2 ^ 64 → count_ones (left_over b k) + count_ones b ≡ count_ones (bit_or b k)
half_gained b k p q =
    omega (arith, ap count_ones (same_left_over b k p q), gained b k (omega (arith, p)) (omega (arith, q)))

ones_by_halves : (n : ℕ) → count_ones n ≡ count_ones (n / 2 ^ 64) + count_ones (n % 2 ^ 64)
ones_by_halves n = ap count_ones (sym (parts n)) ∙ ones_cat 64 (n / 2 ^ 64) (n % 2 ^ 64) (omega arith)

pub gained_by_halves : (b k : ℕ) → b < 2 ^ 128 → k < 2 ^ 128 → count_ones (left_over (b % 2 ^ 64) (k % 2 ^ 64)) + (count_ones (left_over (b / 2 ^ 64) (k / 2 ^ 64)) + 0) + count_ones b ≡ count_ones (bit_or b k)
gained_by_halves b k p q =
    let lower = half_gained (b % 2 ^ 64) (k % 2 ^ 64) (omega arith) (omega arith) in
    let upper = half_gained (b / 2 ^ 64) (k / 2 ^ 64) (omega arith) (omega arith) in
    omega (arith, lower, upper, ones_by_halves b, ones_by_halves (bit_or b k), ap count_ones (or_mod b k 64), ap count_ones (or_shr b k 64))
