-- What compared halves tell, lane by lane.
use Rattle.std.proofs.Common.{◌≡◌, ◌∙◌, ◌==◌, ◌&&◌, ℕ, ◌+◌, ◌-◌, ◌*◌, ◌/◌, ◌%◌, ◌^◌, ◌<◌, Bool, true, false, not, cond, List, map, replicate, length, get_or, bit_and, bit_or, refl, ap, ap₂, sym, arith, w64, Fits}
use Rattle.std.specs.Int.{bit_not}
use Rattle.std.specs.Int.Bits.{or_add_and, or_zero_l}
use Rattle.std.specs.Cmp.{both_ways}
use Rattle.std.proofs.lemmas.Bool.{and_parts, and_from, eqb-true, eq-eqb}
use Rattle.std.proofs.lemmas.Nat.{and_block, and_comm, and_le_l, and_le_r}
use Rattle.std.proofs.lemmas.Nat.Bits.{same_from_bits}
use Rattle.std.proofs.lemmas.Simd.{Each1-get_or}
use lib.Lanes.{top, zip2, Each1}
use Rattle.key_class.specs.Blocks.{eight_of}
use Rattle.key_class.specs.BlockLaws.{eight_by_places, eight_same}
use Rattle.set_class.specs.Blocks.{sets_of}
use Rattle.set_class.specs.Sets.{is_cover, is_meeting}
use Rattle.set_class.specs.SetLaws.{covers_itself, same_elements, within_from_cover}
use Rattle.set_class.specs.declared.elements.Elements.{Elements}
use Rattle.set_class.specs.declared.block.SetBlock.{SetBlock}
use Rattle.set_class.proofs.Halves.{cover_by_halves}

-- the lane that a comparison makes
abbrev answer : Bool → ℕ
answer p = cond p (2 ^ 64 - 1) 0

told : (p : Bool) → top 63 (answer p) ≡ p
told true = refl
told false = refl

both_told : (p q : Bool) → top 63 (bit_and (answer p) (answer q)) ≡ p && q
both_told true true = refl
both_told true false = refl
both_told false true = refl
both_told false false = refl

abbrev equal : ℕ → ℕ → ℕ
equal a b = answer (a == b)

abbrev unequal : ℕ → ℕ → ℕ
unequal a b = answer (not (a == b))

-- neither half has a bit exactly if the whole has none
none_in_either : (x y : ℕ) → (bit_or x y == 0) ≡ (y * 2 ^ 64 + x == 0)
none_in_either x y =
    both_ways (bit_or x y == 0) (y * 2 ^ 64 + x == 0)
    (λ h. eq-eqb (y * 2 ^ 64 + x) 0 (omega (arith, eqb-true (bit_or x y) 0 h, or_add_and x y, and_le_l x y, and_le_r x y)))
    (λ h. eq-eqb (bit_or x y) 0 (omega (arith, eqb-true (y * 2 ^ 64 + x) 0 h, or_add_and x y)))

abbrev of_halves : ℕ → ℕ → Elements
of_halves l u = record { mask = u * 2 ^ 64 + l }

-- one lane, the halves of whose key are l and u
module _ (q : Elements) (fits : q.mask < 2 ^ 128) where
  abbrev ql : ℕ
  ql = q.mask % 2 ^ 64

  abbrev qu : ℕ
  qu = q.mask / 2 ^ 64

  parts : qu * 2 ^ 64 + ql ≡ q.mask
  parts = omega arith

  module _ (l u : ℕ) (low : l < 2 ^ 64) (high : u < 2 ^ 64) where
    lower_half : (u * 2 ^ 64 + l) % 2 ^ 64 ≡ l
    lower_half = omega arith

    upper_half : (u * 2 ^ 64 + l) / 2 ^ 64 ≡ u
    upper_half = omega arith

    meeting_lane : top 63 (unequal (bit_or (bit_and l ql) (bit_and u qu)) 0) ≡ is_meeting (of_halves l u) q
    meeting_lane =
        told (not (bit_or (bit_and l ql) (bit_and u qu) == 0))
        ∙ ap not (none_in_either (bit_and l ql) (bit_and u qu)
        ∙ ap (λ n. n == 0) (sym (and_block 64 u qu l ql low (omega arith)) ∙ ap (bit_and (u * 2 ^ 64 + l)) parts))

    inside_lane : top 63 (equal (bit_or (bit_and l (bit_not w64 ql)) (bit_and u (bit_not w64 qu))) 0) ≡ is_cover q (of_halves l u)
    inside_lane =
        told (bit_or (bit_and l (bit_not w64 ql)) (bit_and u (bit_not w64 qu)) == 0)
        ∙ ap (λ n. bit_or n (bit_and u (bit_not w64 qu)) == 0) (sym (or_zero_l (bit_and l (bit_not w64 ql))))
        ∙ ap₂ (λ x y. bit_or (bit_or 0 (bit_and x (bit_not w64 ql))) (bit_and y (bit_not w64 qu)) == 0) (sym lower_half) (sym upper_half)
        ∙ cover_by_halves q (of_halves l u) fits (omega (arith, low, high))

    holding_lane : top 63 (equal (bit_or (bit_and (bit_not w64 l) ql) (bit_and (bit_not w64 u) qu)) 0) ≡ is_cover (of_halves l u) q
    holding_lane =
        told (bit_or (bit_and (bit_not w64 l) ql) (bit_and (bit_not w64 u) qu) == 0)
        ∙ ap₂ (λ x y. bit_or x y == 0) (and_comm (bit_not w64 l) ql) (and_comm (bit_not w64 u) qu)
        ∙ ap (λ n. bit_or n (bit_and qu (bit_not w64 u)) == 0) (sym (or_zero_l (bit_and ql (bit_not w64 l))))
        ∙ ap₂ (λ x y. bit_or (bit_or 0 (bit_and ql (bit_not w64 x))) (bit_and qu (bit_not w64 y)) == 0) (sym lower_half) (sym upper_half)
        ∙ cover_by_halves (of_halves l u) q (omega (arith, low, high)) fits

    same_halves : (l == ql) && (u == qu) ≡ is_cover q (of_halves l u) && is_cover (of_halves l u) q
    same_halves =
        let k = of_halves l u in
        both_ways ((l == ql) && (u == qu)) (is_cover q k && is_cover k q)
        (λ h.
        let p = and_parts (l == ql) (u == qu) h in
        let m : u * 2 ^ 64 + l ≡ q.mask = omega (arith, eqb-true l ql p.0, eqb-true u qu p.1) in
        let e = same_elements k q m in
        and_from (is_cover q k) (is_cover k q) (ap (λ x. is_cover q x) e ∙ covers_itself q) (ap (λ x. is_cover x q) e ∙ covers_itself q))
        (λ h.
        let p = and_parts (is_cover q k) (is_cover k q) h in
        let e = same_from_bits (u * 2 ^ 64 + l) q.mask (λ i. omega (arith, within_from_cover q k p.0 i, within_from_cover k q p.1 i)) in
        and_from (l == ql) (u == qu) (eq-eqb l ql (omega (arith, e, low))) (eq-eqb u qu (omega (arith, e, low))))

    alike_lane : top 63 (bit_and (equal l ql) (equal u qu)) ≡ is_cover q (of_halves l u) && is_cover (of_halves l u) q
    alike_lane = both_told (l == ql) (u == qu) ∙ same_halves

-- the lanes of two columns, where the operand's halves are ql and qu
module _ (ql qu : ℕ) (ls us : List ℕ) where
  abbrev pub meeting_tops : List Bool
  meeting_tops = map (top 63) (zip2 unequal (zip2 bit_or (zip2 bit_and ls (replicate 8 ql)) (zip2 bit_and us (replicate 8 qu))) (replicate 8 0))

  abbrev pub inside_tops : List Bool
  inside_tops = map (top 63) (zip2 equal (zip2 bit_or (zip2 bit_and ls (map (bit_not w64) (replicate 8 ql))) (zip2 bit_and us (map (bit_not w64) (replicate 8 qu)))) (replicate 8 0))

  abbrev pub holding_tops : List Bool
  holding_tops = map (top 63) (zip2 equal (zip2 bit_or (zip2 bit_and (map (bit_not w64) ls) (replicate 8 ql)) (zip2 bit_and (map (bit_not w64) us) (replicate 8 qu))) (replicate 8 0))

  abbrev pub alike_tops : List Bool
  alike_tops = map (top 63) (zip2 bit_and (zip2 equal ls (replicate 8 ql)) (zip2 equal us (replicate 8 qu)))

module _ (b : SetBlock) (all_lowers : length b.lowers ≡ 8) (all_uppers : length b.uppers ≡ 8) (lowers : Each1 (Fits w64) b.lowers) (uppers : Each1 (Fits w64) b.uppers) where
  below : (xs : List ℕ) → length xs ≡ 8 → Each1 (Fits w64) xs → (k : ℕ) → k < 8 → get_or xs k 0 < 2 ^ 64
  below xs e all k l = (Each1-get_or (Fits w64) xs k 0 (omega (arith, e, l)) all).fits

  module _ (tops : List ℕ → List ℕ → List Bool) (lane : ℕ → ℕ → Bool) (test : Elements → Bool) (one : (l u : ℕ) → l < 2 ^ 64 → u < 2 ^ 64 → lane l u ≡ test (of_halves l u)) where
    at : (k : ℕ) → k < 8 → lane (get_or b.lowers k 0) (get_or b.uppers k 0) ≡ test (of_halves (get_or b.lowers k 0) (get_or b.uppers k 0))
    at k l = one (get_or b.lowers k 0) (get_or b.uppers k 0) (below b.lowers all_lowers lowers k l) (below b.uppers all_uppers uppers k l)

    by_lanes : ((f g : ℕ → ℕ) → tops (eight_of f) (eight_of g) ≡ eight_of (λ k. lane (f k) (g k))) → tops b.lowers b.uppers ≡ map test (sets_of b)
    by_lanes split =
        ap₂ tops (eight_by_places b.lowers all_lowers 0) (eight_by_places b.uppers all_uppers 0)
        ∙ split (λ k. get_or b.lowers k 0) (λ k. get_or b.uppers k 0)
        ∙ eight_same (at 0 (omega arith)) (at 1 (omega arith)) (at 2 (omega arith)) (at 3 (omega arith)) (at 4 (omega arith)) (at 5 (omega arith)) (at 6 (omega arith)) (at 7 (omega arith))

  module _ (q : Elements) (fits : q.mask < 2 ^ 128) {m n : ℕ} (is_lower : m ≡ q.mask % 2 ^ 64) (is_upper : n ≡ q.mask / 2 ^ 64) where
    abbrev lo : ℕ
    lo = q.mask % 2 ^ 64

    abbrev up : ℕ
    up = q.mask / 2 ^ 64

    pub meeting_told : meeting_tops m n b.lowers b.uppers ≡ map (λ k. is_meeting k q) (sets_of b)
    meeting_told =
        ap₂ (λ x y. meeting_tops x y b.lowers b.uppers) is_lower is_upper
        ∙ by_lanes (meeting_tops lo up) (λ l u. top 63 (unequal (bit_or (bit_and l lo) (bit_and u up)) 0)) (λ k. is_meeting k q) (meeting_lane q fits) (λ f g. refl)

    pub inside_told : inside_tops m n b.lowers b.uppers ≡ map (λ k. is_cover q k) (sets_of b)
    inside_told =
        ap₂ (λ x y. inside_tops x y b.lowers b.uppers) is_lower is_upper
        ∙ by_lanes (inside_tops lo up) (λ l u. top 63 (equal (bit_or (bit_and l (bit_not w64 lo)) (bit_and u (bit_not w64 up))) 0)) (λ k. is_cover q k) (inside_lane q fits) (λ f g. refl)

    pub holding_told : holding_tops m n b.lowers b.uppers ≡ map (λ k. is_cover k q) (sets_of b)
    holding_told =
        ap₂ (λ x y. holding_tops x y b.lowers b.uppers) is_lower is_upper
        ∙ by_lanes (holding_tops lo up) (λ l u. top 63 (equal (bit_or (bit_and (bit_not w64 l) lo) (bit_and (bit_not w64 u) up)) 0)) (λ k. is_cover k q) (holding_lane q fits) (λ f g. refl)

    pub alike_told : alike_tops m n b.lowers b.uppers ≡ map (λ k. is_cover q k && is_cover k q) (sets_of b)
    alike_told =
        ap₂ (λ x y. alike_tops x y b.lowers b.uppers) is_lower is_upper
        ∙ by_lanes (alike_tops lo up) (λ l u. top 63 (bit_and (equal l lo) (equal u up))) (λ k. is_cover q k && is_cover k q) (alike_lane q fits) (λ f g. refl)
