-- What compared ends tell, lane by lane.
use Rattle.std.specs.Prelude.{ℤ, int_le, ◌≡◌, Bool, true, false, ◌&&◌, ◌-◌, ◌^◌, refl, ℕ, List, [], ◌∷◌, map, length, pos, replicate}
use Rattle.std.proofs.Common.{cond, w64, of_z, to_z, ap, ap₂, ◌∙◌, sym}
use Rattle.std.proofs.lemmas.Int.{to_z-of_z}
use mir.Val.{SFits}
use lib.Lanes.{top, zip2, Each1}
use borrow.Rule.Simd.Lanes.{act2}
use mir.Syntax.{bit_and, mask, le, signed}
use borrow.Table.Row.{s_int}
use Rattle.key_class.specs.BlockLaws.{eight_by_places}
use Rattle.interval_class.specs.Blocks.{intervals_of}
use Rattle.interval_class.specs.declared.block.IntervalBlock.{IntervalBlock}

abbrev lane_le : ℕ → ℕ → ℕ
lane_le = act2 (mask (le signed)) (s_int w64) (s_int w64) (s_int w64)

abbrev lane_and : ℕ → ℕ → ℕ
lane_and = act2 bit_and (s_int w64) (s_int w64) (s_int w64)

lane_is : (m n : ℕ) → lane_le m n ≡ cond (int_le (to_z w64 m) (to_z w64 n)) (2 ^ 64 - 1) 0
lane_is m n = refl

compared : (a b : ℤ) → SFits w64 a → SFits w64 b → lane_le (of_z w64 a) (of_z w64 b) ≡ cond (int_le a b) (2 ^ 64 - 1) 0
compared a b p q = lane_is (of_z w64 a) (of_z w64 b) ∙ ap₂ (λ x y. cond (int_le x y) (2 ^ 64 - 1) 0) (to_z-of_z w64 a p) (to_z-of_z w64 b q)

both : (p q : Bool) → top 63 (lane_and (cond p (2 ^ 64 - 1) 0) (cond q (2 ^ 64 - 1) 0)) ≡ p && q
both true true = refl
both true false = refl
both false true = refl
both false false = refl

-- one lane where two pairs are compared
lane : (a b c d : ℤ) → SFits w64 a → SFits w64 b → SFits w64 c → SFits w64 d → top 63 (lane_and (lane_le (of_z w64 a) (of_z w64 b)) (lane_le (of_z w64 c) (of_z w64 d))) ≡ int_le a b && int_le c d
lane a b c d fa fb fc fd = ap₂ (λ u v. top 63 (lane_and u v)) (compared a b fa fb) (compared c d fc fd) ∙ both (int_le a b) (int_le c d)

module _ (m q : ℤ) (fm : SFits w64 m) (fq : SFits w64 q) where
  -- lower ends up to m, upper ends from q on
  abbrev pub reaching_tops : List ℤ → List ℤ → ℕ → List Bool
  reaching_tops xs ys n = map (top 63) (zip2 lane_and (zip2 lane_le (map (of_z w64) xs) (replicate n (of_z w64 m))) (zip2 lane_le (replicate n (of_z w64 q)) (map (of_z w64) ys)))

  reaching_lanes : (xs ys : List ℤ) → Each1 (SFits w64) xs → Each1 (SFits w64) ys → reaching_tops xs ys (length xs) ≡ zip2 (λ x y. int_le x m && int_le q y) xs ys
  reaching_lanes [] ys e f = refl
  reaching_lanes (x ∷ xs) [] e f = refl
  reaching_lanes (x ∷ xs) (y ∷ ys) e f = ap₂ (λ b bs. b ∷ bs) (lane x m q y e.0 fm fq f.0) (reaching_lanes xs ys e.1 f.1)

  -- lower ends from q on, upper ends up to m
  abbrev pub between_tops : List ℤ → List ℤ → ℕ → List Bool
  between_tops xs ys n = map (top 63) (zip2 lane_and (zip2 lane_le (replicate n (of_z w64 q)) (map (of_z w64) xs)) (zip2 lane_le (map (of_z w64) ys) (replicate n (of_z w64 m))))

  between_lanes : (xs ys : List ℤ) → Each1 (SFits w64) xs → Each1 (SFits w64) ys → between_tops xs ys (length xs) ≡ zip2 (λ x y. int_le q x && int_le y m) xs ys
  between_lanes [] ys e f = refl
  between_lanes (x ∷ xs) [] e f = refl
  between_lanes (x ∷ xs) (y ∷ ys) e f = ap₂ (λ b bs. b ∷ bs) (lane q x y m fq e.0 f.0 fm) (between_lanes xs ys e.1 f.1)

  module _ (b : IntervalBlock) (all_lows : length b.lows ≡ 8) (all_highs : length b.highs ≡ 8) (lows : Each1 (SFits w64) b.lows) (highs : Each1 (SFits w64) b.highs) where
    by_places : (f : ℤ → ℤ → Bool) → zip2 f b.lows b.highs ≡ map (λ k. f k.lo k.hi) (intervals_of b)
    by_places f = ap₂ (zip2 f) (eight_by_places b.lows all_lows (pos 0)) (eight_by_places b.highs all_highs (pos 0))

    pub reaching_told : reaching_tops b.lows b.highs 8 ≡ map (λ k. int_le k.lo m && int_le q k.hi) (intervals_of b)
    reaching_told = ap (reaching_tops b.lows b.highs) (sym all_lows) ∙ reaching_lanes b.lows b.highs lows highs ∙ by_places (λ x y. int_le x m && int_le q y)

    pub between_told : between_tops b.lows b.highs 8 ≡ map (λ k. int_le q k.lo && int_le k.hi m) (intervals_of b)
    between_told = ap (between_tops b.lows b.highs) (sym all_lows) ∙ between_lanes b.lows b.highs lows highs ∙ by_places (λ x y. int_le q x && int_le y m)
