-- What compared ends tell, lane by lane.
use Rattle.std.specs.Prelude.{ℤ, int_le, ◌≡◌, ◌<◌, Bool, true, false, ◌&&◌, ◌-◌, ◌^◌, refl, ℕ, List, map, length, pos, replicate}
use Rattle.std.proofs.Common.{cond, w32, of_z, to_z, get_or, ap₂, ◌∙◌, arith}
use Rattle.std.proofs.lemmas.Int.{to_z-of_z}
use Rattle.std.proofs.lemmas.Simd.{Each1-get_or}
use mir.Val.{SFits}
use lib.Lanes.{top, zip2, Each1}
use borrow.Rule.Simd.Lanes.{act2}
use mir.Syntax.{bit_and, mask, le, signed}
use borrow.Table.Row.{s_int}
use Rattle.key_class.specs.Blocks.{eight_of}
use Rattle.key_class.specs.BlockLaws.{eight_by_places, eight_same}
use Rattle.box_class.specs.Blocks.{boxes_of}
use Rattle.box_class.specs.declared.block.BoxBlock.{BoxBlock}

abbrev lane_le : ℕ → ℕ → ℕ
lane_le = act2 (mask (le signed)) (s_int w32) (s_int w32) (s_int w32)

abbrev lane_and : ℕ → ℕ → ℕ
lane_and = act2 bit_and (s_int w32) (s_int w32) (s_int w32)

lane_is : (m n : ℕ) → lane_le m n ≡ cond (int_le (to_z w32 m) (to_z w32 n)) (2 ^ 32 - 1) 0
lane_is m n = refl

compared : (a b : ℤ) → SFits w32 a → SFits w32 b → lane_le (of_z w32 a) (of_z w32 b) ≡ cond (int_le a b) (2 ^ 32 - 1) 0
compared a b p q = lane_is (of_z w32 a) (of_z w32 b) ∙ ap₂ (λ x y. cond (int_le x y) (2 ^ 32 - 1) 0) (to_z-of_z w32 a p) (to_z-of_z w32 b q)

all_four : (p q r s : Bool) → top 31 (lane_and (lane_and (cond p (2 ^ 32 - 1) 0) (cond q (2 ^ 32 - 1) 0)) (lane_and (cond r (2 ^ 32 - 1) 0) (cond s (2 ^ 32 - 1) 0))) ≡ (p && q) && (r && s)
all_four true true true true = refl
all_four true true true false = refl
all_four true true false true = refl
all_four true true false false = refl
all_four true false true true = refl
all_four true false true false = refl
all_four true false false true = refl
all_four true false false false = refl
all_four false true true true = refl
all_four false true true false = refl
all_four false true false true = refl
all_four false true false false = refl
all_four false false true true = refl
all_four false false true false = refl
all_four false false false true = refl
all_four false false false false = refl

-- one lane where four pairs are compared
lane : (a b c d e f g h : ℤ) → SFits w32 a → SFits w32 b → SFits w32 c → SFits w32 d → SFits w32 e → SFits w32 f → SFits w32 g → SFits w32 h
    → top 31 (lane_and (lane_and (lane_le (of_z w32 a) (of_z w32 b)) (lane_le (of_z w32 c) (of_z w32 d))) (lane_and (lane_le (of_z w32 e) (of_z w32 f)) (lane_le (of_z w32 g) (of_z w32 h))))
    ≡ (int_le a b && int_le c d) && (int_le e f && int_le g h)
lane a b c d e f g h fa fb fc fd fe ff fg fh =
    ap₂ (λ u v. top 31 (lane_and u v)) (ap₂ lane_and (compared a b fa fb) (compared c d fc fd)) (ap₂ lane_and (compared e f fe ff) (compared g h fg fh))
    ∙ all_four (int_le a b) (int_le c d) (int_le e f) (int_le g h)

module _ (xm xl ym yl : ℤ) (fxm : SFits w32 xm) (fxl : SFits w32 xl) (fym : SFits w32 ym) (fyl : SFits w32 yl) where
  abbrev splat : ℤ → List ℕ
  splat q = replicate 8 (of_z w32 q)

  -- lower ends up to the most, upper ends from the least on
  abbrev pub reaching_tops : List ℤ → List ℤ → List ℤ → List ℤ → List Bool
  reaching_tops ls rs bs hs = map (top 31) (zip2 lane_and
      (zip2 lane_and (zip2 lane_le (map (of_z w32) ls) (splat xm)) (zip2 lane_le (splat xl) (map (of_z w32) rs)))
      (zip2 lane_and (zip2 lane_le (map (of_z w32) bs) (splat ym)) (zip2 lane_le (splat yl) (map (of_z w32) hs))))

  -- lower ends from the least on, upper ends up to the most
  abbrev pub between_tops : List ℤ → List ℤ → List ℤ → List ℤ → List Bool
  between_tops ls rs bs hs = map (top 31) (zip2 lane_and
      (zip2 lane_and (zip2 lane_le (splat xl) (map (of_z w32) ls)) (zip2 lane_le (map (of_z w32) rs) (splat xm)))
      (zip2 lane_and (zip2 lane_le (splat yl) (map (of_z w32) bs)) (zip2 lane_le (map (of_z w32) hs) (splat ym))))

  module _ (b : BoxBlock) (all_lefts : length b.lefts ≡ 8) (all_rights : length b.rights ≡ 8) (all_lows : length b.lows ≡ 8) (all_highs : length b.highs ≡ 8)
      (lefts : Each1 (SFits w32) b.lefts) (rights : Each1 (SFits w32) b.rights) (lows : Each1 (SFits w32) b.lows) (highs : Each1 (SFits w32) b.highs) where
    fits : (xs : List ℤ) → length xs ≡ 8 → Each1 (SFits w32) xs → (k : ℕ) → k < 8 → SFits w32 (get_or xs k (pos 0))
    fits xs e all k l = Each1-get_or (SFits w32) xs k (pos 0) (omega (arith, e, l)) all

    by_places : (tops : List ℤ → List ℤ → List ℤ → List ℤ → List Bool) → tops b.lefts b.rights b.lows b.highs
        ≡ tops (eight_of (λ k. get_or b.lefts k (pos 0))) (eight_of (λ k. get_or b.rights k (pos 0))) (eight_of (λ k. get_or b.lows k (pos 0))) (eight_of (λ k. get_or b.highs k (pos 0)))
    by_places tops =
        ap₂ (λ ls rs. tops ls rs b.lows b.highs) (eight_by_places b.lefts all_lefts (pos 0)) (eight_by_places b.rights all_rights (pos 0))
        ∙ ap₂ (λ bs hs. tops (eight_of (λ k. get_or b.lefts k (pos 0))) (eight_of (λ k. get_or b.rights k (pos 0))) bs hs) (eight_by_places b.lows all_lows (pos 0)) (eight_by_places b.highs all_highs (pos 0))

    reaching_at : (k : ℕ) → k < 8 → top 31 (lane_and (lane_and (lane_le (of_z w32 (get_or b.lefts k (pos 0))) (of_z w32 xm)) (lane_le (of_z w32 xl) (of_z w32 (get_or b.rights k (pos 0))))) (lane_and (lane_le (of_z w32 (get_or b.lows k (pos 0))) (of_z w32 ym)) (lane_le (of_z w32 yl) (of_z w32 (get_or b.highs k (pos 0))))))
        ≡ (int_le (get_or b.lefts k (pos 0)) xm && int_le xl (get_or b.rights k (pos 0))) && (int_le (get_or b.lows k (pos 0)) ym && int_le yl (get_or b.highs k (pos 0)))
    reaching_at k l = lane (get_or b.lefts k (pos 0)) xm xl (get_or b.rights k (pos 0)) (get_or b.lows k (pos 0)) ym yl (get_or b.highs k (pos 0))
        (fits b.lefts all_lefts lefts k l) fxm fxl (fits b.rights all_rights rights k l) (fits b.lows all_lows lows k l) fym fyl (fits b.highs all_highs highs k l)

    between_at : (k : ℕ) → k < 8 → top 31 (lane_and (lane_and (lane_le (of_z w32 xl) (of_z w32 (get_or b.lefts k (pos 0)))) (lane_le (of_z w32 (get_or b.rights k (pos 0))) (of_z w32 xm))) (lane_and (lane_le (of_z w32 yl) (of_z w32 (get_or b.lows k (pos 0)))) (lane_le (of_z w32 (get_or b.highs k (pos 0))) (of_z w32 ym))))
        ≡ (int_le xl (get_or b.lefts k (pos 0)) && int_le (get_or b.rights k (pos 0)) xm) && (int_le yl (get_or b.lows k (pos 0)) && int_le (get_or b.highs k (pos 0)) ym)
    between_at k l = lane xl (get_or b.lefts k (pos 0)) (get_or b.rights k (pos 0)) xm yl (get_or b.lows k (pos 0)) (get_or b.highs k (pos 0)) ym
        fxl (fits b.lefts all_lefts lefts k l) (fits b.rights all_rights rights k l) fxm fyl (fits b.lows all_lows lows k l) (fits b.highs all_highs highs k l) fym

    pub reaching_told : reaching_tops b.lefts b.rights b.lows b.highs ≡ map (λ k. (int_le k.x1 xm && int_le xl k.x2) && (int_le k.y1 ym && int_le yl k.y2)) (boxes_of b)
    reaching_told = by_places reaching_tops ∙ eight_same (reaching_at 0 (omega arith)) (reaching_at 1 (omega arith)) (reaching_at 2 (omega arith)) (reaching_at 3 (omega arith)) (reaching_at 4 (omega arith)) (reaching_at 5 (omega arith)) (reaching_at 6 (omega arith)) (reaching_at 7 (omega arith))

    pub between_told : between_tops b.lefts b.rights b.lows b.highs ≡ map (λ k. (int_le xl k.x1 && int_le k.x2 xm) && (int_le yl k.y1 && int_le k.y2 ym)) (boxes_of b)
    between_told = by_places between_tops ∙ eight_same (between_at 0 (omega arith)) (between_at 1 (omega arith)) (between_at 2 (omega arith)) (between_at 3 (omega arith)) (between_at 4 (omega arith)) (between_at 5 (omega arith)) (between_at 6 (omega arith)) (between_at 7 (omega arith))
