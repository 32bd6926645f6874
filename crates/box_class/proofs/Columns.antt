-- Eight boxes by their columns.
use Rattle.std.proofs.Common.{◌≡◌, ◌∙◌, ◌<◌, ◌≤ℤ◌, ℕ, zero, suc, ℤ, List, [], ◌∷◌, arith, get_or, length, set, sym, subst, ap, w32, to_z, of_z}
use Rattle.std.proofs.lemmas.Int.{to_z-of_z}
use mir.Val.{SFits}
use Rattle.std.proofs.lemmas.List.{get_or-set_other, get_or-set_same}
use Rattle.std.proofs.lemmas.Simd.{get_or-replicate}
use Rattle.std.specs.Prelude.{pos, replicate, slice_set}
use Rattle.key_class.specs.BlockLaws.{eight_alike, eight_filled, eight_set}
use Rattle.box_class.specs.Blocks.{box_at, boxes_of}
use Rattle.box_class.specs.BoxLaws.{same_box}
use Rattle.box_class.specs.declared.boxes.BoxKey.{BoxKey}
use Rattle.box_class.specs.declared.block.BoxBlock.{BoxBlock}

pub filled : (block : BoxBlock) (x : BoxKey) → block.lefts ≡ replicate 8 x.x1 → block.lows ≡ replicate 8 x.y1 → block.rights ≡ replicate 8 x.x2 → block.highs ≡ replicate 8 x.y2 → boxes_of block ≡ replicate 8 x
filled block x lefts lows rights highs =
    eight_filled (box_at block) x (λ k l. same_box (box_at block k) x
    (ap (λ xs. get_or xs k (pos 0)) lefts ∙ get_or-replicate 8 k x.x1 (pos 0) l)
    (ap (λ xs. get_or xs k (pos 0)) lows ∙ get_or-replicate 8 k x.y1 (pos 0) l)
    (ap (λ xs. get_or xs k (pos 0)) rights ∙ get_or-replicate 8 k x.x2 (pos 0) l)
    (ap (λ xs. get_or xs k (pos 0)) highs ∙ get_or-replicate 8 k x.y2 (pos 0) l))

pub copied : (a b : BoxBlock) → a.lefts ≡ b.lefts → a.lows ≡ b.lows → a.rights ≡ b.rights → a.highs ≡ b.highs → boxes_of a ≡ boxes_of b
copied a b lefts lows rights highs =
    eight_alike (box_at a) (box_at b) (λ k. same_box (box_at a k) (box_at b k)
    (ap (λ xs. get_or xs k (pos 0)) lefts)
    (ap (λ xs. get_or xs k (pos 0)) lows)
    (ap (λ xs. get_or xs k (pos 0)) rights)
    (ap (λ xs. get_or xs k (pos 0)) highs))

pub with_one : (block old : BoxBlock) (place : ℕ) (x : BoxKey) → place < 8 → length old.lefts ≡ 8 → length old.lows ≡ 8 → length old.rights ≡ 8 → length old.highs ≡ 8 → block.lefts ≡ set old.lefts place x.x1 → block.lows ≡ set old.lows place x.y1 → block.rights ≡ set old.rights place x.x2 → block.highs ≡ set old.highs place x.y2
    → boxes_of block ≡ slice_set (boxes_of old) place x
with_one block old place x within all_lefts all_lows all_rights all_highs lefts lows rights highs =
    eight_set (box_at block) (box_at old) place x within
    (same_box (box_at block place) x
    (ap (λ xs. get_or xs place (pos 0)) lefts ∙ get_or-set_same old.lefts place x.x1 (pos 0) (omega (arith, all_lefts, within)))
    (ap (λ xs. get_or xs place (pos 0)) lows ∙ get_or-set_same old.lows place x.y1 (pos 0) (omega (arith, all_lows, within)))
    (ap (λ xs. get_or xs place (pos 0)) rights ∙ get_or-set_same old.rights place x.x2 (pos 0) (omega (arith, all_rights, within)))
    (ap (λ xs. get_or xs place (pos 0)) highs ∙ get_or-set_same old.highs place x.y2 (pos 0) (omega (arith, all_highs, within))))
    (λ k l n. same_box (box_at block k) (box_at old k)
    (ap (λ xs. get_or xs k (pos 0)) lefts ∙ get_or-set_other old.lefts place k x.x1 (pos 0) n)
    (ap (λ xs. get_or xs k (pos 0)) lows ∙ get_or-set_other old.lows place k x.y1 (pos 0) n)
    (ap (λ xs. get_or xs k (pos 0)) rights ∙ get_or-set_other old.rights place k x.x2 (pos 0) n)
    (ap (λ xs. get_or xs k (pos 0)) highs ∙ get_or-set_other old.highs place k x.y2 (pos 0) n))

no_more : (n : ℕ) → 0 ≡ suc n → ⊥
no_more n e = omega arith

-- two columns in order are so once another pair in order stands at a place
still_ordered : (xs ys : List ℤ) (i : ℕ) (x y : ℤ) → x ≤ℤ y → length xs ≡ length ys → ((k : ℕ) → get_or xs k (pos 0) ≤ℤ get_or ys k (pos 0)) → (k : ℕ) → get_or (set xs i x) k (pos 0) ≤ℤ get_or (set ys i y) k (pos 0)
still_ordered [] [] i x y h e o k = o 0
still_ordered [] (b ∷ ys) i x y h e o k = absurd (no_more (length ys) e)
still_ordered (a ∷ xs) [] i x y h e o k = absurd (no_more (length xs) (sym e))
still_ordered (a ∷ xs) (b ∷ ys) zero x y h e o zero = h
still_ordered (a ∷ xs) (b ∷ ys) zero x y h e o (suc k) = o (suc k)
still_ordered (a ∷ xs) (b ∷ ys) (suc i) x y h e o zero = o 0
still_ordered (a ∷ xs) (b ∷ ys) (suc i) x y h e o (suc k) = still_ordered xs ys i x y h (omega arith) (λ k. o (suc k)) k

-- the same of a pair that is read from its bits
pub ordered_lanes : (xs ys : List ℤ) (i : ℕ) (x y : ℤ) → SFits w32 x → SFits w32 y → x ≤ℤ y → length xs ≡ 8 → length ys ≡ 8 → ((k : ℕ) → get_or xs k (pos 0) ≤ℤ get_or ys k (pos 0)) → (k : ℕ) → get_or (set xs i (to_z w32 (of_z w32 x))) k (pos 0) ≤ℤ get_or (set ys i (to_z w32 (of_z w32 y))) k (pos 0)
ordered_lanes xs ys i x y f g h e l o =
    still_ordered xs ys i (to_z w32 (of_z w32 x)) (to_z w32 (of_z w32 y))
    (subst (λ v. v ≤ℤ to_z w32 (of_z w32 y)) (sym (to_z-of_z w32 x f)) (subst (λ v. x ≤ℤ v) (sym (to_z-of_z w32 y g)) h))
    (e ∙ sym l) o
