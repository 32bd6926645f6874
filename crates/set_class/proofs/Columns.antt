-- Eight sets by their columns.
use Rattle.std.proofs.Common.{◌≡◌, ◌∙◌, ◌<◌, ◌+◌, ◌*◌, ◌/◌, ◌%◌, ◌^◌, ℕ, arith, get_or, length, set, ap, ap₂}
use Rattle.std.proofs.lemmas.List.{get_or-set_other, get_or-set_same}
use Rattle.std.proofs.lemmas.Simd.{get_or-replicate}
use Rattle.std.specs.Prelude.{replicate, slice_set}
use Rattle.key_class.specs.BlockLaws.{eight_filled, eight_set}
use Rattle.set_class.specs.Blocks.{set_at, sets_of}
use Rattle.set_class.specs.declared.elements.Elements.{Elements}
use Rattle.set_class.specs.declared.block.SetBlock.{SetBlock}

from_halves : (x : Elements) {u l : ℕ} → u ≡ x.mask / 2 ^ 64 → l ≡ x.mask % 2 ^ 64 → record { mask = u * 2 ^ 64 + l } ≡ x
from_halves x p q = let e : x.mask / 2 ^ 64 * 2 ^ 64 + x.mask % 2 ^ 64 ≡ x.mask = omega arith in ap₂ (λ u l. record { mask = u * 2 ^ 64 + l }) p q ∙ ap (λ m. record { mask = m }) e

pub filled : (block : SetBlock) (x : Elements) → block.lowers ≡ replicate 8 (x.mask % 2 ^ 64) → block.uppers ≡ replicate 8 (x.mask / 2 ^ 64) → sets_of block ≡ replicate 8 x
filled block x lowers uppers =
    eight_filled (set_at block) x (λ k l. from_halves x
    (ap (λ xs. get_or xs k 0) uppers ∙ get_or-replicate 8 k (x.mask / 2 ^ 64) 0 l)
    (ap (λ xs. get_or xs k 0) lowers ∙ get_or-replicate 8 k (x.mask % 2 ^ 64) 0 l))

pub with_one : (block old : SetBlock) (place : ℕ) (x : Elements) → place < 8 → length old.lowers ≡ 8 → length old.uppers ≡ 8 → block.lowers ≡ set old.lowers place (x.mask % 2 ^ 64) → block.uppers ≡ set old.uppers place (x.mask / 2 ^ 64)
    → sets_of block ≡ slice_set (sets_of old) place x
with_one block old place x within all_lowers all_uppers lowers uppers =
    eight_set (set_at block) (set_at old) place x within
    (from_halves x
    (ap (λ xs. get_or xs place 0) uppers ∙ get_or-set_same old.uppers place (x.mask / 2 ^ 64) 0 (omega (arith, all_uppers, within)))
    (ap (λ xs. get_or xs place 0) lowers ∙ get_or-set_same old.lowers place (x.mask % 2 ^ 64) 0 (omega (arith, all_lowers, within))))
    (λ k l n. ap₂ (λ u m. record { mask = u * 2 ^ 64 + m })
    (ap (λ xs. get_or xs k 0) uppers ∙ get_or-set_other old.uppers place k (x.mask / 2 ^ 64) 0 n)
    (ap (λ xs. get_or xs k 0) lowers ∙ get_or-set_other old.lowers place k (x.mask % 2 ^ 64) 0 n))
