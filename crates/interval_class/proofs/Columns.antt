-- Eight intervals by their columns.
use Rattle.std.proofs.Common.{◌≡◌, ◌∙◌, ◌<◌, ℕ, arith, get_or, length, set, ap}
use Rattle.std.proofs.lemmas.List.{get_or-set_other, get_or-set_same}
use Rattle.std.proofs.lemmas.Simd.{get_or-replicate}
use Rattle.std.specs.Prelude.{pos, replicate, slice_set}
use Rattle.key_class.specs.BlockLaws.{eight_alike, eight_filled, eight_set}
use Rattle.interval_class.specs.Blocks.{interval_at, intervals_of}
use Rattle.interval_class.specs.Same.{same_interval}
use Rattle.interval_class.specs.declared.interval.Interval.{Interval}
use Rattle.interval_class.specs.declared.block.IntervalBlock.{IntervalBlock}

pub filled : (block : IntervalBlock) (x : Interval) → block.lows ≡ replicate 8 x.lo → block.highs ≡ replicate 8 x.hi → intervals_of block ≡ replicate 8 x
filled block x lows highs =
    eight_filled (interval_at block) x (λ k l. same_interval (interval_at block k) x
    (ap (λ xs. get_or xs k (pos 0)) lows ∙ get_or-replicate 8 k x.lo (pos 0) l)
    (ap (λ xs. get_or xs k (pos 0)) highs ∙ get_or-replicate 8 k x.hi (pos 0) l))

pub copied : (a b : IntervalBlock) → a.lows ≡ b.lows → a.highs ≡ b.highs → intervals_of a ≡ intervals_of b
copied a b lows highs =
    eight_alike (interval_at a) (interval_at b) (λ k. same_interval (interval_at a k) (interval_at b k) (ap (λ xs. get_or xs k (pos 0)) lows) (ap (λ xs. get_or xs k (pos 0)) highs))

pub with_one : (block old : IntervalBlock) (place : ℕ) (x : Interval) → place < 8 → length old.lows ≡ 8 → length old.highs ≡ 8 → block.lows ≡ set old.lows place x.lo → block.highs ≡ set old.highs place x.hi
    → intervals_of block ≡ slice_set (intervals_of old) place x
with_one block old place x within all_lows all_highs lows highs =
    eight_set (interval_at block) (interval_at old) place x within
    (same_interval (interval_at block place) x
    (ap (λ xs. get_or xs place (pos 0)) lows ∙ get_or-set_same old.lows place x.lo (pos 0) (omega (arith, all_lows, within)))
    (ap (λ xs. get_or xs place (pos 0)) highs ∙ get_or-set_same old.highs place x.hi (pos 0) (omega (arith, all_highs, within))))
    (λ k l n. same_interval (interval_at block k) (interval_at old k)
    (ap (λ xs. get_or xs k (pos 0)) lows ∙ get_or-set_other old.lows place k x.lo (pos 0) n)
    (ap (λ xs. get_or xs k (pos 0)) highs ∙ get_or-set_other old.highs place k x.hi (pos 0) n))
