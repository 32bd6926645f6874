-- Eight intervals in columns.
use Rattle.std.specs.Prelude.{ℕ, List, pos, slice_index_or}
use Rattle.key_class.specs.Blocks.{eight_of}
use Rattle.interval_class.specs.declared.interval.Interval.{Interval}
use Rattle.interval_class.specs.declared.block.IntervalBlock.{IntervalBlock}

-- the interval at a place
abbrev pub interval_at : IntervalBlock → ℕ → Interval
interval_at b k = record { lo = slice_index_or b.lows k (pos 0); hi = slice_index_or b.highs k (pos 0); ordered = b.ordered k }

abbrev pub intervals_of : IntervalBlock → List Interval
intervals_of b = eight_of (interval_at b)
