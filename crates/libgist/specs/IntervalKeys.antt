-- Intervals as two words: one for each end.
use Rattle.std.specs.Prelude.{Option}
use Rattle.std.specs.Int.{w64, cast_signed, cast_unsigned}
use Rattle.interval_class.specs.declared.interval.Interval.{Interval}
use Rattle.query_text.specs.IntervalTexts.{interval_of}
use Rattle.libgist.specs.declared.words.KeyWords.{KeyWords}

-- the interval of two words, if its ends are in order
abbrev pub interval_told : KeyWords → Option Interval
interval_told words = interval_of (cast_signed w64 words.first) (cast_signed w64 words.second)

-- the words of an interval
abbrev pub interval_words : Interval → KeyWords
interval_words key = record { first = cast_unsigned w64 key.lo; second = cast_unsigned w64 key.hi }
