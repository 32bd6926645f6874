-- Boxes as two words: the four ends, two in each word, with the first in the lower half.
use Rattle.std.specs.Prelude.{ℕ, ℤ, ◌+◌, ◌*◌, ◌/◌, ◌%◌, ◌^◌, Option}
use Rattle.std.specs.Int.{w32, cast_signed, cast_unsigned}
use Rattle.box_class.specs.declared.boxes.BoxKey.{BoxKey}
use Rattle.query_text.specs.BoxTexts.{box_of}
use Rattle.libgist.specs.declared.words.KeyWords.{KeyWords}

-- the lower half of a word, and the upper, as signed numbers
abbrev pub lower_half : ℕ → ℤ
lower_half word = cast_signed w32 (word % 2 ^ 32)

abbrev pub upper_half : ℕ → ℤ
upper_half word = cast_signed w32 (word / 2 ^ 32)

-- the word with these halves
abbrev pub word_of : ℤ → ℤ → ℕ
word_of lower upper = cast_unsigned w32 upper * 2 ^ 32 + cast_unsigned w32 lower

-- the box of two words, if its ends are in order
abbrev pub box_told : KeyWords → Option BoxKey
box_told words = box_of (lower_half words.first) (upper_half words.first) (lower_half words.second) (upper_half words.second)

-- the words of a box
abbrev pub box_words : BoxKey → KeyWords
box_words key = record { first = word_of key.x1 key.y1; second = word_of key.x2 key.y2 }
