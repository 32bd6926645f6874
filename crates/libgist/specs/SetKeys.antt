-- Sets as two words: the masks of the numbers below 64 and of those from 64 on.
use Rattle.std.specs.Prelude.{◌+◌, ◌*◌, ◌/◌, ◌%◌, ◌^◌, Option, Some}
use Rattle.set_class.specs.declared.elements.Elements.{Elements}
use Rattle.libgist.specs.declared.words.KeyWords.{KeyWords}

-- the set of two words
abbrev pub set_told : KeyWords → Option Elements
set_told words = Some (record { mask = words.second * 2 ^ 64 + words.first })

-- the words of a set
abbrev pub set_words : Elements → KeyWords
set_words key = record { first = key.mask % 2 ^ 64; second = key.mask / 2 ^ 64 }
