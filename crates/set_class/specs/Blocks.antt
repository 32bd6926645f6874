-- Eight sets in columns.
use Rattle.std.specs.Prelude.{ℕ, ◌+◌, ◌*◌, ◌^◌, List, slice_index_or}
use Rattle.key_class.specs.Blocks.{eight_of}
use Rattle.set_class.specs.declared.elements.Elements.{Elements}
use Rattle.set_class.specs.declared.block.SetBlock.{SetBlock}

-- the set at a place
abbrev pub set_at : SetBlock → ℕ → Elements
set_at b k = record { mask = slice_index_or b.uppers k 0 * 2 ^ 64 + slice_index_or b.lowers k 0 }

abbrev pub sets_of : SetBlock → List Elements
sets_of b = eight_of (set_at b)
