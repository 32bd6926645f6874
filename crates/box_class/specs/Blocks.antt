-- Eight boxes in columns.
use Rattle.std.specs.Prelude.{ℕ, List, pos, slice_index_or}
use Rattle.key_class.specs.Blocks.{eight_of}
use Rattle.box_class.specs.declared.boxes.BoxKey.{BoxKey}
use Rattle.box_class.specs.declared.block.BoxBlock.{BoxBlock}

-- the box at a place
abbrev pub box_at : BoxBlock → ℕ → BoxKey
box_at b k = record {
  x1 = slice_index_or b.lefts k (pos 0);
  y1 = slice_index_or b.lows k (pos 0);
  x2 = slice_index_or b.rights k (pos 0);
  y2 = slice_index_or b.highs k (pos 0);
  x_ordered = b.x_ordered k;
  y_ordered = b.y_ordered k;
}

abbrev pub boxes_of : BoxBlock → List BoxKey
boxes_of b = eight_of (box_at b)
