-- Entries and items of maps, in the layout that C reads.
use Rattle.std.specs.Prelude.{ℕ, Bool, true, false, length, Option, Some, None}
use Rattle.revisions.specs.declared.entry.MapEntry.{MapEntry}
use Rattle.revisions.specs.declared.item.MapItem.{MapItem}
use Rattle.revisions.specs.declared.item.MapItem.TheVariants.{Entered, Moved, Left}
use Rattle.revisions.specs.Maps.{MapState, entries_of, revision_of}
use Rattle.libgist.specs.declared.figures.MapFigures.{MapFigures}
use Rattle.libgist.specs.declared.words.KeyWords.{KeyWords}
use Rattle.libgist.specs.declared.words.ShownEntry.{ShownEntry}
use Rattle.libgist.specs.declared.words.ShownMapItem.{ShownMapItem}
use Rattle.libgist.specs.declared.words.ToldMapItem.{ToldMapItem}
use Rattle.libgist.specs.Shown.{no_words}

module _ {K : Type 0} (words_of : K → KeyWords) where
  -- a key, or zeros, and whether there is one
  abbrev pub key_shown : Option K → KeyWords × Bool
  key_shown (Some key) = (words_of key, true)
  key_shown None = (no_words, false)

  abbrev pub shown_entry : MapEntry K → ShownEntry
  shown_entry entry = record { id = entry.id; key = words_of entry.key }

  abbrev pub shown_map_item : MapItem K → ShownMapItem
  shown_map_item (Entered revision id key) = record { kind = 1; revision = revision; id = id; key = words_of key }
  shown_map_item (Moved revision id key) = record { kind = 2; revision = revision; id = id; key = words_of key }
  shown_map_item (Left revision id) = record { kind = 3; revision = revision; id = id; key = no_words }

  -- an item for a subscription
  abbrev pub told_map_item : ℕ × MapItem K → ToldMapItem
  told_map_item told = record { serial = told.0; item = shown_map_item told.1 }

-- where a map with an identity is
abbrev pub map_figures : {K : Type 0} → ℕ → MapState K → MapFigures
map_figures identity map = record { revision = revision_of map; oldest = map.oldest; len = length (entries_of map); identity = identity }
