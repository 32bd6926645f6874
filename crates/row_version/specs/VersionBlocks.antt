-- Eight versions in columns.
use Rattle.std.specs.Prelude.{ℕ, List, slice_index_or}
use Rattle.key_class.specs.Blocks.{eight_of}
use Rattle.row_version.specs.Entries.{Version, death_of}
use Rattle.row_version.specs.declared.version_block.VersionBlock.{VersionBlock}

-- the version at a place
abbrev pub version_at : VersionBlock → ℕ → Version
version_at b k = record { row = slice_index_or b.rows k 0; tag = slice_index_or b.tags k 0; died = death_of (slice_index_or b.died k 0) }

abbrev pub versions_of : VersionBlock → List Version
versions_of b = eight_of (version_at b)
