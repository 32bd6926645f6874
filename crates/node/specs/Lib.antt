pub mod Changes
pub mod EntryBlocks
pub mod Pages
pub mod Parts
