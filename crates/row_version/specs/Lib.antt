pub mod Entries
pub mod VersionBlocks
