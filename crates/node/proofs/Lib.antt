mod Marking
pub mod PartEnds
mod Zipped
