pub mod Counts
pub mod Fills
pub mod Limited
pub mod Live
pub mod Picks
pub mod Radix
pub mod Searches
pub mod Sinks
