pub mod Ended
pub mod Finds
pub mod Life
pub mod Snapshots
