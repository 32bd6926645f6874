pub mod Numbers
pub mod Remains
pub mod Shards
