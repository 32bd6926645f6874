pub mod Judging
pub mod Looking
pub mod Marking
mod Streams
