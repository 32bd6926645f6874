pub mod Hearing
pub mod Judging
pub mod Looking
pub mod Outcomes
pub mod Sizes
pub mod Streams
