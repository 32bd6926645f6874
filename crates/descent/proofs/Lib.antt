pub mod Best
mod Covering
pub mod Descending
pub mod Entering
mod Gains
pub mod Rising
pub mod Seeking
pub mod Widening
