mod Counting
pub mod Ending
pub mod Finding
mod Going
mod Live
mod Living
mod Passing
pub mod Taken
