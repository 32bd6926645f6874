mod Eights
pub mod Passing
mod Removing
mod Rewritten
