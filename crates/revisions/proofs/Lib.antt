pub mod Applying
pub mod Counting
pub mod Forgetting
pub mod Going
